-- `walks::moving::whole_up` meets its contract. Assumes nothing.
use Rattle.std.proofs.Common.{rules}
use Rattle.walks.proofs.Ways.{as_err, halts, follows, landed, whole_up-is}
use Rattle.walks.proofs.moving.whole_up.Goals as goal

pub returns-in_err-e-clause-stands : goal.returns-in_err-e-clause-stands
returns-in_err-e-clause-stands g c =
    as_err (search rules) (whole_up-is _ _ (rw (c.rows-rows.ensures, c.requires.3)) c.size_above-next.ensures.0 (halts _ c.in_err-e.ensures.stands))

pub returns-clause-stands : goal.returns-clause-stands
returns-clause-stands g c =
    whole_up-is _ _ (rw (c.rows-rows.ensures, c.requires.3)) c.size_above-next.ensures.0 (follows _ c.in_ok-e.ensures.stands (landed _ c.landed_whole.ensures.stands))
