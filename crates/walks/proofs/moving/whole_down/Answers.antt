-- `walks::moving::whole_down` meets its contract. Assumes nothing.
use Rattle.std.proofs.Common.{rules}
use Rattle.walks.proofs.Ways.{as_err, halts, follows, landed, whole_down-is}
use Rattle.walks.proofs.moving.whole_down.Goals as goal

pub returns-in_err-e-clause-stands : goal.returns-in_err-e-clause-stands
returns-in_err-e-clause-stands g c =
    as_err (search rules) (whole_down-is _ _ (rw (c.rows-rows.ensures, c.requires.3)) c.size_at-next.ensures.0 (halts _ c.in_err-e.ensures.stands))

pub returns-clause-stands : goal.returns-clause-stands
returns-clause-stands g c =
    whole_down-is _ _ (rw (c.rows-rows.ensures, c.requires.3)) c.size_at-next.ensures.0 (follows _ c.in_ok-e.ensures.stands (landed _ c.landed_whole.ensures.stands))
