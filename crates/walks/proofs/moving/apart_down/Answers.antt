-- `walks::moving::apart_down` meets its contract. Assumes nothing.
use Rattle.std.proofs.Common.{rules}
use Rattle.walks.proofs.Ways.{as_err, halts, follows, arrives, is_one, is_two, apart_down_is}
use Rattle.walks.proofs.moving.apart_down.Goals as goal

pub returns-in_err-below-clause-stands : goal.returns-in_err-below-clause-stands
returns-in_err-below-clause-stands g c =
    as_err (search rules) (apart_down_is _ c.size_at-next.ensures.0 (halts _ c.in_err-below.ensures.stands))

pub returns-in_err-a-clause-stands : goal.returns-in_err-a-clause-stands
returns-in_err-a-clause-stands g c =
    as_err (search rules) (apart_down_is _ c.size_at-next.ensures.0 (follows _ c.in_ok-below.ensures.stands (is_one _ _ _ c.if-next-eq1.true (halts _ c.in_err-a.ensures.stands))))

pub returns-then-next-eq1-clause-stands : goal.returns-then-next-eq1-clause-stands
returns-then-next-eq1-clause-stands g c =
    apart_down_is _ c.size_at-next.ensures.0 (follows _ c.in_ok-below.ensures.stands (is_one _ _ _ c.if-next-eq1.true (follows _ c.in_ok-a.ensures.stands (arrives c.arrived.ensures))))

pub returns-clause-stands : goal.returns-clause-stands
returns-clause-stands g c =
    apart_down_is _ c.size_at-next.ensures.0 (follows _ c.in_ok-below.ensures.stands (is_two _ _ _ c.if-next-eq1.false c.past_two_down.ensures.stands))
