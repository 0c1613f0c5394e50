-- `walks::moving::past_two_up` meets its contract. Assumes nothing.
use mathlib.Core.Path.{sym, ◌∙◌}
use mathlib.Core.Bool.{true, false}
use Rattle.std.proofs.Common.{rules}
use Rattle.walks.proofs.Ways.{as_err, halts, follows, arrives, past_two_up_is}
use Rattle.walks.proofs.moving.past_two_up.Goals as goal

pub returns-in_err-a-clause-stands : goal.returns-in_err-a-clause-stands
returns-in_err-a-clause-stands g c =
    as_err (search rules) (past_two_up_is _ true (sym c.zero_below.ensures ∙ c.if-zero_below.true) (halts _ (halts _ c.in_err-a.ensures.stands)))

pub returns-in_err-b-clause-stands : goal.returns-in_err-b-clause-stands
returns-in_err-b-clause-stands g c =
    as_err (search rules) (past_two_up_is _ true (sym c.zero_below.ensures ∙ c.if-zero_below.true) (halts _ (follows _ c.in_ok-a.ensures.stands c.in_err-b.ensures.stands)))

pub returns-then-zero_below-clause-stands : goal.returns-then-zero_below-clause-stands
returns-then-zero_below-clause-stands g c =
    past_two_up_is _ true (sym c.zero_below.ensures ∙ c.if-zero_below.true) (follows _ (follows _ c.in_ok-a.ensures.stands c.in_ok-b.ensures.stands) (arrives c.arrived.ensures))

pub returns-in_err-a-2-clause-stands : goal.returns-in_err-a-2-clause-stands
returns-in_err-a-2-clause-stands g c =
    as_err (search rules) (past_two_up_is _ false (sym c.zero_below.ensures ∙ c.if-zero_below.false) (halts _ c.in_err-a-2.ensures.stands))

pub returns-clause-stands : goal.returns-clause-stands
returns-clause-stands g c =
    past_two_up_is _ false (sym c.zero_below.ensures ∙ c.if-zero_below.false) (follows _ c.in_ok-a-2.ensures.stands (arrives c.arrived-2.ensures))
