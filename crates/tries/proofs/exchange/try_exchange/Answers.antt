-- `tries::exchange::try_exchange` meets its contract. Assumes nothing.
use mathlib.Core.Bool.{true, false}
use mathlib.Core.Path.{refl, sym, ◌∙◌}
use Rattle.model.specs.Stopping.{test_fails}
use Rattle.swaps.proofs.Sizes.{one1, one2}
use Rattle.tries.proofs.Tries.{failed, passed, whole, single}
use Rattle.tries.proofs.exchange.try_exchange.Goals as goal

pub returns-then-b-eq2 : goal.returns-then-b-eq2
unfolding test_fails
returns-then-b-eq2 c =
    rw (one1 c.args.b c.if-b-eq2.true, one2 c.args.b c.if-b-eq2.true) (whole _ _ _ 1 1 _ false (single _ _ _ _ c.schur_swap_11.ensures c.schur_swap_11.auto.u) refl)

pub returns-then-try_swap : goal.returns-then-try_swap
returns-then-try_swap c =
    let w = c.try_swap in
    let h = sym w.ensures.1 ∙ c.if-try_swap.true in
    whole _ _ _ _ _ _ true (failed _ _ _ _ _ _ h w.ensures.0) (sym h)

pub returns : goal.returns
returns c =
    let w = c.try_swap in
    let h = sym w.ensures.1 ∙ c.if-try_swap.false in
    let a = c.standardise_also in
    whole _ _ _ _ _ _ false (passed _ _ _ _ _ _ h w.ensures.0 w.auto.u a.ensures a.auto.u c.standardise_also-2.ensures) (sym h)
