-- `exchanges::exchange::swap_of` meets its contract. Assumes nothing.
use mathlib.Core.Path.{refl, sym}
use Prim.Native.Nat.{◌≤◌}
use mathlib.Core.Bool.{Bool, true, false, cond}
use lib.Dec.{lit≤}
use borrow.Author.Tests.{ne_eqb}
use Rattle.laws_exchange.proofs.Counts.{pair-counts}
use Rattle.model.specs.Swaps.{declines_in, swap_of, swap11, swap12, swap21}
use Rattle.exchanges.proofs.exchange.swap_of.Goals as goal
use Rattle.exchanges.proofs.exchange.swap_of.Goals.{in-1-eq1, in-1-default, in_default-eq1, in_default}

once : (b : Bool) → cond b 1 0 ≤ 1
once true = lit≤ tt
once false = lit≤ tt

pub returns : goal.returns
unfolding swap_of swap11 swap12 swap21 declines_in
returns c =
    rw c.of_one.ensures
    (elim c.match-b.branch [
      | in-1-eq1 w ↦ rw (w.t-is, w.u-is, w.declined-is, w.in-1-eq1.is-0, w.in-1-eq1.is-1) (record { done = w.schur_swap_11.ensures; swaps = refl; declined = refl }, refl, lit≤ tt)
      | in-1-default w ↦ rw (w.t-is, w.u-is, w.declined-is, w.in-1-default.is-0, ne_eqb _ _ w.in-1-default.is-1.1) (record { done = w.schur_swap_12.ensures; swaps = refl; declined = refl }, refl, lit≤ tt)
      | in_default-eq1 w ↦ rw (w.t-is, w.u-is, w.declined-is, ne_eqb _ _ w.in_default-eq1.is-0.1, w.in_default-eq1.is-1) (record { done = w.schur_swap_21.ensures; swaps = refl; declined = refl }, refl, lit≤ tt)
      | in_default w ↦ let x = w.schur_swap_22-declined.ensures in rw (w.t-is, w.u-is, w.declined-is, ne_eqb _ _ w.in_default.is-0.1, ne_eqb _ _ w.in_default.is-1.1) (record { done = x.0; swaps = sym (pair-counts _ _ _ _ _); declined = sym x.1 }, refl, once _)
    ])
