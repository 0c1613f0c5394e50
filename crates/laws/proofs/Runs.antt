-- The runs of one change and then another, and their counts. Assumes nothing.
use mathlib.Core.Path.{◌≡◌, sym, ap, ◌∙◌}
use Prim.Native.Nat.{ℕ, ◌+◌}
use native.Mathlib.Nat.{zero-add, add_assoc}
use mathlib.Core.Bool.{cond}
use mathlib.Core.List.{List, [], ◌∷◌, ◌++◌}
use lib.ListN.{length-append}
use lib.Ieee.{Float}
use Rattle.model.specs.Swaps.{Swap, Change, declines_in, swaps_of, declined_of, and_then}

pub declines-append : (a b : List Swap) → declines_in (a ++ b) ≡ declines_in a + declines_in b
unfolding declines_in
declines-append [] b = sym (zero-add _)
declines-append (r ∷ rs) b =
    ap (λ (k : ℕ). cond r.declined 1 0 + k) (declines-append rs b) ∙ sym (add_assoc (cond r.declined 1 0) (declines_in rs) (declines_in b))

pub swaps_then : (c : Change) (next : List Float → Change) → swaps_of (and_then c next) ≡ swaps_of c + swaps_of (next c.form)
unfolding and_then
swaps_then c next = simp length-append

pub declined_then : (c : Change) (next : List Float → Change) → declined_of (and_then c next) ≡ declined_of c + declined_of (next c.form)
unfolding and_then
declined_then c next = declines-append c.runs (next c.form).runs
