-- A column's sum of magnitudes over the part that is summed. Assumes nothing.
use mathlib.Core.Path.{◌≡◌, refl}
use mathlib.Core.Bool.{Bool, true, false, cond}
use mathlib.Core.List.{List}
use Prim.Native.Nat.{ℕ, zero, suc, ◌+◌, ◌-◌, ◌≤◌, ◌<◌, min}
use native.Mathlib.Nat.{add-sub_cancel_left}
use native.Mathlib.Omega.{arith}
use lib.Dec.{ltb}
use lib.ListN.{length, take, drop}
use lib.Seq.{drop-cons}
use lib.Ieee.{Float, binary64, nan, add}
use borrow.Author.Tests.{ltb-true, ltb-false}
use Rattle.std.specs.List.{fold}
use Rattle.model.specs.Form.{at}
use Rattle.model.specs.Arith.{abs1}
use Rattle.model.specs.Vectors.{sum_from, rows_to}

-- how many rows of column j are summed
pub least : (n j : ℕ) → min n (j + 2) ≡ rows_to n j
unfolding rows_to
least n j = pick (ltb (j + 2) n) (ltb-true (j + 2) n) (ltb-false (j + 2) n)
  where
    pick : (x : Bool) → (x ≡ true → j + 2 < n) → (x ≡ false → n ≤ j + 2) → min n (j + 2) ≡ cond x (j + 2) n
    pick true f g = let h = f refl in omega arith
    pick false f g = let h = g refl in omega arith

-- k numbers from place p on, the i-th first
fold_is : (t : List Float) (p k i : ℕ) (a : Float) → p + i + k ≤ length t → fold (λ (s x : Float). add binary64 s (abs1 x)) a (take k (drop (p + i) t)) ≡ sum_from binary64 t p k i a
unfolding sum_from
fold_is t p zero i a h = refl
fold_is t p (suc k) i a h =
    let next : suc (p + i) ≡ p + (i + 1) = omega arith in
    rw (drop-cons t (p + i) nan (omega arith), next) (fold_is t p k (i + 1) (add binary64 a (abs1 (at t (p + i)))) (omega arith))

-- of the part as the code cuts it
pub part_sum : (t : List Float) (p k : ℕ) (a : Float) → p + k ≤ length t → fold (λ (s x : Float). add binary64 s (abs1 x)) a (take (p + k - p) (drop p t)) ≡ sum_from binary64 t p k 0 a
part_sum t p k a h =
    let e : p + 0 ≡ p = omega arith in
    let inside : p + 0 + k ≤ length t = omega arith in
    let sum = fold_is t p k 0 a inside in
    rw add-sub_cancel_left (rw e at sum)
