-- Laws of `some`: it is false exactly where each number fails. Assumes nothing.
use mathlib.Core.Path.{◌≡◌, refl, sym, ap, ◌∙◌}
use mathlib.Core.Logic.{◌⊎◌, inl, inr}
use mathlib.Core.Bool.{Bool, true, false, not, ◌||◌, true≢false}
use Prim.Native.Nat.{ℕ, zero, suc, ◌+◌, ◌-◌, ◌≤◌, ◌<◌}
use native.Mathlib.Nat.{eq-or-lt_of_le, le_of_suc-le-suc}
use native.Mathlib.Numerals.{add-one}
use native.Mathlib.Omega.{arith}
use lib.ListN.{length, take, drop}
use lib.Ieee.{Float, nan}
use mathlib.Core.List.{List, [], ◌∷◌}
use Rattle.std.proofs.lemmas.Simd.{none_from_empty_mask, get_or-chunk, length-chunk}
use Rattle.std.proofs.Common.{map, zero-add, get_or}
use Rattle.std.proofs.Math.Seq.{take-length}
use Rattle.std.specs.List.{list_any, fold, range_with_len}
use Rattle.std.proofs.lemmas.Bool.{or_parts, true_from_ne_false}
use Rattle.std.proofs.lemmas.List.Folds.{list_any_more}
use Rattle.std.proofs.lemmas.List.Sums.{fold_more}
use Rattle.std.proofs.lemmas.List.FromFn.{length-range_with_len, get_or-range_with_len}
use lib.Lanes.{mask_l, chunk}
use lib.Dec.{eqb}
use borrow.Author.Tests.{eqb-true, not-false}
use Rattle.std.proofs.lemmas.List.{get_or-take, get_or-drop, length-drop, length-take-le}
use Rattle.model.specs.Form.{at, some}

pub same : (a b : Bool) → (a ≡ false → b ≡ false) → (b ≡ false → a ≡ false) → a ≡ b
same true true f g = refl
same true false f g = g refl
same false true f g = sym (f refl)
same false false f g = refl

pub all_fail : (n : ℕ) (p : ℕ → Bool) → ((k : ℕ) → k < n → p k ≡ false) → some n p ≡ false
unfolding some
all_fail zero p h = refl
all_fail (suc n) p h = rw (all_fail n p (λ k g. h k (omega arith)), h n (omega arith))

pub fails : (n : ℕ) (p : ℕ → Bool) → some n p ≡ false → (k : ℕ) → k < n → p k ≡ false
unfolding some
fails zero p e k h = absurd (omega arith)
fails (suc n) p e k h = pick (eq-or-lt_of_le (le_of_suc-le-suc h)) (fails n p (or_parts (some n p) (p n) e).0)
  where
    pick : (k ≡ n) ⊎ (k < n) → ((i : ℕ) → i < n → p i ≡ false) → p k ≡ false
    pick (inl g) r = ap p g ∙ (or_parts (some n p) (p n) e).1
    pick (inr g) r = r k g

pub found : (n : ℕ) (p : ℕ → Bool) (k : ℕ) → k < n → p k ≡ true → some n p ≡ true
found n p k h e = true_from_ne_false (some n p) (λ z. true≢false (sym e ∙ fails n p z k h))

-- ---- along a list or a range, as `any` and `fold` go
any_to : {X : Type 0} (p : X → Bool) (d : X) (xs : List X) (i : ℕ) → i ≤ length xs → list_any p (take i xs) ≡ some i (λ (k : ℕ). p (get_or xs k d))
unfolding some
any_to p d xs zero h = refl
any_to p d xs (suc i) h = rw (← any_to p d xs i (omega arith)) (rw add-one at (list_any_more p xs i d (omega arith)))

fold_to : {X : Type 0} (p : X → Bool) (d : X) (xs : List X) (i : ℕ) → i ≤ length xs → fold (λ (b : Bool) (x : X). b || p x) false (take i xs) ≡ some i (λ (k : ℕ). p (get_or xs k d))
unfolding some
fold_to p d xs zero h = refl
fold_to {X} p d xs (suc i) h = rw (← fold_to p d xs i (omega arith)) (rw add-one at (fold_more (λ (b : Bool) (x : X). b || p x) false xs i d (omega arith)))

pub same_each : (n : ℕ) (p q : ℕ → Bool) → ((k : ℕ) → k < n → p k ≡ q k) → some n p ≡ some n q
unfolding some
same_each zero p q h = refl
same_each (suc n) p q h = rw (same_each n p q (λ k g. h k (omega arith)), h n (omega arith))

-- of a list and of a range
pub any_of_list : {X : Type 0} (p : X → Bool) (d : X) (xs : List X) → list_any p xs ≡ some (length xs) (λ (k : ℕ). p (get_or xs k d))
any_of_list p d xs = rw take-length at (any_to p d xs (length xs) (omega arith))

pub fold_of_list : {X : Type 0} (p : X → Bool) (d : X) (xs : List X) → fold (λ (b : Bool) (x : X). b || p x) false xs ≡ some (length xs) (λ (k : ℕ). p (get_or xs k d))
fold_of_list p d xs = rw take-length at (fold_to p d xs (length xs) (omega arith))

pub any_of_range : (p : ℕ → Bool) (n : ℕ) → list_any p (range_with_len 0 n) ≡ some n p
any_of_range p n =
    any_of_list p 0 (range_with_len 0 n)
    ∙ rw (length-range_with_len 0 n)
    (same_each n (λ (k : ℕ). p (get_or (range_with_len 0 n) k 0)) p (λ k h. ap p (get_or-range_with_len 0 n k 0 h ∙ zero-add k)))

-- ---- numbers of a part of a list
pub in_part : (t : List Float) (p k : ℕ) (q : ℕ → ℕ) (f : Float → Bool) → p + k ≤ length t → ((i : ℕ) → p + i ≡ q i) → some (length (take (p + k - p) (drop p t))) (λ (i : ℕ). f (at (take (p + k - p) (drop p t)) i)) ≡ some k (λ (i : ℕ). f (at t (q i)))
in_part t p k q f h w =
    let e : p + k - p ≡ k = omega arith in
    let l : k ≤ length t - p = omega arith in
    rw (e, length-take-le k (drop p t) (rw (length-drop p t) l))
    (same_each k (λ (i : ℕ). f (at (take k (drop p t)) i)) (λ (i : ℕ). f (at t (q i)))
    (λ i g. ap f (get_or-take k (drop p t) i nan g ∙ get_or-drop p t i nan ∙ ap (at t) (w i))))

-- ---- numbers compared at once: the mask of the lanes that pass
empty_mask : (p : Float → Bool) (xs : List Float) → ((k : ℕ) → k < length xs → p (at xs k) ≡ false) → mask_l (map p xs) ≡ 0
empty_mask p [] h = refl
empty_mask p (x ∷ xs) h = rw (h 0 (omega arith), empty_mask p xs (λ k g. h (suc k) (omega arith))) refl

pub seen_at_once : (p : Float → Bool) (xs : List Float) (n : ℕ) → n ≤ length xs → not (eqb (mask_l (map p (chunk 0 n xs))) 0) ≡ some n (λ (k : ℕ). p (at xs k))
seen_at_once p xs n h =
    same (not (eqb (mask_l (map p (chunk 0 n xs))) 0)) (some n (λ (k : ℕ). p (at xs k)))
    (λ e. all_fail n (λ (k : ℕ). p (at xs k)) (λ k g. none_from_empty_mask p xs 0 n nan (omega arith) (none_set (mask_l (map p (chunk 0 n xs))) e) k (omega arith) (omega arith)))
    (λ e. rw (empty_mask p (chunk 0 n xs) (λ k g. ap p (get_or-chunk 0 n xs k nan (below k g)) ∙ ap (λ (i : ℕ). p (at xs i)) (zero-add k) ∙ fails n (λ (i : ℕ). p (at xs i)) e k (below k g))) refl)
  where
    none_set : (m : ℕ) → not (eqb m 0) ≡ false → m ≡ 0
    none_set m e = eqb-true m 0 (not-false (eqb m 0) e)

    below : (k : ℕ) → k < length (chunk 0 n xs) → k < n
    below k g = rw (length-chunk 0 n xs (omega arith)) at g

pub from_place : (t : List Float) (p n : ℕ) (q : ℕ → ℕ) (f : Float → Bool) → p + n ≤ length t → ((i : ℕ) → p + i ≡ q i) → some n (λ (k : ℕ). f (at (take (length t - p) (drop p t)) k)) ≡ some n (λ (k : ℕ). f (at t (q k)))
from_place t p n q f h w =
    same_each n (λ (k : ℕ). f (at (take (length t - p) (drop p t)) k)) (λ (k : ℕ). f (at t (q k)))
    (λ k g. ap f (get_or-take (length t - p) (drop p t) k nan (omega arith) ∙ get_or-drop p t k nan ∙ ap (at t) (w k)))
