-- Sums over numbers that are the same are the same: the two inner products, and the sum of magnitudes by two strides. Assumes nothing.
use mathlib.Core.Path.{◌≡◌, refl}
use Prim.Native.Nat.{ℕ, zero, suc, ◌+◌, ◌*◌, ◌≤◌, ◌<◌}
use native.Mathlib.Omega.{arith}
use mathlib.Core.Bool.{Bool, true, false, cond}
use mathlib.Core.List.{List}
use lib.Dec.{ltb}
use lib.Ieee.{Float, Format, add, mul}
use borrow.Author.Tests.{ltb-true}
use Rattle.model.specs.Arith.{zero_of, inner_from, inner_prod}
use Rattle.model.specs.Vectors.{split_from, split_prod, sum_from, rows_to, norm_columns, form_norm}
use Rattle.laws_stride.proofs.Rowwise.{ReadsAs, cell, same_at}

-- ---- inner products

-- the same numbers below k
abbrev pub Agree : ℕ → (ℕ → Float) → (ℕ → Float) → Type 0
Agree k x y = (i : ℕ) → i < k → x i ≡ y i

module _ (f : Format) (x y u v : ℕ → Float) (m : ℕ) (g : Agree m x u) (h : Agree m y v) where
  inner_from_lem : (k i : ℕ) (s : Float) → i + k ≤ m → inner_from f x y k i s ≡ inner_from f u v k i s
  unfolding inner_from
  inner_from_lem zero i s l = refl
  inner_from_lem (suc k) i s l = rw (g i (omega arith), h i (omega arith)) (inner_from_lem k (i + 1) (add f s (mul f (u i) (v i))) (omega arith))

  split_from_lem : (k i : ℕ) (s t : Float) → i + k ≤ m → split_from f x y k i s t ≡ split_from f u v k i s t
  unfolding split_from
  split_from_lem zero i s t l = refl
  split_from_lem (suc zero) i s t l = rw (g i (omega arith), h i (omega arith))
  split_from_lem (suc (suc k)) i s t l =
      rw (g i (omega arith), h i (omega arith), g (i + 1) (omega arith), h (i + 1) (omega arith))
      (split_from_lem k (i + 2) (add f s (mul f (u i) (v i))) (add f t (mul f (u (i + 1)) (v (i + 1)))) (omega arith))

  pub same_inner : inner_prod f x y m ≡ inner_prod f u v m
  unfolding inner_prod
  same_inner = inner_from_lem m 0 (zero_of f) (omega arith)

  pub same-split : split_prod f x y m ≡ split_prod f u v m
  unfolding split_prod
  same-split = split_from_lem m 0 (zero_of f) (zero_of f) (omega arith)

-- ---- the sum of magnitudes

module _ (f : Format) (ld md n : ℕ) {a b : List Float} (r : ReadsAs ld md n a b) where
  sum_from_lem : (j k i : ℕ) (s : Float) → j < n → i + k ≤ n → sum_from f a (ld * j) k i s ≡ sum_from f b (md * j) k i s
  unfolding sum_from
  sum_from_lem j zero i s h l = refl
  sum_from_lem j (suc k) i s h l = rw (same_at r (cell {p = ld * j + i} {q = md * j + i} i j (omega arith))) (sum_from_lem j k (i + 1) _ h (omega arith))

  rows-to : (j : ℕ) → rows_to n j ≤ n
  unfolding rows_to
  rows-to j = go (ltb (j + 2) n) (ltb-true (j + 2) n)
    where
      go : (c : Bool) → (c ≡ true → j + 2 < n) → cond c (j + 2) n ≤ n
      go true e = let d = e refl in omega arith
      go false e = omega arith

  norm_columns_lem : (k j : ℕ) (s : Float) → j + k ≤ n → norm_columns f ld n a k j s ≡ norm_columns f md n b k j s
  unfolding norm_columns
  norm_columns_lem zero j s l = refl
  norm_columns_lem (suc k) j s l = let d = rows-to j in rw (sum_from_lem j (rows_to n j) 0 s (omega arith) (omega arith)) (norm_columns_lem k (j + 1) (sum_from f b (md * j) (rows_to n j) 0 s) (omega arith))

  pub same-norm : form_norm f ld n a ≡ form_norm f md n b
  unfolding form_norm
  same-norm = norm_columns_lem n 0 (zero_of f) (omega arith)
