-- Numbers of a format stay such: what an operation, a swap or standardising writes is rounded, is a zero, or stood in the form before or is that negated. Assumes nothing.
use Prim.Native.Nat.{ℕ, zero, suc, ◌+◌, ◌-◌}
use native.Mathlib.Omega.{arith}
use mathlib.Core.Bool.{Bool, cond}
use mathlib.Core.List.{List, [], ◌∷◌}
use lib.Dec.{T, eqb}
use lib.ListN.{set}
use lib.Ieee.{Float, Format, eq, fits}
use lib.Ieee.Fits.{nan-fits, neg-fits, add-fits, sub-fits, mul-fits}
use lib.Ieee.Bits.{of_bits-fits}
use Rattle.std.proofs.lemmas.Bool.{cond_both}
use Rattle.model.specs.Arith.{zero_of}
use Rattle.model.specs.Form.{at}
use Rattle.model.specs.Jacobi.{Rotation, apply_right}
use Rattle.model.specs.Schur22.{Block, apart, turned, splits, split, split_if, close, full, is_standard, standard, lahqr_schur22}
use Rattle.model.specs.Columns.{reflect_pair, reflect_triple, reflect_quad, Reflect3, reflect3, Reflect4, reflect4, rotate_at, reflect3_at, reflect4_at, rotate_run, reflect3_run, reflect4_run, Operation, rotates, reflects3, reflects4, on_columns, on_rows, on_form, on_factor}
use Rattle.model.specs.Swaps.{Change, swap11, swap12, swap21, window_at, solution_of, reflectors4, declines, swap22_by, swap22, swap_of, block_at, standardise_by}
use Rattle.model.specs.Stopping.{exchanged_b}
use Rattle.laws_shape.specs.Numbers.{InFormat}

-- what holds of both holds of the one that is chosen
pub either : {A : Type 0} (P : A → Type 0) (b : Bool) (x y : A) → P x → P y → P (cond b x y)
either P b x y p q = cond_both b x y P (λ _. p) (λ _. q)

module _ (f : Format) where
  -- the numbers at all places; beyond the end a NaN is read
  abbrev pub Numbers : List Float → Type 0
  Numbers t = (p : ℕ) → T (fits f (at t p))

  pub numbers-of : (t : List Float) → InFormat f t → Numbers t
  numbers-of [] h p = nan-fits f
  numbers-of (x ∷ t) h zero = h 0 (omega arith)
  numbers-of (x ∷ t) h (suc p) = numbers-of t (λ i l. h (suc i) (omega arith)) p

  zero_number : T (fits f (zero_of f))
  zero_number = of_bits-fits f 0

  put_number : (i : ℕ) (x : Float) (t : List Float) → T (fits f x) → Numbers t → Numbers (set t i x)
  put_number i x [] k h p = h p
  put_number zero x (y ∷ t) k h zero = k
  put_number zero x (y ∷ t) k h (suc p) = h (suc p)
  put_number (suc i) x (y ∷ t) k h zero = h 0
  put_number (suc i) x (y ∷ t) k h (suc p) = put_number i x t k (λ q. h (suc q)) p

  -- ---- operations

  rotate_numbers : (v : Rotation) (i k p q : ℕ) (t : List Float) → Numbers t → Numbers (rotate_run f v i k p q t)
  unfolding rotate_run rotate_at apply_right
  rotate_numbers v i zero p q t h = h
  rotate_numbers v i (suc k) p q t h = rotate_numbers v i k (p + i) (q + i) (rotate_at f v p q t) (put_number q _ _ (sub-fits f _ _) (put_number p _ t (add-fits f _ _) h))

  reflect3_numbers : (v : Reflect3) (i k p q r : ℕ) (t : List Float) → Numbers t → Numbers (reflect3_run f v i k p q r t)
  unfolding reflect3_run reflect3_at reflect3 reflect_triple reflect_pair
  reflect3_numbers v i zero p q r t h = h
  reflect3_numbers v i (suc k) p q r t h =
      reflect3_numbers v i k (p + i) (q + i) (r + i) (reflect3_at f v p q r t)
      (put_number r _ _ (sub-fits f _ _) (put_number q _ _ (sub-fits f _ _) (put_number p _ t (sub-fits f _ _) h)))

  reflect4_numbers : (v : Reflect4) (i k p q r s : ℕ) (t : List Float) → Numbers t → Numbers (reflect4_run f v i k p q r s t)
  unfolding reflect4_run reflect4_at reflect4 reflect_quad reflect_triple
  reflect4_numbers v i zero p q r s t h = h
  reflect4_numbers v i (suc k) p q r s t h =
      reflect4_numbers v i k (p + i) (q + i) (r + i) (s + i) (reflect4_at f v p q r s t)
      (put_number s _ _ (sub-fits f _ _) (put_number r _ _ (sub-fits f _ _) (put_number q _ _ (sub-fits f _ _) (put_number p _ t (sub-fits f _ _) h))))

  columns_numbers : (ld count : ℕ) (o : Operation) (t : List Float) → Numbers t → Numbers (on_columns f ld count o t)
  unfolding on_columns
  columns_numbers ld count (rotates v x y) = rotate_numbers v 1 count _ _
  columns_numbers ld count (reflects3 v x y z) = reflect3_numbers v 1 count _ _ _
  columns_numbers ld count (reflects4 v x y z w) = reflect4_numbers v 1 count _ _ _ _

  rows_numbers : (ld j count : ℕ) (o : Operation) (t : List Float) → Numbers t → Numbers (on_rows f ld j count o t)
  unfolding on_rows
  rows_numbers ld j count (rotates v x y) = rotate_numbers v ld count _ _
  rows_numbers ld j count (reflects3 v x y z) = reflect3_numbers v ld count _ _ _
  rows_numbers ld j count (reflects4 v x y z w) = reflect4_numbers v ld count _ _ _ _

  form_numbers : (ld n j i : ℕ) (o : Operation) (t : List Float) → Numbers t → Numbers (on_form f ld n j i o t)
  unfolding on_form
  form_numbers ld n j i o t h = columns_numbers ld i o _ (rows_numbers ld j (n - j) o t h)

  pub factor_numbers : (ld rows : ℕ) (os : List Operation) (u : List Float) → Numbers u → Numbers (on_factor f ld rows os u)
  unfolding on_factor
  factor_numbers ld rows [] u h = h
  factor_numbers ld rows (o ∷ os) u h = factor_numbers ld rows os (on_columns f ld rows o u) (columns_numbers ld rows o u h)

  -- ---- a swap

  put_zero : (p : ℕ) (t : List Float) → Numbers t → Numbers (set t p (zero_of f))
  put_zero p t h = put_number p (zero_of f) t zero_number h

  pub swap_numbers : (ld n j n1 n2 : ℕ) (t : List Float) → Numbers t → Numbers (swap_of f ld n j n1 n2 t).form
  unfolding swap_of swap11 swap12 swap21 swap22 swap22_by
  swap_numbers ld n j n1 n2 t h =
      let of = λ (c : Change). Numbers c.form in
      either of (eqb n1 1) _ _
      (either of (eqb n2 1) _ _ (form_numbers ld n _ _ _ _ (put_number _ _ _ (h _) (put_number _ _ t (h _) h))) (put_zero _ _ (put_zero _ _ (form_numbers ld n _ _ _ t h))))
      (either of (eqb n2 1) _ _ (put_zero _ _ (put_zero _ _ (form_numbers ld n _ _ _ t h)))
      (either of (declines f (reflectors4 f (solution_of f (window_at ld t j))) (window_at ld t j)) _ _ h
      (put_zero _ _ (put_zero _ _ (put_zero _ _ (put_zero _ _ (form_numbers ld n _ _ _ t h)))))))

  -- ---- a block

  -- its four numbers; of the rotation beside them nothing is asked
  pub record BlockNumbers (x : Block) : Type 0 where
    pub a : T (fits f x.a)
    pub b : T (fits f x.b)
    pub c : T (fits f x.c)
    pub d : T (fits f x.d)

  split_numbers : (x : Block) → BlockNumbers x → BlockNumbers (split_if f x)
  unfolding split_if split
  split_numbers x h = either BlockNumbers (splits f x.b x.c) _ _ (record { a = add-fits f _ _; b = sub-fits f _ _; c = zero_number; d = sub-fits f _ _ }) h

  standard_numbers : (a b c d : Float) → T (fits f a) → T (fits f b) → T (fits f c) → T (fits f d) → BlockNumbers (standard f a b c d)
  unfolding standard full apart close turned
  standard_numbers a b c d p q r s =
      either BlockNumbers (eq c (zero_of f)) _ _ (record { a = p; b = q; c = r; d = s })
      (either BlockNumbers (eq b (zero_of f)) _ _ (record { a = s; b = neg-fits f c r; c = zero_number; d = p })
      (either BlockNumbers (is_standard f a b c d) _ _ (record { a = p; b = q; c = r; d = s })
      (either BlockNumbers _ _ _ (record { a = add-fits f _ _; b = sub-fits f _ _; c = zero_number; d = sub-fits f _ _ })
      (split_numbers _ (record { a = mul-fits f _ _; b = add-fits f _ _; c = add-fits f _ _; d = mul-fits f _ _ })))))

  pub exchanged_numbers : (x : Block) → BlockNumbers x → BlockNumbers (exchanged_b f x)
  unfolding exchanged_b
  exchanged_numbers x h = either BlockNumbers _ _ _ (record { a = h.a; b = neg-fits f x.c h.c; c = zero_number; d = h.d }) h

  pub block_numbers : (ld j : ℕ) (t : List Float) → Numbers t → BlockNumbers (block_at f ld t j)
  unfolding block_at lahqr_schur22
  block_numbers ld j t h = standard_numbers _ _ _ _ (h _) (h _) (h _) (h _)

  pub standardise_numbers : (ld n j : ℕ) (b : Block) (t : List Float) → BlockNumbers b → Numbers t → Numbers (standardise_by f ld n j b t).form
  standardise_numbers ld n j b t k h = form_numbers ld n _ _ _ _ (put_number _ _ _ k.d (put_number _ _ _ k.c (put_number _ _ _ k.b (put_number _ _ t k.a h))))
