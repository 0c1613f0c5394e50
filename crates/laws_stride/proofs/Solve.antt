-- The two shifted solvers by two strides: what two parts have alike, they have alike when each is solved. Assumes nothing.
-- The matrices have the same n rows, of which the first m are solved for. P is what the two parts have alike.
use mathlib.Core.Path.{◌≡◌, refl}
use Prim.Native.Nat.{ℕ, ◌+◌, ◌-◌, ◌≤◌, ◌<◌}
use native.Mathlib.Omega.{arith}
use mathlib.Core.List.{List}
use lib.Ieee.{Float, Format}
use Rattle.model.specs.Form.{place, at}
use Rattle.model.specs.Vectors.{strided, real_one, real_two, solve_real, Complex, complex_set, cplx_one, cplx_rest, cplx_two, solve_cplx}
use Rattle.laws_stride.proofs.Rowwise.{ReadsAs, cell, same_at}
use Rattle.laws_stride.proofs.Sums.{Agree, same_inner, same-split}
use Rattle.laws_stride.proofs.Keeps.{Keeps, blocks, Column}

module _ (f : Format) (ld md n : ℕ) {a b : List Float} (r : ReadsAs ld md n a b) (m : ℕ) (w : m ≤ n) (P : List Float → List Float → Type 0) where
  -- row i of the matrices from column j on
  row : (i j : ℕ) → i < m → Agree (m - j) (strided a (place ld i j) ld) (strided b (place md i j) md)
  row i j h c g = same_at r (cell i (j + c) (omega arith))

  -- the unknowns of a column from row j on
  rest : {d e : ℕ} (p q j : ℕ) (x y : List Float) → Column m d e P → p ≡ d + j → q ≡ e + j → P x y → Agree (m - j) (strided x p 1) (strided y q 1)
  rest p q j x y u g h s c l = u.read (j + c) (omega arith) (omega arith) (omega arith) s

  -- ---- the real one

  module _ (u : Column m 0 0 P) where
    number : (i : ℕ) (x y : List Float) → i < m → P x y → at x i ≡ at y i
    number i x y h s = u.read i h (omega arith) (omega arith) s

    real-one : (p norm : Float) (i : ℕ) → i < m → Keeps P (real_one f ld a p norm m i) (real_one f md b p norm m i)
    unfolding real_one
    real-one p norm i h x y s =
        rw
        (r.same i i (omega arith) (omega arith), number i x y h s, same_inner f _ _ _ _ _ (row i (i + 1) h) (rest (i + 1) (i + 1) (i + 1) x y u (omega arith) (omega arith) s))
        (u.write i h (omega arith) (omega arith) refl s)

    real-two : (p : Float) (i : ℕ) → i + 1 < m → Keeps P (real_two f ld a p m i) (real_two f md b p m i)
    unfolding real_two
    real-two p i h x y s =
        let l : i < m = omega arith in
        let g : i < n = omega arith in
        let k : i + 1 < n = omega arith in
        let x' = rest (i + 2) (i + 2) (i + 2) x y u (omega arith) (omega arith) s in
        rw
        (r.same (i + 1) (i + 1) k k, r.same i (i + 1) g k, r.same (i + 1) i k g, number i x y l s, number (i + 1) x y h s, same-split f _ _ _ _ _ (row i (i + 2) l) x', same-split f _ _ _ _ _ (row (i + 1) (i + 2) h) x')
        (u.write (i + 1) h (omega arith) (omega arith) refl (u.write i l (omega arith) (omega arith) refl s))

    pub solve_real_lem : (p norm : Float) → Keeps P (solve_real f ld a p norm m) (solve_real f md b p norm m)
    unfolding solve_real
    solve_real_lem p norm = blocks f ld md n r P _ _ _ _ m w (real-one p norm) (real-two p)

    -- ---- the complex one, whose second column is u'

    module _ (u' : Column m ld md P) where
      second : (i : ℕ) (x y : List Float) → i < m → P x y → at x (ld + i) ≡ at y (md + i)
      second i x y h s = u'.read i h refl refl s

      both_parts : (i : ℕ) (z : Complex) → i < m → Keeps P (λ x. complex_set ld x i z) (λ y. complex_set md y i z)
      unfolding complex_set
      both_parts i z h x y s = u'.write i h refl refl refl (u.write i h (omega arith) (omega arith) refl s)

      cplx_one_lem : (p q norm : Float) (i : ℕ) → i < m → Keeps P (cplx_one f ld a p q norm m i) (cplx_one f md b p q norm m i)
      unfolding cplx_one
      cplx_one_lem p q norm i h x y s =
          rw (
            r.same i i (omega arith) (omega arith),
            number i x y h s,
            second i x y h s,
            same-split f _ _ _ _ _ (rest (i + 1) (i + 1) (i + 1) x y u (omega arith) (omega arith) s) (row i (i + 1) h),
            same-split f _ _ _ _ _ (rest (ld + (i + 1)) (md + (i + 1)) (i + 1) x y u' refl refl s) (row i (i + 1) h),
          )
          (both_parts i _ h x y s)

      cplx_rest_lem : (i j : ℕ) (x y : List Float) → i < m → P x y → cplx_rest f ld a m x i j ≡ cplx_rest f md b m y i j
      unfolding cplx_rest
      cplx_rest_lem i j x y h s =
          rw (
            number i x y h s,
            second i x y h s,
            same_inner f _ _ _ _ _ (row i j h) (rest j j j x y u (omega arith) (omega arith) s),
            same_inner f _ _ _ _ _ (row i j h) (rest (ld + j) (md + j) j x y u' refl refl s),
          )

      cplx_two_lem : (p q norm : Float) (i : ℕ) → i + 1 < m → Keeps P (cplx_two f ld a p q norm m i) (cplx_two f md b p q norm m i)
      unfolding cplx_two
      cplx_two_lem p q norm i h x y s =
          let l : i < m = omega arith in
          let g : i < n = omega arith in
          let k : i + 1 < n = omega arith in
          rw (r.same (i + 1) (i + 1) k k, r.same i (i + 1) g k, r.same (i + 1) i k g, cplx_rest_lem i (i + 2) x y l s, cplx_rest_lem (i + 1) (i + 2) x y h s)
          (both_parts (i + 1) _ h _ _ (both_parts i _ l x y s))

      pub solve_cplx_lem : (p q norm : Float) → Keeps P (solve_cplx f ld a p q norm m) (solve_cplx f md b p q norm m)
      unfolding solve_cplx
      solve_cplx_lem p q norm = blocks f ld md n r P _ _ _ _ m w (cplx_one_lem p q norm) (cplx_two_lem p q norm)
