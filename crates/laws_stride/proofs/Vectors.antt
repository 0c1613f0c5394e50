-- The vectors hang on the n rows alone: by two strides they are the same, and what stands in the rows from n on stays. Assumes nothing.
use mathlib.Core.Path.{◌≡◌, refl, ap}
use Prim.Native.Nat.{ℕ, zero, suc, ◌+◌, ◌*◌, ◌≤◌, ◌<◌}
use native.Mathlib.Omega.{arith}
use mathlib.Core.List.{List}
use lib.Dec.{eqb}
use lib.Ieee.{Float, Format, neg, mul}
use borrow.Author.Tests.{eqb-true}
use Rattle.model.specs.Form.{entry, line2, line17, line3}
use Rattle.model.specs.Vectors.{negated_run, real_column, Start, start_block, scaled_runs, open_columns, cplx_columns, form_norm, vectors_of, Vectors, vectors_line, evd_from_real_schur}
use Rattle.laws.proofs.InOrder.{passed}
use Rattle.laws_moves.proofs.Upper.{at_least}
use Rattle.laws_stride.specs.Beyond.{BeyondStays}
use Rattle.laws_stride.specs.Strides.{Allowed, SameRows, SameVectors}
use Rattle.laws_stride.proofs.Tests.{branch}
use Rattle.laws_stride.proofs.Rowwise.{ReadsAs, Rowwise, Paired, cell, same_at, set_at, rows_read, same_rowwise, kept-first, kept_rowwise}
use Rattle.laws_stride.proofs.Lines.{full, line5-same, line6-same}
use Rattle.laws_stride.proofs.Sums.{same-norm}
use Rattle.laws_stride.proofs.Keeps.{Keeps, blocks, column, on_part_lem}
use Rattle.laws_stride.proofs.Solve.{solve_real_lem, solve_cplx_lem}

module _ (f : Format) (ld md n : ℕ) {a b : List Float} (r : ReadsAs ld md n a b) (R : List Float → List Float → Type 0) (K : Rowwise ld md n R) where
  -- ---- a 1-block's column

  negated : (j k i : ℕ) → j < n → i + k ≤ n → Keeps R (negated_run a (ld * j) k i) (negated_run b (md * j) k i)
  unfolding negated_run
  negated j zero i h g v w s = s
  negated j (suc k) i h g v w s =
      let c : Paired ld md n (ld * j + i) (md * j + i) = cell i j (omega arith) in
      negated j k (i + 1) h (omega arith) _ _ (set_at K c (ap neg (same_at r c)) s)

  real-column : (norm : Float) (k : ℕ) → k < n → Keeps R (real_column f ld a norm k) (real_column f md b norm k)
  unfolding real_column
  real-column norm k h v w s =
      rw (r.same k k h h)
      (on_part_lem R (ld * k) k (md * k) k _ _ _ _
      (solve_real_lem f ld md n r k (omega arith) _ (column ld md n k k k k 0 0 k _ _ K (omega arith)) (entry md b k k) norm)
      (negated k k 0 h (omega arith) _ _ (set_at K (cell k k (omega arith)) refl s)))

  -- ---- a 2-block's columns

  scaled : (t : Start) (j k i : ℕ) → j + 1 < n → i + k ≤ n → Keeps R (scaled_runs f ld a t (ld * j) k i) (scaled_runs f md b t (md * j) k i)
  unfolding scaled_runs
  scaled t j zero i h g v w s = s
  scaled t j (suc k) i h g v w s =
      let c : Paired ld md n (ld * j + i) (md * j + i) = cell i j (omega arith) in
      let d : Paired ld md n (ld * j + i + ld) (md * j + i + md) = cell i (j + 1) (omega arith) in
      scaled t j k (i + 1) h (omega arith) _ _ (set_at K d (ap (mul f (neg t.lower)) (same_at r d)) (set_at K c (ap (mul f (neg t.upper)) (same_at r c)) s))

  start : (t : Start) (j : ℕ) → j + 1 < n → Keeps R (start_block f ld j t) (start_block f md j t)
  unfolding start_block
  start t j h v w s =
      set_at K (cell (j + 1) j (omega arith)) refl
      (set_at K (cell j (j + 1) (omega arith)) refl (set_at K (cell (j + 1) (j + 1) (omega arith)) refl (set_at K (cell j j (omega arith)) refl s)))

  cplx_columns_lem : (norm : Float) (j : ℕ) → j + 1 < n → Keeps R (cplx_columns f ld a norm j) (cplx_columns f md b norm j)
  unfolding cplx_columns open_columns
  cplx_columns_lem norm j h v w s =
      let l : j < n = omega arith in
      rw (r.same (j + 1) (j + 1) h h, r.same j (j + 1) l h, r.same (j + 1) j h l)
      (on_part_lem R (ld * j) (ld + j) (md * j) (md + j) _ _ _ _
      (solve_cplx_lem f ld md n r j (omega arith) _ (column ld md n j (ld + j) (md + j) j 0 0 j _ _ K (omega arith)) (column ld md n j (ld + j) (md + j) j ld md (j + 1) _ _ K (omega arith)) (entry md b (j + 1) (j + 1)) _ norm)
      (scaled _ j j 0 h (omega arith) _ _ (start _ j h v w s)))

  -- ---- all

  vectors-of : Keeps R (vectors_of f ld n a) (vectors_of f md n b)
  unfolding vectors_of
  vectors-of v w s = rw (same-norm f ld md n r) (blocks f ld md n r R _ _ _ _ n (omega arith) (real-column (form_norm f md n b)) (cplx_columns_lem (form_norm f md n b)) v w s)

-- ---- the call

-- two answers of a call for vectors, with the vectors in one relation
record VectorsBoth (R : List Float → List Float → Type 0) (r s : Vectors) : Type 0 where
  answer : r.answer ≡ s.answer
  v : R r.v s.v

vectors_both : (f : Format) (ld md n : ℕ) (a b v w : List Float) (R : List Float → List Float → Type 0) → ReadsAs ld md n a b → (n ≤ ld → Rowwise ld md n R) → R v w → vectors_line f ld n a v ≡ vectors_line f md n b w
    → VectorsBoth R (evd_from_real_schur f ld n a v) (evd_from_real_schur f md n b w)
unfolding evd_from_real_schur vectors_line
vectors_both f ld md n a b v w R r K s e =
    branch (VectorsBoth R) (eqb (vectors_line f ld n a v) 0) (ap (λ (l : ℕ). eqb l 0) e)
    (λ h. record { answer = refl; v = vectors-of f ld md n r R (K (room (eqb-true _ 0 h))) v w s })
    (λ _. record { answer = e; v = s })
  where
    room : vectors_line f ld n a v ≡ 0 → n ≤ ld
    room h = at_least ld n (passed (line17 ld n) 16 _ (passed (line2 n) 1 _ h).1).0

same_line : (f : Format) (ld md n : ℕ) (a b v w : List Float) → Allowed ld md n → SameRows ld md n a b → SameRows ld md n v w → vectors_line f ld n a v ≡ vectors_line f md n b w
unfolding vectors_line line3
same_line f ld md n a b v w p r s =
    rw
    (p.first, p.second, full ld n a r.size, full md n b r.size', full ld n v s.size, full md n w s.size', line5-same f ld md n (rows_read r), line6-same f ld md n (rows_read r))

pub same-vectors : (f : Format) (ld md n : ℕ) (a b v w : List Float) → Allowed ld md n → SameRows ld md n a b → SameRows ld md n v w
    → SameVectors ld md n (evd_from_real_schur f ld n a v) (evd_from_real_schur f md n b w)
same-vectors f ld md n a b v w p r s =
    let d = vectors_both f ld md n a b v w _ (rows_read r) (λ _. same_rowwise ld md n p) s (same_line f ld md n a b v w p r s) in
    record { answer = d.answer; v = d.v }

pub vectors-beyond : (f : Format) (ld n : ℕ) (t v : List Float) → BeyondStays ld n v (evd_from_real_schur f ld n t v).v
vectors-beyond f ld n t v = (vectors_both f ld ld n t t v v _ (record { same = λ i j g h. refl }) (kept_rowwise ld n v) (kept-first ld n v) refl).v.stays
