-- The vectors of a form: dots, the two shifted solvers (plain branch), the columns of each block, and a column of the vectors. Definitions only. Assumes nothing.
-- A system's matrix is a list `a` whose columns stand ld apart, so that a part of a form is one too; its unknowns are a list `x`, with a second column ld further where they are complex.
use Rattle.std.specs.Prelude.{ℕ, zero, suc, ◌+◌, ◌-◌, ◌*◌, cond, List, [], ◌∷◌, ◌++◌, eqb, ltb, length, set, take, drop, Float}
use Rattle.std.specs.Float.{Format}
use Rattle.std.specs.Float.Ieee.{neg, add, sub, mul, div, lt, le, ne}
use Rattle.model.specs.Arith.{zero_of, one_of, two_of, eps_of, abs, abs1, abs2, recip, mul_pow2, hypot, inner_prod}
use Rattle.model.specs.Lines.{first_of}
use Rattle.model.specs.Form.{place, at, entry, zero_below, row_count, stride, form_length, buffer_length, deep_entry, touching_blocks, position}
use Rattle.model.specs.Values.{imag_size_at}

-- ---- dots

-- the numbers from place p on, `step` apart
abbrev pub strided : List Float → ℕ → ℕ → ℕ → Float
strided l p step k = at l (p + step * k)

-- the products of the k pairs from i on, even and odd places apart, added last
unfoldable pub split_from : Format → (ℕ → Float) → (ℕ → Float) → ℕ → ℕ → Float → Float → Float
split_from f x y zero i even odd = add f even odd
split_from f x y (suc zero) i even odd = add f (add f even (mul f (x i) (y i))) odd
split_from f x y (suc (suc k)) i even odd =
    split_from f x y k (i + 2) (add f even (mul f (x i) (y i))) (add f odd (mul f (x (i + 1)) (y (i + 1))))

-- dot2x1 gives two of these, of two rows with one; dot2x2 gives four times `inner_prod`
unfoldable pub split_prod : Format → (ℕ → Float) → (ℕ → Float) → ℕ → Float
split_prod f x y k = split_from f x y k 0 (zero_of f) (zero_of f)

-- ---- the blocks of the first so many rows, the last block first, each by its own step: `one` at a 1-block's row, `two` at a 2-block's first row

unfoldable pub blocks_down : Format → ℕ → List Float → (ℕ → List Float → List Float) → (ℕ → List Float → List Float) → ℕ → List Float → List Float
blocks_down f ld a one two zero x = x
blocks_down f ld a one two (suc zero) x = one 0 x
blocks_down f ld a one two (suc (suc j)) x =
    cond (zero_below f ld a j) (blocks_down f ld a one two (suc j) (one (j + 1) x)) (blocks_down f ld a one two j (two j x))

-- ---- the real solver: (A - p) x = b in place, A of n rows

abbrev pub least : Format → Float → Float
least f norm = mul f (eps_of f) norm

-- a divisor below eps * norm in magnitude is replaced
unfoldable pub divisor : Format → Float → Float → Float
divisor f norm z = cond (lt (abs z) (least f norm)) (least f norm) z

-- divided only where it is not zero
unfoldable pub divided : Format → Float → Float → Float
divided f x z = cond (ne x (zero_of f)) (div f x z) x

unfoldable pub real_one : Format → ℕ → List Float → Float → Float → ℕ → ℕ → List Float → List Float
real_one f ld a p norm n i x =
    let dot = inner_prod f (strided a (place ld i (i + 1)) ld) (strided x (i + 1) 1) (n - (i + 1)) in
    set x i (divided f (sub f (at x i) dot) (divisor f norm (sub f (entry ld a i i) p)))

-- rows i and i + 1: the diagonal number of the lower row serves for both
unfoldable pub real_two : Format → ℕ → List Float → Float → ℕ → ℕ → List Float → List Float
real_two f ld a p n i x =
    let r0 = sub f (at x i) (split_prod f (strided a (place ld i (i + 2)) ld) (strided x (i + 2) 1) (n - (i + 2))) in
    let r1 = sub f (at x (i + 1)) (split_prod f (strided a (place ld (i + 1) (i + 2)) ld) (strided x (i + 2) 1) (n - (i + 2))) in
    let d = sub f (entry ld a (i + 1) (i + 1)) p in
    let b = entry ld a i (i + 1) in
    let c = entry ld a (i + 1) i in
    let inv = recip f (sub f (abs2 f d) (mul f b c)) in
    set (set x i (mul f (sub f (mul f d r0) (mul f b r1)) inv)) (i + 1) (mul f (sub f (mul f d r1) (mul f c r0)) inv)

-- the first `rows` of the n rows
abbrev pub real_rows : Format → ℕ → List Float → Float → Float → ℕ → ℕ → List Float → List Float
real_rows f ld a p norm n rows x = blocks_down f ld a (real_one f ld a p norm n) (real_two f ld a p n) rows x

unfoldable pub solve_real : Format → ℕ → List Float → Float → Float → ℕ → List Float → List Float
solve_real f ld a p norm n x = real_rows f ld a p norm n n x

-- ---- the complex solver: (A - p - q i) x = b in place

pub record Complex : Type 0 where
  pub re : Float
  pub im : Float

unfoldable pub complex_times : Format → Complex → Complex → Complex
complex_times f x y = record { re = sub f (mul f x.re y.re) (mul f x.im y.im); im = add f (mul f x.re y.im) (mul f x.im y.re) }

-- x - k * y
unfoldable pub less_times : Format → Complex → Float → Complex → Complex
less_times f x k y = record { re = sub f x.re (mul f k y.re); im = sub f x.im (mul f k y.im) }

-- the reciprocal of a number whose modulus is z
unfoldable pub inverse_by : Format → Complex → Float → Complex
inverse_by f w z = record { re = div f (div f w.re z) z; im = div f (div f (neg w.im) z) z }

-- a number whose modulus is below eps * norm is replaced
unfoldable pub inverse : Format → Float → Complex → Complex
inverse f norm w =
    cond (lt (hypot f w.re w.im) (least f norm)) (inverse_by f (record { re = least f norm; im = zero_of f }) (least f norm))
    (inverse_by f w (hypot f w.re w.im))

-- row i of the two columns
abbrev pub complex_at : ℕ → List Float → ℕ → Complex
complex_at ld x i = record { re = at x i; im = at x (ld + i) }

unfoldable pub complex_set : ℕ → List Float → ℕ → Complex → List Float
complex_set ld x i w = set (set x i w.re) (ld + i) w.im

abbrev pub complex_sub : Format → Complex → Float → Float → Complex
complex_sub f x re im = record { re = sub f x.re re; im = sub f x.im im }

unfoldable pub cplx_one : Format → ℕ → List Float → Float → Float → Float → ℕ → ℕ → List Float → List Float
cplx_one f ld a p q norm n i x =
    let row = strided a (place ld i (i + 1)) ld in
    let r = complex_sub f (complex_at ld x i) (split_prod f (strided x (i + 1) 1) row (n - (i + 1))) (split_prod f (strided x (ld + (i + 1)) 1) row (n - (i + 1))) in
    complex_set ld x i (complex_times f r (inverse f norm (record { re = sub f (entry ld a i i) p; im = neg q })))

-- the determinant of the 2-block less (p, q) on its diagonal, which is s there in both rows
unfoldable pub determinant : Format → Complex → Float → Float → Complex
determinant f s b c = record { re = sub f (sub f (abs2 f s.re) (abs2 f s.im)) (mul f b c); im = mul_pow2 f (mul f s.re s.im) (two_of f) }

-- two rows of the two columns
pub record Rows : Type 0 where
  pub upper : Complex
  pub lower : Complex

-- the 2-block's own system: s twice on the diagonal, b above and c below it, r on the right
unfoldable pub solve_pair : Format → Float → Complex → Float → Float → Rows → Rows
solve_pair f norm s b c r =
    let w = inverse f norm (determinant f s b c) in
    record { upper = complex_times f (less_times f (complex_times f s r.upper) b r.lower) w; lower = complex_times f (less_times f (complex_times f s r.lower) c r.upper) w }

-- row i less its inner products with the rows from j on
unfoldable pub cplx_rest : Format → ℕ → List Float → ℕ → List Float → ℕ → ℕ → Complex
cplx_rest f ld a n x i j =
    let row = strided a (place ld i j) ld in
    complex_sub f (complex_at ld x i) (inner_prod f row (strided x j 1) (n - j)) (inner_prod f row (strided x (ld + j) 1) (n - j))

-- rows i and i + 1
unfoldable pub cplx_two : Format → ℕ → List Float → Float → Float → Float → ℕ → ℕ → List Float → List Float
cplx_two f ld a p q norm n i x =
    let r : Rows = record { upper = cplx_rest f ld a n x i (i + 2); lower = cplx_rest f ld a n x (i + 1) (i + 2) } in
    let y = solve_pair f norm (record { re = sub f (entry ld a (i + 1) (i + 1)) p; im = neg q }) (entry ld a i (i + 1)) (entry ld a (i + 1) i) r in
    complex_set ld (complex_set ld x i y.upper) (i + 1) y.lower

-- the first `rows` of the n rows
abbrev pub cplx_rows : Format → ℕ → List Float → Float → Float → Float → ℕ → ℕ → List Float → List Float
cplx_rows f ld a p q norm n rows x = blocks_down f ld a (cplx_one f ld a p q norm n) (cplx_two f ld a p q norm n) rows x

unfoldable pub solve_cplx : Format → ℕ → List Float → Float → Float → Float → ℕ → List Float → List Float
solve_cplx f ld a p q norm n x = cplx_rows f ld a p q norm n n x

-- ---- the sum of magnitudes down to the subdiagonal, column after column

-- a plus the magnitudes of k numbers from place p on, the i-th first
unfoldable pub sum_from : Format → List Float → ℕ → ℕ → ℕ → Float → Float
sum_from f t p zero i a = a
sum_from f t p (suc k) i a = sum_from f t p k (i + 1) (add f a (abs1 (at t (p + i))))

-- how many rows of column j are summed
unfoldable pub rows_to : ℕ → ℕ → ℕ
rows_to n j = cond (ltb (j + 2) n) (j + 2) n

-- the k columns from column j on
unfoldable pub norm_columns : Format → ℕ → ℕ → List Float → ℕ → ℕ → Float → Float
norm_columns f ld n t zero j a = a
norm_columns f ld n t (suc k) j a = norm_columns f ld n t k (j + 1) (sum_from f t (ld * j) (rows_to n j) 0 a)

unfoldable pub form_norm : Format → ℕ → ℕ → List Float → Float
form_norm f ld n t = norm_columns f ld n t n 0 (zero_of f)

-- ---- the columns of a block

-- g done to the k numbers from place p on; the rest stays
unfoldable pub on_part : ℕ → ℕ → (List Float → List Float) → List Float → List Float
on_part p k g v = take p v ++ (g (take k (drop p v)) ++ drop (p + k) v)

-- k numbers from place p on, the i-th first: those of the form negated
unfoldable pub negated_run : List Float → ℕ → ℕ → ℕ → List Float → List Float
negated_run t p zero i v = v
negated_run t p (suc k) i v = negated_run t p k (i + 1) (set v (p + i) (neg (at t (p + i))))

-- a 1-block's column k: 1 in row k, and above it the solution
unfoldable pub real_column : Format → ℕ → List Float → Float → ℕ → List Float → List Float
real_column f ld t norm k v =
    on_part (ld * k) k (solve_real f ld t (entry ld t k k) norm k) (negated_run t (ld * k) k 0 (set v (place ld k k) (one_of f)))

-- the two diagonal numbers of a 2-block's columns
pub record Start : Type 0 where
  pub upper : Float
  pub lower : Float

-- b above and c below the diagonal, and the imaginary size q
unfoldable pub start_of : Format → Float → Float → Float → Start
start_of f b c q = cond (le (abs c) (abs b)) (record { upper = one_of f; lower = div f q b }) (record { upper = div f (neg q) c; lower = one_of f })

-- a 2-block's own four numbers
unfoldable pub start_block : Format → ℕ → ℕ → Start → List Float → List Float
start_block f ld j s v = set (set (set (set v (place ld j j) s.upper) (place ld (j + 1) (j + 1)) s.lower) (place ld j (j + 1)) (zero_of f)) (place ld (j + 1) j) (zero_of f)

-- k numbers from place p on, the i-th first, and as many ld further on: those of the form times the negated diagonal numbers
unfoldable pub scaled_runs : Format → ℕ → List Float → Start → ℕ → ℕ → ℕ → List Float → List Float
scaled_runs f ld t s p zero i v = v
scaled_runs f ld t s p (suc k) i v =
    scaled_runs f ld t s p k (i + 1) (set (set v (p + i) (mul f (neg s.upper) (at t (p + i)))) (p + i + ld) (mul f (neg s.lower) (at t (p + i + ld))))

-- a 2-block's columns j and j + 1, before the rows above it are solved for
unfoldable pub open_columns : Format → ℕ → List Float → ℕ → List Float → List Float
open_columns f ld t j v =
    let s = start_of f (entry ld t j (j + 1)) (entry ld t (j + 1) j) (imag_size_at f ld t j) in
    scaled_runs f ld t s (ld * j) j 0 (start_block f ld j s v)

-- a 2-block's columns j and j + 1: the real and the imaginary part
unfoldable pub cplx_columns : Format → ℕ → List Float → Float → ℕ → List Float → List Float
cplx_columns f ld t norm j v =
    on_part (ld * j) (ld + j) (solve_cplx f ld t (entry ld t (j + 1) (j + 1)) (imag_size_at f ld t j) norm j) (open_columns f ld t j v)

-- ---- the calls

-- the columns of the first so many rows' blocks
abbrev pub columns_of : Format → ℕ → List Float → Float → ℕ → List Float → List Float
columns_of f ld t norm rows v = blocks_down f ld t (real_column f ld t norm) (cplx_columns f ld t norm) rows v

-- all columns of an accepted form
unfoldable pub vectors_of : Format → ℕ → ℕ → List Float → List Float → List Float
vectors_of f ld n t v = columns_of f ld t (form_norm f ld n t) n v

-- the answer, and what the vectors then hold
pub record Vectors : Type 0 where
  pub answer : ℕ
  pub v : List Float

unfoldable pub vectors_line : Format → ℕ → ℕ → List Float → List Float → ℕ
unfolding first_of
vectors_line f ld n t v =
    first_of (row_count n ∷ stride ld n ∷ form_length ld n t ∷ buffer_length (length v) (ld * n) ∷ deep_entry f ld n t ∷ touching_blocks f ld n t ∷ [])

-- turned away, it leaves the vectors
unfoldable pub evd_from_real_schur : Format → ℕ → ℕ → List Float → List Float → Vectors
evd_from_real_schur f ld n t v =
    cond (eqb (vectors_line f ld n t v) 0) (record { answer = 0; v = vectors_of f ld n t v }) (record { answer = vectors_line f ld n t v; v = v })

-- the first line that applies to a column of vectors, or 0
unfoldable pub column_line : ℕ → ℕ → List Float → ℕ → ℕ
unfolding first_of
column_line ld n v col = first_of (row_count n ∷ stride ld n ∷ buffer_length (length v) (ld * n) ∷ position n col ∷ [])

-- the part that is column `col`, or one of length 0
unfoldable pub column_of : ℕ → ℕ → List Float → ℕ → List Float
column_of ld n v col = cond (eqb (column_line ld n v col) 0) (take n (drop (ld * col) v)) []
