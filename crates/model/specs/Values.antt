-- The values of a form's blocks, by two readings of a 2-block: as it stands, which is how partial_schur_real_imp reads it, and of a copy standardised first. Definitions only. Assumes nothing.
use Rattle.std.specs.Prelude.{ℕ, zero, suc, ◌+◌, cond, List, [], ◌∷◌, eqb, length, set, Float}
use Rattle.std.specs.Float.{Format}
use Rattle.std.specs.Float.Ieee.{mul}
use Rattle.model.specs.Root.{sqrt}
use Rattle.model.specs.Arith.{zero_of, abs}
use Rattle.model.specs.Lines.{first_of}
use Rattle.model.specs.Form.{entry, nonzero_below, row_count, stride, form_length, buffer_length, deep_entry, touching_blocks}
use Rattle.model.specs.Schur22.{Eigenvalues, complex, values_of, lahqr_schur22}

-- the imaginary size of the 2-block whose numbers off the diagonal these are
unfoldable pub imag_size : Format → Float → Float → Float
imag_size f lower upper = mul f (sqrt f (abs lower)) (sqrt f (abs upper))

-- that of the 2-block in rows j and j + 1
abbrev pub imag_size_at : Format → ℕ → List Float → ℕ → Float
imag_size_at f ld t j = imag_size f (entry ld t (j + 1) j) (entry ld t j (j + 1))

-- ---- how a 2-block is read

-- from its rows (a, b) and (c, d) to its pair
abbrev pub Reading : Type 0
Reading = Float → Float → Float → Float → Eigenvalues

-- as it stands: the first diagonal number twice, with m and then -m
unfoldable pub as_it_stands : Format → Reading
as_it_stands f a b c d = complex a a (imag_size f c b)

-- of a copy that is standardised first: the real pair that comes out, or both diagonal numbers with the size and then its negative
unfoldable pub standardised_first : Format → Reading
standardised_first f a b c d = (lahqr_schur22 f a b c d).eigenvalues

-- of the 2-block in rows j and j + 1
abbrev pub read_at : Reading → ℕ → List Float → ℕ → Eigenvalues
read_at rd ld t j = rd (entry ld t j j) (entry ld t j (j + 1)) (entry ld t (j + 1) j) (entry ld t (j + 1) (j + 1))

-- ---- the walk over the blocks, for either reading

-- the two buffers
pub record Parts : Type 0 where
  pub re : List Float
  pub im : List Float

-- a 1-block in row j: its diagonal number and +0
unfoldable pub one_value : Format → ℕ → List Float → ℕ → Parts → Parts
one_value f ld t j s = record { re = set s.re j (entry ld t j j); im = set s.im j (zero_of f) }

-- a 2-block in rows j and j + 1: the values of the pair that is read
unfoldable pub two_values : Format → Reading → ℕ → List Float → ℕ → Parts → Parts
two_values f rd ld t j s =
    let v = values_of f (read_at rd ld t j) in
    record { re = set (set s.re (j + 1) v.re2) j v.re1; im = set (set s.im (j + 1) v.im2) j v.im1 }

-- the values of the last so many rows, of which j is the first
unfoldable pub values_from : Format → Reading → ℕ → List Float → ℕ → ℕ → Parts → Parts
values_from f rd ld t zero j s = s
values_from f rd ld t (suc zero) j s = one_value f ld t j s
values_from f rd ld t (suc (suc k)) j s =
    cond (nonzero_below f ld t j) (values_from f rd ld t k (j + 2) (two_values f rd ld t j s)) (values_from f rd ld t (suc k) (j + 1) (one_value f ld t j s))

-- ---- the calls

-- the answer of a call, and what the buffers then hold
pub record BlockValues : Type 0 where
  pub answer : ℕ
  pub parts : Parts

unfoldable pub values_line : Format → ℕ → ℕ → List Float → Parts → ℕ
unfolding first_of
values_line f ld n t s =
    first_of
    (row_count n
    ∷ stride ld n
    ∷ form_length ld n t
    ∷ buffer_length (length s.re) n
    ∷ buffer_length (length s.im) n
    ∷ deep_entry f ld n t
    ∷ touching_blocks f ld n t
    ∷ [])

-- by a reading: turned away, it leaves the buffers
unfoldable pub values_read : Format → Reading → ℕ → ℕ → List Float → Parts → BlockValues
values_read f rd ld n t s =
    cond (eqb (values_line f ld n t s) 0) (record { answer = 0; parts = values_from f rd ld t n 0 s }) (record { answer = values_line f ld n t s; parts = s })

abbrev pub block_values : Format → ℕ → ℕ → List Float → Parts → BlockValues
block_values f ld n t s = values_read f (as_it_stands f) ld n t s

abbrev pub standardised_values : Format → ℕ → ℕ → List Float → Parts → BlockValues
standardised_values f ld n t s = values_read f (standardised_first f) ld n t s
