-- A form lent column after column, what stands where in it, and the lines of document 01's list that speak of a form. Definitions only. Assumes nothing.
-- `ld` is the stride, the number of places from one column to the next. A form of n rows stands in the first n rows of its columns; what stands in the rows from n on is the lender's.
use Rattle.std.specs.Prelude.{ℕ, zero, suc, ◌+◌, ◌-◌, ◌*◌, Bool, false, not, ◌&&◌, ◌||◌, List, [], ◌∷◌, eqb, ltb, length, get_or, Float}
use Rattle.std.specs.Float.{nan, Format}
use Rattle.std.specs.Float.Ieee.{eq, ne}
use Rattle.model.specs.Arith.{zero_of}
use Rattle.model.specs.Lines.{Line, first_of}

-- ---- places

-- where the number in row i, column j stands
abbrev pub place : ℕ → ℕ → ℕ → ℕ
place ld i j = i + ld * j

-- the number at a place
abbrev pub at : List Float → ℕ → Float
at t p = get_or t p nan

abbrev pub entry : ℕ → List Float → ℕ → ℕ → Float
entry ld t i j = at t (place ld i j)

-- ---- blocks: the entry just below the diagonal in column j, at (j + 1, j), is zero or not. A NaN is not, minus zero is

abbrev pub zero_below : Format → ℕ → List Float → ℕ → Bool
zero_below f ld t j = eq (entry ld t (j + 1) j) (zero_of f)

abbrev pub nonzero_below : Format → ℕ → List Float → ℕ → Bool
nonzero_below f ld t j = ne (entry ld t (j + 1) j) (zero_of f)

-- a 2-block stands in rows j and j + 1
unfoldable pub two_block : Format → ℕ → ℕ → List Float → ℕ → Bool
two_block f ld n t j = ltb (j + 1) n && nonzero_below f ld t j

-- ---- document 01's lines: whether each applies

-- some number below n passes
unfoldable pub some : ℕ → (ℕ → Bool) → Bool
some zero p = false
some (suc n) p = some n p || p n

-- 2. n is 0 or above 64
unfoldable pub line2 : ℕ → Bool
line2 n = eqb n 0 || ltb 64 n

-- 17. The stride is below n or above 128
unfoldable pub line17 : ℕ → ℕ → Bool
line17 ld n = ltb ld n || ltb 128 ld

-- 3. The form's length is not stride × n
unfoldable pub line3 : ℕ → ℕ → List Float → Bool
line3 ld n t = not (eqb (length t) (ld * n))

-- 4. A factor's length is neither stride × n nor 0
unfoldable pub line4 : ℕ → ℕ → List Float → Bool
line4 ld n u = not (eqb (length u) (ld * n) || eqb (length u) 0)

-- 5. An entry more than one row below the diagonal is not zero: in column j, one of the rows from j + 2 on
unfoldable pub deep_in : Format → ℕ → ℕ → List Float → ℕ → Bool
unfolding some
deep_in f ld n t j = some (n - (j + 2)) (λ (k : ℕ). ne (at t (place ld (j + 2) j + k)) (zero_of f))

unfoldable pub line5 : Format → ℕ → ℕ → List Float → Bool
unfolding some deep_in
line5 f ld n t = some (n - 2) (deep_in f ld n t)

-- 6. Two neighbouring subdiagonal entries are both not zero
unfoldable pub touching_in : Format → ℕ → List Float → ℕ → Bool
touching_in f ld t j = nonzero_below f ld t j && nonzero_below f ld t (j + 1)

unfoldable pub line6 : Format → ℕ → ℕ → List Float → Bool
unfolding some touching_in
line6 f ld n t = some (n - 2) (touching_in f ld t)

-- 7. A position is not below n
unfoldable pub line7 : ℕ → ℕ → Bool
line7 n p = not (ltb p n)

-- ---- the same as lines, each with its number

abbrev pub row_count : ℕ → Line
row_count n = record { number = 2; applies = line2 n }

abbrev pub stride : ℕ → ℕ → Line
stride ld n = record { number = 17; applies = line17 ld n }

abbrev pub form_length : ℕ → ℕ → List Float → Line
form_length ld n t = record { number = 3; applies = line3 ld n t }

abbrev pub factor_length : ℕ → ℕ → List Float → Line
factor_length ld n u = record { number = 4; applies = line4 ld n u }

-- a further buffer of so many numbers, where so many are asked for
abbrev pub buffer_length : ℕ → ℕ → Line
buffer_length has asked = record { number = 4; applies = not (eqb has asked) }

abbrev pub deep_entry : Format → ℕ → ℕ → List Float → Line
deep_entry f ld n t = record { number = 5; applies = line5 f ld n t }

abbrev pub touching_blocks : Format → ℕ → ℕ → List Float → Line
touching_blocks f ld n t = record { number = 6; applies = line6 f ld n t }

abbrev pub position : ℕ → ℕ → Line
position n p = record { number = 7; applies = line7 n p }

-- the first line that applies to a form by itself, or 0
unfoldable pub form_line : Format → ℕ → ℕ → List Float → ℕ
unfolding first_of line2 line17 line3 line5 line6
form_line f ld n t = first_of (row_count n ∷ stride ld n ∷ form_length ld n t ∷ deep_entry f ld n t ∷ touching_blocks f ld n t ∷ [])
