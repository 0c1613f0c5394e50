-- Document 01's row lists, and a form that meets every hypothesis of the claim: the diagonal 1, 2, 3, by the stride 4, with a NaN in the row beyond. Assumes nothing.
use mathlib.Core.Path.{◌≡◌, refl, sym, ap, ◌∙◌}
use Prim.Native.Nat.{ℕ, zero, suc, ◌+◌, ◌<◌}
use native.Mathlib.Omega.{arith}
use mathlib.Core.Bool.{true, cond}
use mathlib.Core.List.{List, [], ◌∷◌}
use lib.Ieee.{Float, nan, binary64, of_bits, to_bits, eq, ne, is_nan}
use lib.Dec.{eqb}
use Rattle.model.specs.Form.{zero_below, form_line, line2, line17, line3, line5, line6, deep_in, touching_in}
use Rattle.laws_moves.specs.Lists.{Fed, count_from, take_out, put_in, refused, rows_moved, rows_after, row_list, Triangular, bits_at, PairwiseDifferentBits, NoNanOnDiagonal}

-- a move with a factor of so many numbers
abbrev by : ℕ → ℕ → ℕ → Fed
by from to k = record { from = from; to = to; factor_length = k }

down : row_list 3 3 (by 0 2 0 ∷ []) ≡ 1 ∷ 2 ∷ 0 ∷ []
unfolding row_list rows_after rows_moved refused count_from put_in take_out
down = refl

up : row_list 3 3 (by 2 0 9 ∷ []) ≡ 2 ∷ 0 ∷ 1 ∷ []
unfolding row_list rows_after rows_moved refused count_from put_in take_out
up = refl

-- line 4, line 7 twice, and equal positions: nothing changes
kept : row_list 3 3 (by 0 2 3 ∷ by 3 0 0 ∷ by 0 3 9 ∷ by 1 1 0 ∷ []) ≡ 0 ∷ 1 ∷ 2 ∷ []
unfolding row_list rows_after rows_moved refused count_from put_in take_out
kept = refl

-- by the stride 4 a factor has 12 numbers: one of 9 is turned away by line 4
wider : row_list 4 3 (by 2 0 9 ∷ by 0 2 12 ∷ []) ≡ 1 ∷ 2 ∷ 0 ∷ []
unfolding row_list rows_after rows_moved refused count_from put_in take_out
wider = refl

abbrev bits : ℕ → Float
bits = of_bits binary64

-- rows (1, 0, 0), (-0, 2, 0), (0, 0, 3), and a row of NaNs
abbrev form : List Float
form =
    bits 0x3ff0_0000_0000_0000 ∷ bits 0x8000_0000_0000_0000 ∷ bits 0 ∷ nan
    ∷ bits 0 ∷ bits 0x4000_0000_0000_0000 ∷ bits 0 ∷ nan
    ∷ bits 0 ∷ bits 0 ∷ bits 0x4008_0000_0000_0000 ∷ nan ∷ []

triangular : Triangular binary64 4 3 form
unfolding form_line line2 line17 line3 line5 line6 deep_in touching_in ne eq of_bits
triangular = record { accepted = refl; zeros = zeros }
  where
    zeros : (j : ℕ) → j + 1 < 3 → zero_below binary64 4 form j ≡ true
    zeros zero h = refl
    zeros (suc zero) h = refl
    zeros (suc (suc j)) h = absurd (omega arith)

-- the row in which a pattern stands
row_of : ℕ → ℕ
row_of b = cond (eqb b 0x3ff0_0000_0000_0000) 0 (cond (eqb b 0x4000_0000_0000_0000) 1 2)

row-of : (i : ℕ) → i < 3 → row_of (bits_at binary64 4 form i) ≡ i
unfolding row_of to_bits of_bits
row-of zero h = refl
row-of (suc zero) h = refl
row-of (suc (suc zero)) h = refl
row-of (suc (suc (suc i))) h = absurd (omega arith)

different : PairwiseDifferentBits binary64 4 3 form
different i j g h d e = d (sym (row-of i g) ∙ ap row_of e ∙ row-of j h)

numbers : NoNanOnDiagonal binary64 4 3 form
unfolding is_nan of_bits
numbers zero h = refl
numbers (suc zero) h = refl
numbers (suc (suc zero)) h = refl
numbers (suc (suc (suc i))) h = absurd (omega arith)
