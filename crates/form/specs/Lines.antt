-- The lines of document 01's list that the calls on forms share, in their parts: those of sizes, that of a further buffer, those of the form's shape. Definitions only. Assumes nothing.
use Rattle.std.specs.Prelude.{ℕ, Bool, ◌&&◌, ◌||◌, List, [], ◌∷◌, eqb, Float}
use Rattle.std.specs.Float.{binary64}
use Rattle.model.specs.Lines.{first_of}
use Rattle.model.specs.Form.{row_count, stride, form_length, deep_entry, touching_blocks, position}

-- the first of lines 2, 17 and 3 that applies, or 0
unfoldable pub size_line : ℕ → ℕ → List Float → ℕ
unfolding first_of
size_line ld n t = first_of (row_count n ∷ stride ld n ∷ form_length ld n t ∷ [])

-- the first of lines 5 and 6 that applies, or 0
unfoldable pub shape_line : ℕ → ℕ → List Float → ℕ
unfolding first_of
shape_line ld n t = first_of (deep_entry binary64 ld n t ∷ touching_blocks binary64 ld n t ∷ [])

-- all of them with line 4 of further buffers, of which it is told whether one of their lengths is wrong
unfoldable pub further_line : ℕ → ℕ → List Float → Bool → ℕ
unfolding first_of
further_line ld n t wrong = first_of (row_count n ∷ stride ld n ∷ form_length ld n t ∷ record { number = 4; applies = wrong } ∷ deep_entry binary64 ld n t ∷ touching_blocks binary64 ld n t ∷ [])

-- line 7 of a move, or 0
unfoldable pub positions_line : ℕ → ℕ → ℕ → ℕ
unfolding first_of
positions_line n from to = first_of (position n from ∷ position n to ∷ [])

-- line 8 does not apply
abbrev pub sizes_fit : ℕ → ℕ → Bool
sizes_fit n1 n2 = (eqb n1 1 || eqb n1 2) && (eqb n2 1 || eqb n2 2)
