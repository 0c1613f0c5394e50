-- The exchange of two neighbouring blocks (schur_swap), whole, and as a call. Definitions only. Assumes nothing.
use Rattle.std.specs.Prelude.{ℕ, zero, suc, ◌+◌, ◌-◌, Bool, not, ◌&&◌, ◌||◌, cond, List, [], ◌∷◌, eqb, ltb, length, Float}
use Rattle.std.specs.Float.{Format}
use Rattle.model.specs.Lines.{Line, first_of}
use Rattle.model.specs.Form.{zero_below, two_block, row_count, stride, form_length, factor_length, deep_entry, touching_blocks, position}
use Rattle.model.specs.Columns.{on_factor}
use Rattle.model.specs.Swaps.{Change, unchanged, and_then, swaps_of, declined_of, swap_of, standardise}

-- ---- the exchange

-- the rows from row j on standardised if there are two
unfoldable pub standardise_if : Format → ℕ → ℕ → ℕ → ℕ → List Float → Change
standardise_if f ld n size j t = cond (eqb size 2) (standardise f ld n j t) (unchanged t)

-- one swap, then the new upper block standardised, then the lower, after a decline too
unfoldable pub exchange_whole : Format → ℕ → ℕ → ℕ → ℕ → ℕ → List Float → Change
exchange_whole f ld n j n1 n2 t = and_then (and_then (swap_of f ld n j n1 n2 t) (standardise_if f ld n n2 j)) (standardise_if f ld n n1 (j + n2))

-- The n1 rows from row j on with the n2 below them. Two rows with a zero inside go one by one: of the first two the lower first, of the second two the upper first.
-- The sizes' sum falls at each step inside.
unfoldable pub exchange_by : ℕ → Format → ℕ → ℕ → ℕ → ℕ → ℕ → List Float → Change
exchange_by zero f ld n j n1 n2 t = unchanged t
exchange_by (suc k) f ld n j n1 n2 t =
    cond (eqb n1 2 && zero_below f ld t j) (and_then (exchange_by k f ld n (j + 1) 1 n2 t) (exchange_by k f ld n j 1 n2))
    (cond (eqb n2 2 && zero_below f ld t (j + n1)) (and_then (exchange_by k f ld n j n1 1 t) (exchange_by k f ld n (j + 1) n1 1))
    (exchange_whole f ld n j n1 n2 t))

unfoldable pub exchange : Format → ℕ → ℕ → ℕ → ℕ → ℕ → List Float → Change
exchange f ld n j n1 n2 t = exchange_by (n1 + n2) f ld n j n1 n2 t

-- ---- document 01's lines of an exchange

-- 8. n1 or n2 is not 1 or 2
unfoldable pub line8 : ℕ → ℕ → Bool
line8 n1 n2 = not ((eqb n1 1 || eqb n1 2) && (eqb n2 1 || eqb n2 2))

-- 9. The rows run past n
unfoldable pub line9 : ℕ → ℕ → ℕ → ℕ → Bool
line9 n j n1 n2 = ltb n (j + n1 + n2)

-- a 2-block lies across the edge above row e
unfoldable pub crosses : Format → ℕ → ℕ → List Float → ℕ → Bool
crosses f ld n t e = ltb 0 e && two_block f ld n t (e - 1)

-- 10. A 2-block lies across the upper edge, the middle or the lower edge
unfoldable pub line10 : Format → ℕ → ℕ → List Float → ℕ → ℕ → ℕ → Bool
line10 f ld n t j n1 n2 = crosses f ld n t j || (crosses f ld n t (j + n1) || crosses f ld n t (j + n1 + n2))

-- the same as lines, each with its number

abbrev pub block_sizes : ℕ → ℕ → Line
block_sizes n1 n2 = record { number = 8; applies = line8 n1 n2 }

abbrev pub past_the_end : ℕ → ℕ → ℕ → ℕ → Line
past_the_end n j n1 n2 = record { number = 9; applies = line9 n j n1 n2 }

abbrev pub across_edges : Format → ℕ → ℕ → List Float → ℕ → ℕ → ℕ → Line
across_edges f ld n t j n1 n2 = record { number = 10; applies = line10 f ld n t j n1 n2 }

unfoldable pub exchange_line : Format → ℕ → ℕ → List Float → List Float → ℕ → ℕ → ℕ → ℕ
unfolding first_of
exchange_line f ld n t u j n1 n2 =
    first_of
    (row_count n
    ∷ stride ld n
    ∷ form_length ld n t
    ∷ factor_length ld n u
    ∷ deep_entry f ld n t
    ∷ touching_blocks f ld n t
    ∷ position n j
    ∷ block_sizes n1 n2
    ∷ past_the_end n j n1 n2
    ∷ across_edges f ld n t j n1 n2
    ∷ [])

-- ---- the call

-- what a factor is worked in: n rows, or none
unfoldable pub factor_rows : ℕ → List Float → ℕ
factor_rows n u = cond (eqb (length u) 0) 0 n

pub record Exchanged : Type 0 where
  pub answer : ℕ
  pub swaps : ℕ
  pub declined : ℕ
  pub form : List Float
  pub factor : List Float

-- a change of the form, and of the factor beside it
abbrev pub exchanged : Format → ℕ → ℕ → List Float → Change → Exchanged
exchanged f ld n u c =
    record { answer = 0; swaps = swaps_of c; declined = declined_of c; form = c.form; factor = on_factor f ld (factor_rows n u) c.operations u }

unfoldable pub exchange_call : Format → ℕ → ℕ → List Float → List Float → ℕ → ℕ → ℕ → Exchanged
exchange_call f ld n t u j n1 n2 =
    let line = exchange_line f ld n t u j n1 n2 in
    cond (eqb line 0) (exchanged f ld n u (exchange f ld n j n1 n2 t)) (record { answer = line; swaps = 0; declined = 0; form = t; factor = u })
