-- The claims: a list of moves at once is the single calls made in turn, and what turns them away but for line 7 is seen before the first. Definitions only: proofs/Turns.antt proves them. Assumes nothing.
-- All over the format and the stride, whatever numbers stand in the form.
use Rattle.std.specs.Prelude.{ℕ, ◌*◌, ◌≡◌, cond, List, [], ◌∷◌, ◌++◌, map, eqb, length, drop, Float}
use Rattle.std.specs.Float.{Format}
use Rattle.model.specs.Lines.{first_of}
use Rattle.model.specs.Form.{row_count, stride, form_length, factor_length, deep_entry, touching_blocks, position}
use Rattle.model.specs.Move.{Moved, move_call}
use Rattle.model.specs.Lists.{Pair, pairs, list_line, Listed, list_call}

-- ---- the single calls, each on form and factor as the one before left them

-- what each gives, and leaves
unfoldable pub singles : Format → ℕ → ℕ → List Pair → List Float → List Float → List Moved
singles f ld n [] t u = []
singles f ld n (q ∷ qs) t u = let m = move_call f ld n t u q.from q.to in m ∷ singles f ld n qs m.form m.factor

-- the form, and the factor, that the last of some calls left, or those before them
unfoldable pub last_form : List Float → List Moved → List Float
last_form t [] = t
last_form t (m ∷ ms) = last_form m.form ms

unfoldable pub last_factor : List Float → List Moved → List Float
last_factor u [] = u
last_factor u (m ∷ ms) = last_factor m.factor ms

-- their numbers, four each
unfoldable pub numbers_of : List Moved → List ℕ
numbers_of [] = []
numbers_of (m ∷ ms) = m.answer ∷ m.landed ∷ m.swaps ∷ m.declined ∷ numbers_of ms

-- ---- claim 1

-- a list that line 12 does not turn away answers 0, and leaves form and factor as the last single call leaves them; the results are the four numbers of each call in their order, and behind them what stood there
abbrev pub InTurn : Type 0
InTurn =
    (f : Format) (ld n : ℕ) (t u : List Float) (ms rs : List ℕ)
    → list_line ms rs ≡ 0
    → (let qs = pairs ms in
    let ss = singles f ld n qs t u in
    ◌≡◌ {A = Listed} (list_call f ld n t u ms rs) (record { answer = 0; form = last_form t ss; factor = last_factor u ss; results = numbers_of ss ++ drop (4 * length qs) rs }))

-- 12 is the only other number, and then all stays
abbrev pub TwelveAlone : Type 0
TwelveAlone =
    (f : Format) (ld n : ℕ) (t u : List Float) (ms rs : List ℕ)
    → (list_line ms rs ≡ 0 → (list_call f ld n t u ms rs).answer ≡ 0)
    × ((list_line ms rs ≡ 0 → ⊥) → ◌≡◌ {A = Listed} (list_call f ld n t u ms rs) (record { answer = 12; form = t; factor = u; results = rs }))

-- ---- claim 2: checked once

-- the first line that applies to n, the stride, form and factor, whatever the positions, or 0
unfoldable pub lent_line : Format → ℕ → ℕ → List Float → List Float → ℕ
unfolding first_of
lent_line f ld n t u =
    first_of (row_count n ∷ stride ld n ∷ form_length ld n t ∷ factor_length ld n u ∷ deep_entry f ld n t ∷ touching_blocks f ld n t ∷ [])

-- the line of a move is that, or where none applies line 7
unfoldable pub pair_line : Format → ℕ → ℕ → List Float → List Float → Pair → ℕ
unfolding first_of
pair_line f ld n t u q = cond (eqb (lent_line f ld n t u) 0) (first_of (position n q.from ∷ position n q.to ∷ [])) (lent_line f ld n t u)

-- every number that a single call answers is told by form and factor as they were lent, before the first: no move changes it
abbrev pub CheckedOnce : Type 0
CheckedOnce = (f : Format) (ld n : ℕ) (t u : List Float) (qs : List Pair) → map (λ (m : Moved). m.answer) (singles f ld n qs t u) ≡ map (pair_line f ld n t u) qs
