-- A list of moves at once (reorder_schur_list): the single call folded over the pairs of a list of numbers. Definitions only. Assumes nothing.
use Rattle.std.specs.Prelude.{ℕ, ◌+◌, ◌*◌, ◌/◌, ◌%◌, Bool, not, ◌||◌, cond, List, [], ◌∷◌, eqb, ltb, length, set, Float}
use Rattle.std.specs.Float.{Format}
use Rattle.model.specs.Lines.{Line, first_of}
use Rattle.model.specs.Move.{Moved, move_call}

-- ---- a list of numbers from, to, from, to, ..

-- the block in row `from` is to be moved to row `to`
pub record Pair : Type 0 where
  pub from : ℕ
  pub to : ℕ

-- in order; a number left over at the end is in none
unfoldable pub pairs : List ℕ → List Pair
pairs [] = []
pairs (from ∷ []) = []
pairs (from ∷ to ∷ ms) = record { from = from; to = to } ∷ pairs ms

-- ---- document 02's line

-- 12. The list has an odd length or more than 64 pairs, or the results lack four places a pair
unfoldable pub line12 : List ℕ → List ℕ → Bool
line12 ms rs = let count = length ms / 2 in not (eqb (length ms % 2) 0) || (ltb 64 count || ltb (length rs) (4 * count))

abbrev pub move_list : List ℕ → List ℕ → Line
move_list ms rs = record { number = 12; applies = line12 ms rs }

unfoldable pub list_line : List ℕ → List ℕ → ℕ
unfolding first_of
list_line ms rs = first_of (move_list ms rs ∷ [])

-- ---- the call

pub record Listed : Type 0 where
  pub answer : ℕ
  pub form : List Float
  pub factor : List Float
  pub results : List ℕ

-- the four numbers of a single call, from place p on
unfoldable pub written : ℕ → Moved → List ℕ → List ℕ
written p m rs = set (set (set (set rs p m.answer) (p + 1) m.landed) (p + 2) m.swaps) (p + 3) m.declined

-- a single call on form and factor as they stand, and its numbers written
unfoldable pub one_more : Format → ℕ → ℕ → Pair → ℕ → Listed → Listed
one_more f ld n q p s =
    let m = move_call f ld n s.form s.factor q.from q.to in
    record { answer = s.answer; form = m.form; factor = m.factor; results = written p m s.results }

-- each pair in turn, turned away or not, with the results from place p on
unfoldable pub in_turn : Format → ℕ → ℕ → List Pair → ℕ → Listed → Listed
in_turn f ld n [] p s = s
in_turn f ld n (q ∷ qs) p s = in_turn f ld n qs (p + 4) (one_more f ld n q p s)

-- where line 12 does not apply the answer is 0, whatever the single calls answer
unfoldable pub list_call : Format → ℕ → ℕ → List Float → List Float → List ℕ → List ℕ → Listed
list_call f ld n t u ms rs =
    let line = list_line ms rs in
    let lent : Listed = record { answer = line; form = t; factor = u; results = rs } in
    cond (eqb line 0) (in_turn f ld n (pairs ms) 0 lent) lent
