-- The claim: the rule on lists of moves (demand 3) covers lists of moves at once, among single moves of either kind. Definitions and the statement only: it is proved in proofs/Rule.antt, by the theorem of laws_moves. Assumes nothing.
-- All over the format: both widths are one statement.
use Rattle.std.specs.Prelude.{ℕ, cond, List, [], ◌∷◌, ◌++◌, eqb, length, Float}
use Rattle.std.specs.Float.{Format}
use Rattle.model.specs.Lists.{Pair, pairs, list_line, list_call}
use Rattle.laws_moves.specs.Lists.{Move, form_moved, Fed, fed_of, RuleOnLists}

-- a single move, by the move that stops or by 01's; or a list of moves at once, with the factor that it brings, and the results as they were lent
pub data Call : Type 0 where
  single : Move → Call
  a_list : List ℕ → List Float → List ℕ → Call

-- by the call's own definition, the one that its contract cites
unfoldable pub form_called : Format → ℕ → ℕ → Call → List Float → List Float
form_called f ld n (single m) t = form_moved f ld n m t
form_called f ld n (a_list ms u rs) t = (list_call f ld n t u ms rs).form

-- each on the form as the call before left it; n and the stride stay from the first call to the last
unfoldable pub form_after : Format → ℕ → ℕ → List Call → List Float → List Float
form_after f ld n [] t = t
form_after f ld n (c ∷ cs) t = form_after f ld n cs (form_called f ld n c t)

-- of each pair the two positions, and the length of the list's factor
unfoldable pub fed_pairs : ℕ → List Pair → List Fed
fed_pairs long [] = []
fed_pairs long (q ∷ qs) = record { from = q.from; to = q.to; factor_length = long } ∷ fed_pairs long qs

-- of a list that gives 0 every pair, refused ones too; of one that line 12 turns away nothing
unfoldable pub fed_call : Call → List Fed
fed_call (single m) = fed_of m ∷ []
fed_call (a_list ms u rs) = cond (eqb (list_line ms rs) 0) (fed_pairs (length u) (pairs ms)) []

unfoldable pub fed : List Call → List Fed
fed [] = []
fed (c ∷ cs) = fed_call c ++ fed cs

-- two mixtures of list calls, single moves and moves that stop, each with a stride of its own, end in equal diagonals exactly when their row lists are equal
abbrev pub ListsOfCalls : Type 0
ListsOfCalls = RuleOnLists Call form_after fed
