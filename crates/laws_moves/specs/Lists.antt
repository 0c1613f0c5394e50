-- The rule on lists of moves (demand 3), each by 01's move or by the move that stops: what a list does to a form, the row list that is worked beside it, and the claim about two lists. Definitions and the statement only: it is proved in proofs/Lists.antt. Assumes nothing.
-- All over the format: both widths are one statement.
use Rattle.std.specs.Prelude.{◌≡◌, ℕ, zero, suc, ◌+◌, ◌*◌, ◌<◌, Bool, true, false, not, ◌||◌, cond, List, [], ◌∷◌, eqb, ltb, length, get_or, Float}
use Rattle.std.specs.Float.{Format}
use Rattle.std.specs.Float.Ieee.{is_nan, to_bits}
use Rattle.model.specs.Form.{entry, zero_below, form_line}
use Rattle.model.specs.Move.{move_call}
use Rattle.model.specs.Stopping.{stopping_call}

-- ---- a list of moves on a form

-- whether it is the move that stops or 01's; its two positions, and the factor that it brings, of any length and content
pub record Move : Type 0 where
  pub stops : Bool
  pub from : ℕ
  pub to : ℕ
  pub factor : List Float

-- a move by its call's own definition, the one that the contract of reorder_schur_stopping or of reorder_schur cites
unfoldable pub form_moved : Format → ℕ → ℕ → Move → List Float → List Float
form_moved f ld n m t = cond m.stops (stopping_call f ld n t m.factor m.from m.to).form (move_call f ld n t m.factor m.from m.to).form

-- each on the form as the move before left it; n and the stride stay from the first move to the last
unfoldable pub form_after : Format → ℕ → ℕ → List Move → List Float → List Float
form_after f ld n [] t = t
form_after f ld n (m ∷ ms) t = form_after f ld n ms (form_moved f ld n m t)

-- ---- the row list, by itself: it reads no number of a form or a factor, and no answer

-- what it is fed of a move, beside n and the stride: the two positions, and the factor's length; not its kind
pub record Fed : Type 0 where
  pub from : ℕ
  pub to : ℕ
  pub factor_length : ℕ

abbrev pub fed_of : Move → Fed
fed_of m = record { from = m.from; to = m.to; factor_length = length m.factor }

unfoldable pub fed : List Move → List Fed
fed [] = []
fed (m ∷ ms) = fed_of m ∷ fed ms

-- k numbers from i on: i, i + 1, ..
unfoldable pub count_from : ℕ → ℕ → List ℕ
count_from zero i = []
count_from (suc k) i = i ∷ count_from k (i + 1)

-- the number at a place taken out: the rest close up
unfoldable pub take_out : ℕ → List ℕ → List ℕ
take_out k [] = []
take_out zero (r ∷ rs) = rs
take_out (suc k) (r ∷ rs) = r ∷ take_out k rs

-- a number put in, so that it stands at a place: the rest make room
unfoldable pub put_in : ℕ → ℕ → List ℕ → List ℕ
put_in x zero rs = x ∷ rs
put_in x (suc k) [] = x ∷ []
put_in x (suc k) (r ∷ rs) = r ∷ put_in x k rs

-- line 4, the factor's length is neither stride × n nor 0, or line 7, a position is not below n
unfoldable pub refused : ℕ → ℕ → Fed → Bool
refused ld n m = not (eqb m.factor_length (ld * n) || eqb m.factor_length 0) || (not (ltb m.from n) || not (ltb m.to n))

-- a move
unfoldable pub rows_moved : ℕ → ℕ → Fed → List ℕ → List ℕ
rows_moved ld n m rs = cond (refused ld n m) rs (cond (eqb m.from m.to) rs (put_in (get_or rs m.from 0) m.to (take_out m.from rs)))

unfoldable pub rows_after : ℕ → ℕ → List Fed → List ℕ → List ℕ
rows_after ld n [] rs = rs
rows_after ld n (m ∷ ms) rs = rows_after ld n ms (rows_moved ld n m rs)

-- from 0, 1, up to n - 1
unfoldable pub row_list : ℕ → ℕ → List Fed → List ℕ
row_list ld n ms = rows_after ld n ms (count_from n 0)

-- ---- forms and their diagonals

-- no line turns the form away, and its subdiagonal entries are all zero, of either sign
pub record Triangular (f : Format) (ld n : ℕ) (t : List Float) : Type 0 where
  pub accepted : form_line f ld n t ≡ 0
  pub zeros : (j : ℕ) → j + 1 < n → zero_below f ld t j ≡ true

-- the bits of the number in row i, column i
abbrev pub bits_at : Format → ℕ → List Float → ℕ → ℕ
bits_at f ld t i = to_bits f (entry ld t i i)

-- of a by the stride ld and of b by the stride md
abbrev pub SameBits : Format → ℕ → ℕ → ℕ → List Float → List Float → Type 0
SameBits f ld md n a b = (i : ℕ) → i < n → bits_at f ld a i ≡ bits_at f md b i

abbrev pub PairwiseDifferentBits : Format → ℕ → ℕ → List Float → Type 0
PairwiseDifferentBits f ld n a = (i j : ℕ) → i < n → j < n → (i ≡ j → ⊥) → bits_at f ld a i ≡ bits_at f ld a j → ⊥

abbrev pub NoNanOnDiagonal : Format → ℕ → ℕ → List Float → Type 0
NoNanOnDiagonal f ld n a = (i : ℕ) → i < n → is_nan (entry ld a i i) ≡ false

-- ---- the claim: two lists, each with a stride of its own, end in equal diagonals exactly when their row lists are equal

-- of lists of any moves M: the form after a list of them, and what the row list is fed of it
abbrev pub RuleOnLists : (M : Type 0) → (Format → ℕ → ℕ → List M → List Float → List Float) → (List M → List Fed) → Type 0
RuleOnLists M after told =
    (f : Format) (ld md n : ℕ) (a b : List Float) (p q : List M)
    → Triangular f ld n a
    → Triangular f md n b
    → SameBits f ld md n a b
    → PairwiseDifferentBits f ld n a
    → NoNanOnDiagonal f ld n a
    → (SameBits f ld md n (after f ld n p a) (after f md n q b) → row_list ld n (told p) ≡ row_list md n (told q))
    × (row_list ld n (told p) ≡ row_list md n (told q) → SameBits f ld md n (after f ld n p a) (after f md n q b))

-- each move of either kind
abbrev pub ListsOfMoves : Type 0
ListsOfMoves = RuleOnLists Move form_after fed

-- ---- the same of lists of 01's move alone

-- a move of 01's
pub record PlainMove : Type 0 where
  pub from : ℕ
  pub to : ℕ
  pub factor : List Float

-- each by the definition that the contract of reorder_schur cites
unfoldable pub form_after_moves : Format → ℕ → ℕ → List PlainMove → List Float → List Float
form_after_moves f ld n [] t = t
form_after_moves f ld n (m ∷ ms) t = form_after_moves f ld n ms (move_call f ld n t m.factor m.from m.to).form

unfoldable pub fed_moves : List PlainMove → List Fed
fed_moves [] = []
fed_moves (m ∷ ms) = record { from = m.from; to = m.to; factor_length = length m.factor } ∷ fed_moves ms

abbrev pub ListsOfOneKind : Type 0
ListsOfOneKind = RuleOnLists PlainMove form_after_moves fed_moves
