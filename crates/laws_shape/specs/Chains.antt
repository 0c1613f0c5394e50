-- The claims on chains of calls: whatever accepted form they begin with and whatever numbers stand in it, what they give back can be sent to any call again, buffers too; and the form and all answers are the same with a factor and without. Definitions only: proofs/Chains.antt proves them. Assumes nothing.
-- All over the format and the stride.
use Rattle.std.specs.Prelude.{ℕ, ◌*◌, ◌≡◌, Bool, false, List, [], ◌∷◌, length, Float}
use Rattle.std.specs.Float.{Format}
use Rattle.model.specs.Lines.{first_of}
use Rattle.model.specs.Form.{line4, line5, line6, form_line, factor_length, buffer_length, position}
use Rattle.model.specs.Exchange.{block_sizes, past_the_end, across_edges, exchange_line, Exchanged, exchange_call}
use Rattle.model.specs.Move.{move_line, Moved, move_call}
use Rattle.model.specs.Stopping.{Stopped, stopping_call}
use Rattle.model.specs.Values.{Reading, Parts, values_line, values_read}
use Rattle.model.specs.Vectors.{vectors_line, evd_from_real_schur, column_line}
use Rattle.laws_shape.specs.Numbers.{InFormat}

-- ---- a chain of calls on one form

-- 01's move, the move that stops, both from a row to a row, and the exchange of rows from a row on, of two sizes; each with the factor that it brings, of any length and content
pub data Call : Type 0 where
  a_move : ℕ → ℕ → List Float → Call
  a_stop : ℕ → ℕ → List Float → Call
  an_exchange : ℕ → ℕ → ℕ → List Float → Call

-- all numbers of an answer: an exchange lands nowhere, and only a move that stops can have stopped
pub record Answer : Type 0 where
  pub number : ℕ
  pub stopped : Bool
  pub landed : ℕ
  pub swaps : ℕ
  pub declined : ℕ

pub record Result : Type 0 where
  pub answer : Answer
  pub form : List Float
  pub factor : List Float

abbrev pub of_move : Moved → Result
of_move m =
    record { answer = record { number = m.answer; stopped = false; landed = m.landed; swaps = m.swaps; declined = m.declined }; form = m.form; factor = m.factor }

abbrev pub of_stop : Stopped → Result
of_stop m =
    record { answer = record { number = m.answer; stopped = m.stopped; landed = m.here; swaps = m.swaps; declined = m.declined }; form = m.form; factor = m.factor }

abbrev pub of_exchange : Exchanged → Result
of_exchange m = record { answer = record { number = m.answer; stopped = false; landed = 0; swaps = m.swaps; declined = m.declined }; form = m.form; factor = m.factor }

-- a call by the definition that its contract cites, turned away or not
unfoldable pub called : Format → ℕ → ℕ → List Float → Call → Result
called f ld n t (a_move from to u) = of_move (move_call f ld n t u from to)
called f ld n t (a_stop from to u) = of_stop (stopping_call f ld n t u from to)
called f ld n t (an_exchange j n1 n2 u) = of_exchange (exchange_call f ld n t u j n1 n2)

-- each on the form as the call before left it; n and the stride stay
unfoldable pub form_after : Format → ℕ → ℕ → List Call → List Float → List Float
form_after f ld n [] t = t
form_after f ld n (c ∷ cs) t = form_after f ld n cs (called f ld n t c).form

unfoldable pub answers_of : Format → ℕ → ℕ → List Call → List Float → List Answer
answers_of f ld n [] t = []
answers_of f ld n (c ∷ cs) t = (called f ld n t c).answer ∷ answers_of f ld n cs (called f ld n t c).form

-- ---- claim 1: every result can be sent back

-- the lines that a call can still be turned away by are those of its own arguments
pub record OwnLines (f : Format) (ld n : ℕ) (t : List Float) : Type 0 where
  -- of both moves
  pub moves : (u : List Float) (from to : ℕ) → move_line f ld n t u from to ≡ first_of (factor_length ld n u ∷ position n from ∷ position n to ∷ [])
  pub exchanges : (u : List Float) (j n1 n2 : ℕ)
      → exchange_line f ld n t u j n1 n2 ≡ first_of (factor_length ld n u ∷ position n j ∷ block_sizes n1 n2 ∷ past_the_end n j n1 n2 ∷ across_edges f ld n t j n1 n2 ∷ [])
  -- of both readings of the values
  pub values : (s : Parts) → values_line f ld n t s ≡ first_of (buffer_length (length s.re) n ∷ buffer_length (length s.im) n ∷ [])
  pub vectors : (v : List Float) → vectors_line f ld n t v ≡ first_of (buffer_length (length v) (ld * n) ∷ [])

pub record CanBeSent (f : Format) (ld n : ℕ) (t : List Float) : Type 0 where
  pub deep : line5 f ld n t ≡ false
  pub touching : line6 f ld n t ≡ false
  -- nor does a line about n, the stride or the form's length apply
  pub accepted : form_line f ld n t ≡ 0
  pub own : OwnLines f ld n t

-- after any chain, calls that are turned away among them, from any accepted form
abbrev pub SentBack : Type 0
SentBack = (f : Format) (ld n : ℕ) (t : List Float) (cs : List Call) → form_line f ld n t ≡ 0 → CanBeSent f ld n (form_after f ld n cs t)

-- ---- and so can the buffers beside the form

-- the factor that a call is lent
unfoldable pub factor_of : Call → List Float
factor_of (a_move from to u) = u
factor_of (a_stop from to u) = u
factor_of (an_exchange j n1 n2 u) = u

-- a call leaves each as long as it was lent, turned away or not
pub record BuffersSentBack : Type 0 where
  pub factor : (f : Format) (ld n : ℕ) (t : List Float) (c : Call) → length (called f ld n t c).factor ≡ length (factor_of c)
  pub vectors : (f : Format) (ld n : ℕ) (t v : List Float) → length (evd_from_real_schur f ld n t v).v ≡ length v
  -- of the values, by any reading
  pub re : (f : Format) (rd : Reading) (ld n : ℕ) (t : List Float) (s : Parts) → length (values_read f rd ld n t s).parts.re ≡ length s.re
  pub im : (f : Format) (rd : Reading) (ld n : ℕ) (t : List Float) (s : Parts) → length (values_read f rd ld n t s).parts.im ≡ length s.im
  -- so a column of the vectors of an accepted form is refused for its number alone
  pub column : (f : Format) (ld n : ℕ) (t v : List Float) (col : ℕ) → vectors_line f ld n t v ≡ 0 → column_line ld n (evd_from_real_schur f ld n t v).v col ≡ first_of (position n col ∷ [])

-- and the numbers of form and factor stay numbers of the format, if they were, whatever the form: words for them can be written down, and read again
pub record NumbersStay : Type 0 where
  pub form : (f : Format) (ld n : ℕ) (t : List Float) (cs : List Call) → InFormat f t → InFormat f (form_after f ld n cs t)
  pub factor : (f : Format) (ld n : ℕ) (t : List Float) (c : Call) → InFormat f (factor_of c) → InFormat f (called f ld n t c).factor

-- ---- claim 2: the same with a factor and without

-- a call with another factor in its place
unfoldable pub with_factor : List Float → Call → Call
with_factor v (a_move from to u) = a_move from to v
with_factor v (a_stop from to u) = a_stop from to v
with_factor v (an_exchange j n1 n2 u) = an_exchange j n1 n2 v

-- a chain with another factor at each call
unfoldable pub with_factors : List (List Float) → List Call → List Call
with_factors [] cs = cs
with_factors (v ∷ vs) [] = []
with_factors (v ∷ vs) (c ∷ cs) = with_factor v c ∷ with_factors vs cs

-- of whatever content, but line 4 turns away both a call's own and the other, or neither: so either may be of the full length, and the other none
unfoldable pub Lengths : ℕ → ℕ → List (List Float) → List Call → Type 0
Lengths ld n [] cs = Unit {0}
Lengths ld n (v ∷ vs) [] = Unit {0}
Lengths ld n (v ∷ vs) (c ∷ cs) = (line4 ld n v ≡ line4 ld n (factor_of c)) × Lengths ld n vs cs

pub record Same (f : Format) (ld n : ℕ) (t : List Float) (cs ds : List Call) : Type 0 where
  pub form : form_after f ld n cs t ≡ form_after f ld n ds t
  pub answers : answers_of f ld n cs t ≡ answers_of f ld n ds t

-- on any form at all
abbrev pub SameWithout : Type 0
SameWithout = (f : Format) (ld n : ℕ) (t : List Float) (vs : List (List Float)) (cs : List Call) → Lengths ld n vs cs → Same f ld n t (with_factors vs cs) cs
