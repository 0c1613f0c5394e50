-- What a line of each call on forms shows, by the call's definition in model. Definitions only. Assumes nothing.
use Rattle.std.specs.Prelude.{ℕ, ◌+◌, ◌*◌, Bool, ◌&&◌, cond, List, [], ◌∷◌, eqb, leb, length, get_or, take, drop, Float}
use Rattle.std.specs.Cmp.Lexicographic.{pointwise}
use Rattle.std.specs.Float.{binary64}
use Rattle.model.specs.Move as Move
use Rattle.model.specs.Stopping as Stopping
use Rattle.model.specs.Exchange as Exchange
use Rattle.model.specs.Vectors as Vectors
use Rattle.model.specs.Values as Values
use Rattle.replay_text.specs.Float.{are_words}
use Rattle.replay_text.specs.Shown.{judged, from}
use Rattle.replay_text.specs.declared.outcome.Outcome.{Outcome}
use Rattle.replay_forms.specs.declared.head.Stride.{Stride}

-- Where a line has no stride, n serves for it; with one word more, the stride stands after n.
abbrev pub more : Stride → ℕ
more Stride.OfRows = 0
more Stride.Given = 1

-- the k words from word i on are those of the numbers x
abbrev pub are : List ℕ → ℕ → ℕ → List Float → Bool
are w i k x = are_words x (take k (drop i w))

-- so many words are `rest` and buffers that a room holds: one of `once` numbers that is given, and two of a and b
-- numbers that are given and expected
unfoldable pub fits : ℕ → ℕ → ℕ → ℕ → ℕ → Bool
fits words rest once a b = leb once 8320 && leb a 8320 && leb b 8320 && eqb words (rest + once + 2 * (a + b))

-- what a call on a form and a factor answers: its numbers, and form and factor after it
pub record Answered : Type 0 where
  pub numbers : List ℕ
  pub form : List Float
  pub factor : List Float

-- of the stride, n, the numbers that a line gives, form and factor
abbrev pub Call : Type 0
Call = ℕ → ℕ → List ℕ → List Float → List Float → Answered

-- the numbers of an answer in the order of a line, with 1 for the mark
abbrev pub of_move : Move.Moved → Answered
of_move r = record { numbers = r.answer ∷ r.landed ∷ r.swaps ∷ r.declined ∷ []; form = r.form; factor = r.factor }

abbrev pub of_stopping : Stopping.Stopped → Answered
of_stopping r = record { numbers = r.answer ∷ cond r.stopped 1 0 ∷ r.here ∷ r.swaps ∷ r.declined ∷ []; form = r.form; factor = r.factor }

abbrev pub of_exchange : Exchange.Exchanged → Answered
of_exchange r = record { numbers = r.answer ∷ r.swaps ∷ r.declined ∷ []; form = r.form; factor = r.factor }

-- the calls of from and to, and of j0, n1 and n2
abbrev pub move : Call
move ld n g t u = of_move (Move.move_call binary64 ld n t u (get_or g 0 0) (get_or g 1 0))

abbrev pub stopping : Call
stopping ld n g t u = of_stopping (Stopping.stopping_call binary64 ld n t u (get_or g 0 0) (get_or g 1 0))

abbrev pub exchange : Call
exchange ld n g t u = of_exchange (Exchange.exchange_call binary64 ld n t u (get_or g 0 0) (get_or g 1 0) (get_or g 2 0))

-- the call of a line that gives g numbers, a form of a numbers and a factor of b; expected are k numbers, form, factor
unfoldable pub same_two : Call → ℕ → ℕ → ℕ → List ℕ → ℕ → ℕ → Bool
same_two call g k more w a b =
    let i = 3 + more + g in
    let r = call (get_or w (2 + more) 0) (get_or w 2 0) (take g (drop (3 + more) w)) (from w i a) (from w (i + a) b) in
    let e = i + a + b in
    pointwise eqb r.numbers (take k (drop e w)) && are w (e + k) a r.form && are w (e + k + a) b r.factor

-- a line of such a call: the two lengths stand first
abbrev pub on_two : Call → ℕ → ℕ → ℕ → List ℕ → Outcome
on_two call g k more w = let a = get_or w 0 0 in let b = get_or w 1 0 in judged (fits (length w) (3 + more + g + k) 0 a b) (same_two call g k more w a b)

abbrev pub reorder_schur : ℕ → List ℕ → Outcome
reorder_schur more w = on_two move 2 4 more w

abbrev pub reorder_schur_stopping : ℕ → List ℕ → Outcome
reorder_schur_stopping more w = on_two stopping 2 5 more w

abbrev pub schur_swap : ℕ → List ℕ → Outcome
schur_swap more w = on_two exchange 3 3 more w

-- a form of a numbers and b lent for its vectors
unfoldable pub same_vectors : ℕ → List ℕ → ℕ → ℕ → Bool
same_vectors more w a b =
    let r = Vectors.evd_from_real_schur binary64 (get_or w (2 + more) 0) (get_or w 2 0) (from w (3 + more) a) (from w (3 + more + a) b) in
    let e = 3 + more + a + b in
    eqb r.answer (get_or w e 0) && are w (e + 1) b r.v

abbrev pub evd_from_real_schur : ℕ → List ℕ → Outcome
evd_from_real_schur more w = let a = get_or w 0 0 in let b = get_or w 1 0 in judged (fits (length w) (4 + more) a b 0) (same_vectors more w a b)

-- a form of a numbers, and b and k lent for the parts of its values, by a reading
unfoldable pub same_values : Values.Reading → ℕ → List ℕ → ℕ → ℕ → ℕ → Bool
same_values read more w a b k =
    let r = Values.values_read binary64 read (get_or w (3 + more) 0) (get_or w 3 0) (from w (4 + more) a) (record { re = from w (4 + more + a) b; im = from w (4 + more + a + b) k }) in
    let e = 4 + more + a + b + k in
    eqb r.answer (get_or w e 0) && are w (e + 1) b r.parts.re && are w (e + 1 + b) k r.parts.im

abbrev pub on_values : Values.Reading → ℕ → List ℕ → Outcome
on_values read more w =
    let a = get_or w 0 0 in let b = get_or w 1 0 in let k = get_or w 2 0 in judged (fits (length w) (5 + more) a b k) (same_values read more w a b k)

abbrev pub block_values : ℕ → List ℕ → Outcome
block_values more w = on_values (Values.as_it_stands binary64) more w

abbrev pub standardised_values : ℕ → List ℕ → Outcome
standardised_values more w = on_values (Values.standardised_first binary64) more w

-- vectors of a numbers, and the rest of the line is the part, of length 0 where it is refused
unfoldable pub same_column : ℕ → List ℕ → ℕ → Bool
same_column more w a = are_words (Vectors.column_of (get_or w (1 + more) 0) (get_or w 1 0) (from w (3 + more) a) (get_or w (2 + more) 0)) (drop (3 + more + a) w)

abbrev pub column : ℕ → List ℕ → Outcome
column more w = let a = get_or w 0 0 in judged (leb a 8320 && leb (3 + more + a) (length w)) (same_column more w a)
