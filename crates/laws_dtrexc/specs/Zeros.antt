-- The claim: each exchange is chosen by the place of the move and by the subdiagonal zeros at that moment, and by nothing else; and so does dtrexc choose, whatever form it works on and whatever its DLAEXC does to it, until one fails. Definitions only. Assumes nothing.
use Rattle.std.specs.Prelude.{ℕ, ◌+◌, ◌-◌, ◌≤◌, ◌<◌, ◌≡◌, Bool, true, false, not, ◌&&◌, cond, List, [], ◌∷◌, map, eqb, ltb, leb, take, Float}
use Rattle.std.proofs.Math.Option
use Rattle.std.proofs.Math.Option.{Option, none, some}
use Rattle.std.proofs.Math.ListN.{get_elem?}
use Rattle.std.specs.Float.{Format}
use Rattle.model.specs.Form.{zero_below}
use Rattle.model.specs.Swaps.{unchanged}
use Rattle.model.specs.Move.{Exchange, goal_down, move}
use Rattle.laws_dtrexc.specs.Dtrexc.{Routines, Call, Returned, dtrexc}
use Rattle.laws_dtrexc.specs.Choice.{as_call, make, made}

-- ---- at which of the n - 1 places just below the diagonal a form has a zero: j for the entry (j + 1, j), which is LAPACK's T( J+1, J ) with J = j + 1

abbrev pub Zeros : Type 0
Zeros = ℕ → Bool

-- of a form of ours, and of one that dtrexc works on
unfoldable pub zeros : Format → ℕ → ℕ → List Float → Zeros
zeros f ld n t j = ltb (j + 1) n && zero_below f ld t j

unfoldable pub zeros_in : {Form : Type 0} → Routines Form → ℕ → Form → Zeros
zeros_in r n T j = ltb (j + 1) n && r.is_zero T (j + 2) (j + 1)

-- the first row of the block that row p is in, the size of the block that begins in row p, and of the one that ends above it
unfoldable pub first_by : Zeros → ℕ → ℕ
first_by Z p = cond (ltb 0 p && not (Z (p - 1))) (p - 1) p

unfoldable pub size_by : ℕ → Zeros → ℕ → ℕ
size_by n Z p = cond (ltb (p + 1) n && not (Z p)) 2 1

unfoldable pub above_by : Zeros → ℕ → ℕ
above_by Z p = cond (leb 2 p && not (Z (p - 2))) 2 1

-- ---- the place of a move, and the exchange that is next there

-- Where inside a step. A block that has split goes as two rows: one passes the next block, and then the other
pub data Stage : Type 0 where
  -- between two steps
  between : Stage
  -- the one has passed a single row
  past_one : Stage
  -- the one has passed a 2-block, which may have split at that
  past_two : Stage
  -- that 2-block has split, and the other has passed the first of its rows
  half_past : Stage

-- The way, its goal, the moved block's row, and nbf: 1 for one row, 2 for a 2-block, 3 for one that has split. Whether a 2-block has split at the exchange just made is not known here: the zeros of the next moment show it
pub record Place : Type 0 where
  pub down : Bool
  pub goal : ℕ
  pub here : ℕ
  pub nbf : ℕ
  pub stage : Stage

-- nothing, or an exchange and the place after it
pub data Next : Type 0 where
  ended : Next
  takes : Exchange → Place → Next

abbrev pub rows : ℕ → ℕ → ℕ → Exchange
rows j n1 n2 = record { row = j; n1 = n1; n2 = n2 }

abbrev pub lower : ℕ → ℕ → ℕ → Stage → Place
lower goal here nbf stage = record { down = true; goal = goal; here = here; nbf = nbf; stage = stage }

abbrev pub upper : ℕ → ℕ → ℕ → Stage → Place
upper goal here nbf stage = record { down = false; goal = goal; here = here; nbf = nbf; stage = stage }

-- a 2-block may have split
unfoldable pub splits : Zeros → ℕ → ℕ → ℕ
splits Z h nbf = cond (eqb nbf 2 && Z h) 3 nbf

-- a step down begins: two rows, the lower first, or the block whole
unfoldable pub step_down : ℕ → Zeros → ℕ → ℕ → ℕ → Next
step_down n Z goal h nbf =
    cond (eqb nbf 3) (let k = size_by n Z (h + 2) in takes (rows (h + 1) 1 k) (lower goal h nbf (cond (eqb k 1) past_one past_two)))
    (let k = size_by n Z (h + nbf) in takes (rows h nbf k) (lower goal (h + k) nbf between))

unfoldable pub next_down : ℕ → Zeros → ℕ → ℕ → ℕ → Stage → Next
next_down n Z goal h nbf between = cond (ltb h goal) (step_down n Z goal h (splits Z h nbf)) ended
next_down n Z goal h nbf past_one = takes (rows h 1 1) (lower goal (h + 1) nbf between)
next_down n Z goal h nbf past_two = cond (Z (h + 1)) (takes (rows h 1 1) (lower goal h nbf half_past)) (takes (rows h 1 2) (lower goal (h + 2) nbf between))
next_down n Z goal h nbf half_past = takes (rows (h + 1) 1 1) (lower goal (h + 2) nbf between)

-- and a step up: two rows, the upper first, or the block whole
unfoldable pub step_up : Zeros → ℕ → ℕ → ℕ → Next
step_up Z goal h nbf =
    let k = above_by Z h in
    cond (eqb nbf 3) (takes (rows (h - k) k 1) (upper goal h nbf (cond (eqb k 1) past_one past_two))) (takes (rows (h - k) k nbf) (upper goal (h - k) nbf between))

unfoldable pub next_up : Zeros → ℕ → ℕ → ℕ → Stage → Next
next_up Z goal h nbf between = cond (ltb goal h) (step_up Z goal h (splits Z h nbf)) ended
next_up Z goal h nbf past_one = takes (rows h 1 1) (upper goal (h - 1) nbf between)
next_up Z goal h nbf past_two = cond (Z (h - 1)) (takes (rows h 1 1) (upper goal h nbf half_past)) (takes (rows (h - 1) 2 1) (upper goal (h - 2) nbf between))
next_up Z goal h nbf half_past = takes (rows (h - 1) 1 1) (upper goal (h - 2) nbf between)

unfoldable pub next : ℕ → Place → Zeros → Next
next n p Z = cond p.down (next_down n Z p.goal p.here p.nbf p.stage) (next_up Z p.goal p.here p.nbf p.stage)

-- where a move of the block in row `from` to row `to` begins
unfoldable pub start : ℕ → ℕ → ℕ → Zeros → Place
start n from to Z =
    let a = first_by Z from in
    let b = first_by Z to in
    let nbf = size_by n Z a in
    cond (ltb a b) (lower (goal_down nbf (size_by n Z b) b) a nbf between) (upper b a nbf between)

-- the exchange, if there is one, and the place after it
unfoldable pub exchange_of : Next → Option Exchange
exchange_of ended = none
exchange_of (takes e q) = some e

unfoldable pub place_of : Place → Next → Place
place_of p ended = p
place_of p (takes e q) = q

-- the place that is reached from p on, where these were the zeros before each exchange
unfoldable pub reached : ℕ → Place → List Zeros → Place
reached n p [] = p
reached n p (Z ∷ Zs) = reached n (place_of p (next n p Z)) Zs

-- ---- our move, before its exchange number k, counted from 0

-- the zeros before each exchange of a list that is made from the form t on
unfoldable pub met : Format → ℕ → ℕ → List Float → List Exchange → List Zeros
met f ld n t [] = []
met f ld n t (e ∷ es) = zeros f ld n t ∷ met f ld n (make f ld n e t).form es

-- the exchanges before it
abbrev pub before : Format → ℕ → ℕ → ℕ → ℕ → List Float → ℕ → List Exchange
before f ld n from to t k = take k (move f ld n from to t).exchanges

-- the form then, and the place of the move
abbrev pub form_at : Format → ℕ → ℕ → ℕ → ℕ → List Float → ℕ → List Float
form_at f ld n from to t k = (made f ld n (unchanged t) (before f ld n from to t k)).form

abbrev pub place_at : Format → ℕ → ℕ → ℕ → ℕ → List Float → ℕ → Place
place_at f ld n from to t k = reached n (start n from to (zeros f ld n t)) (met f ld n t (before f ld n from to t k))

-- The choice of an exchange reads only which subdiagonal entries are zero at that moment: number k of a move, or that there is none, is what is next at its place with the zeros of the form as it then is. After a decline too
abbrev pub ChoiceReadsZeros : Type 0
ChoiceReadsZeros =
    (f : Format) (ld n from to : ℕ) (t : List Float) → from < n → to < n → (k : ℕ)
    → get_elem? (move f ld n from to t).exchanges k ≡ exchange_of (next n (place_at f ld n from to t k) (zeros f ld n (form_at f ld n from to t k)))

-- That place is the move's: at the end it is in the row that the move landed on
abbrev pub PlaceLands : Type 0
PlaceLands =
    (f : Format) (ld n from to : ℕ) (t : List Float) → from < n → to < n
    → (let m = move f ld n from to t in (reached n (start n from to (zeros f ld n t)) (met f ld n t m.exchanges)).here ≡ m.here)

-- So two moves of any two forms, whatever they have done before, that are at the same place with zeros at the same places make the same exchange next, or both have ended
abbrev pub SameZerosSameExchange : Type 0
SameZerosSameExchange =
    (n : ℕ) (f : Format) (ld from to : ℕ) (t : List Float) (k : ℕ) (g : Format) (ld' from' to' : ℕ) (u : List Float) (i : ℕ) → from < n → to < n → from' < n → to' < n
    → place_at f ld n from to t k ≡ place_at g ld' n from' to' u i
    → ((j : ℕ) → j + 1 < n → zero_below f ld (form_at f ld n from to t k) j ≡ zero_below g ld' (form_at g ld' n from' to' u i) j)
    → get_elem? (move f ld n from to t).exchanges k ≡ get_elem? (move g ld' n from' to' u).exchanges i

-- ---- dtrexc over any form and any routines, from IFST = from + 1 to ILST = to + 1, before its call number k, counted from 0

module _ {Form : Type 0} (r : Routines Form) where
  -- the form as a list of calls, made one after the other, leaves it
  unfoldable pub left : Form → List Call → Form
  left T [] = T
  left T (c ∷ cs) = left (r.dlaexc T c.J1 c.N1 c.N2).T cs

  -- INFO was 0 after each of them
  unfoldable pub Fine : Form → List Call → Type 0
  Fine T [] = Unit {0}
  Fine T (c ∷ cs) = ((r.dlaexc T c.J1 c.N1 c.N2).INFO ≡ 0) × Fine (r.dlaexc T c.J1 c.N1 c.N2).T cs

  module _ (n : ℕ) where
    -- the zeros before each of them
    unfoldable pub met_in : Form → List Call → List Zeros
    met_in T [] = []
    met_in T (c ∷ cs) = zeros_in r n T ∷ met_in (r.dlaexc T c.J1 c.N1 c.N2).T cs

    abbrev pub run : ℕ → ℕ → Form → Returned Form
    run from to T = dtrexc r n T (from + 1) (to + 1)

    abbrev pub before_in : ℕ → ℕ → Form → ℕ → List Call
    before_in from to T k = take k (run from to T).calls

    abbrev pub form_in : ℕ → ℕ → Form → ℕ → Form
    form_in from to T k = left T (before_in from to T k)

    abbrev pub place_in : ℕ → ℕ → Form → ℕ → Place
    place_in from to T k = reached n (start n from to (zeros_in r n T)) (met_in T (before_in from to T k))

-- Its calls are what was done to the form
abbrev pub CallsMade : Type 1
CallsMade =
    (Form : Type 0) (r : Routines Form) (n from to : ℕ) (T : Form) → from < n → to < n → (run r n from to T).T ≡ left r T (run r n from to T).calls

-- dtrexc's choice is ours at the same place and with the same subdiagonal zeros, until one fails
abbrev pub DtrexcReadsZeros : Type 1
DtrexcReadsZeros =
    (Form : Type 0) (r : Routines Form) (n from to : ℕ) (T : Form) → from < n → to < n → (k : ℕ) → Fine r T (before_in r n from to T k)
    → get_elem? (run r n from to T).calls k ≡ Option.map as_call (exchange_of (next n (place_in r n from to T k) (zeros_in r n (form_in r n from to T k))))

-- ---- dtrexc and our move beside each other

-- zeros at the same subdiagonal places, T( J+1, J ) for each J from 1 to n - 1
abbrev pub SameZeros : {Form : Type 0} → Routines Form → ℕ → Form → Format → ℕ → List Float → Type 0
SameZeros r n T f ld t = (J : ℕ) → 1 ≤ J → J < n → r.is_zero T (J + 1) J ≡ zero_below f ld t (J - 1)

-- Take any form T that dtrexc works on, with any routines of its own, and any form of ours. If the two have had zeros at the same subdiagonal places before each exchange up to number k, and no call of dtrexc before that failed, then number k is the same in both, row and both sizes, or both have ended. Of ours it is not asked that none declined: the move goes on after a decline
abbrev pub DtrexcSameZeros : Type 1
DtrexcSameZeros =
    (Form : Type 0) (r : Routines Form) (T : Form) (f : Format) (ld n from to : ℕ) (t : List Float) → from < n → to < n → (k : ℕ)
    → ((i : ℕ) → i ≤ k → SameZeros r n (form_in r n from to T i) f ld (form_at f ld n from to t i))
    → Fine r T (before_in r n from to T k)
    → get_elem? (run r n from to T).calls k ≡ get_elem? (map as_call (move f ld n from to t).exchanges) k

-- Where that holds before each exchange, and no call of dtrexc failed, the two make the same exchanges to the end, and land in the same row
abbrev pub DtrexcSameEnd : Type 1
DtrexcSameEnd =
    (Form : Type 0) (r : Routines Form) (T : Form) (f : Format) (ld n from to : ℕ) (t : List Float) → from < n → to < n
    → ((i : ℕ) → SameZeros r n (form_in r n from to T i) f ld (form_at f ld n from to t i))
    → Fine r T (run r n from to T).calls
    → ((run r n from to T).calls ≡ map as_call (move f ld n from to t).exchanges) × ((run r n from to T).ILST ≡ (move f ld n from to t).here + 1)
