-- The claim: a move's exchanges are those of LAPACK's dtrexc, each at the same place and of the same two sizes, up to the first that declines. Definitions only. Assumes nothing.
use Rattle.std.specs.Prelude.{ℕ, ◌+◌, ◌-◌, ◌≤◌, ◌<◌, ◌≡◌, ◌↔◌, Bool, cond, List, [], ◌∷◌, ◌++◌, map, eqb, Float}
use Rattle.std.specs.Float.{Format}
use Rattle.std.specs.Float.Ieee.{eq}
use Rattle.model.specs.Arith.{zero_of}
use Rattle.model.specs.Form.{entry}
use Rattle.model.specs.Swaps.{Change, declined_of, unchanged, and_then}
use Rattle.model.specs.Exchange.{exchange}
use Rattle.model.specs.Move.{Exchange, Moving, first_row, size_at, goal_down, move}
use Rattle.laws_dtrexc.specs.Dtrexc.{Exchanged, Routines, Call, Returned, dtrexc_by, dtrexc}

-- ---- dtrexc over our exchange and our test against zero. LAPACK's row and column I and J are ours I - 1 and J - 1; INFO is how many of the exchange's swaps declined

unfoldable pub zero_at : Format → ℕ → List Float → ℕ → ℕ → Bool
zero_at f ld t I J = eq (entry ld t (I - 1) (J - 1)) (zero_of f)

unfoldable pub exchange_at : Format → ℕ → ℕ → List Float → ℕ → ℕ → ℕ → Exchanged (List Float)
exchange_at f ld n t J1 N1 N2 =
    let c = exchange f ld n (J1 - 1) N1 N2 t in
    record { T = c.form; INFO = declined_of c }

abbrev pub ours : Format → ℕ → ℕ → Routines (List Float)
ours f ld n = record { is_zero = zero_at f ld; dlaexc = exchange_at f ld n }

-- from IFST = from + 1 to ILST = to + 1
abbrev pub lapack : Format → ℕ → ℕ → ℕ → ℕ → List Float → Returned (List Float)
lapack f ld n from to t = dtrexc (ours f ld n) n t (from + 1) (to + 1)

-- ---- our exchanges, as LAPACK's calls

abbrev pub as_call : Exchange → Call
as_call e = record { J1 = e.row + 1; N1 = e.n1; N2 = e.n2 }

-- one of them made on a form
abbrev pub make : Format → ℕ → ℕ → Exchange → List Float → Change
make f ld n e t = exchange f ld n e.row e.n1 e.n2 t

-- a list of them made one after the other, after a change c
unfoldable pub made : Format → ℕ → ℕ → Change → List Exchange → Change
made f ld n c [] = c
made f ld n c (e ∷ es) = made f ld n (and_then c (make f ld n e)) es

-- those of a list that is made from the form t on, up to the first that declines, and that one too
unfoldable pub until_decline : Format → ℕ → ℕ → List Float → List Exchange → List Exchange
until_decline f ld n t [] = []
until_decline f ld n t (e ∷ es) =
    let c = make f ld n e t in
    e ∷ cond (eqb (declined_of c) 0) (until_decline f ld n c.form es) []

-- ---- the claim

-- m is our move of a block of the form t, and v what dtrexc hands back
pub record SameChoice (f : Format) (ld n : ℕ) (t : List Float) (m : Moving) (v : Returned (List Float)) : Type 0 where
  -- the list of our exchanges is what was done to the form
  pub done : m.change ≡ made f ld n (unchanged t) m.exchanges
  -- dtrexc's calls are ours, up to the first that declines
  pub calls : v.calls ≡ map as_call (until_decline f ld n t m.exchanges)
  -- each at the same form: dtrexc hands back the form as those exchanges of ours leave it
  pub form_then : v.T ≡ (made f ld n (unchanged t) (until_decline f ld n t m.exchanges)).form
  -- so they are the beginning of ours
  pub beginning : (rest : List Call) × (map as_call m.exchanges ≡ v.calls ++ rest)
  -- and, where nothing declined, all of ours, with the same place and form at the end
  pub whole : declined_of m.change ≡ 0 → v.calls ≡ map as_call m.exchanges
  pub landed : declined_of m.change ≡ 0 → v.ILST ≡ m.here + 1
  pub form : declined_of m.change ≡ 0 → v.T ≡ m.change.form
  -- dtrexc fails exactly where one of ours declined
  pub failed : (v.INFO ≡ 0) ↔ (declined_of m.change ≡ 0)

-- for every format, stride and form, whatever stands in it
abbrev pub DtrexcChoice : Type 0
DtrexcChoice = (f : Format) (ld n from to : ℕ) (t : List Float) → from < n → to < n → SameChoice f ld n t (move f ld n from to t) (lapack f ld n from to t)

-- Our move, at most n steps by its definition, arrives: going down it reaches its goal, and going up the row of the block to which it goes
abbrev pub MoveArrives : Type 0
MoveArrives =
    (f : Format) (ld n from to : ℕ) (t : List Float) → from < n → to < n
    → (let a = first_row f ld t from in
    let b = first_row f ld t to in
    let here = (move f ld n from to t).here in
    (a < b → goal_down (size_at f ld n t a) (size_at f ld n t b) b ≤ here) × (b ≤ a → here ≤ b))

-- For any form and whatever DLAEXC does, dtrexc's loops go at most N times round: to allow more changes nothing
abbrev pub RoundsSuffice : Type 1
RoundsSuffice =
    (Form : Type 0) (r : Routines Form) (N k : ℕ) (T : Form) (IFST ILST : ℕ) → 1 ≤ IFST → IFST ≤ N → 1 ≤ ILST → ILST ≤ N → N ≤ k → dtrexc_by r N k T IFST ILST ≡ dtrexc r N T IFST ILST
