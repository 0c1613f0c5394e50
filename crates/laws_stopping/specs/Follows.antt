-- The claim: the move that stops is LAPACK's dtrexc, run over the tried exchange, to the end: its calls, its form, ILST and INFO. Definitions only: proofs/Follows.antt proves it. Assumes nothing.
use Rattle.std.specs.Prelude.{ℕ, ◌+◌, ◌-◌, ◌<◌, ◌≡◌, List, map, Float}
use Rattle.std.specs.Float.{Format}
use Rattle.model.specs.Swaps.{unchanged, declined_of}
use Rattle.model.specs.Move.{Moving}
use Rattle.model.specs.Stopping.{Kind, stopping, stopping_move}
use Rattle.laws_dtrexc.specs.Dtrexc.{Exchanged, Routines, Returned, dtrexc}
use Rattle.laws_dtrexc.specs.Choice.{zero_at, as_call}
use Rattle.laws_stopping.specs.Made.{made_by}

-- ---- dtrexc over an exchange of ours and our test against zero. LAPACK's row and column I and J are ours I - 1 and J - 1; INFO is how many of the exchange's swaps declined

unfoldable pub exchanged_by : Kind → List Float → ℕ → ℕ → ℕ → Exchanged (List Float)
exchanged_by k t J1 N1 N2 =
    let c = k.exchange (J1 - 1) N1 N2 t in
    record { T = c.form; INFO = declined_of c }

abbrev pub routines : Kind → Format → ℕ → Routines (List Float)
routines k f ld = record { is_zero = zero_at f ld; dlaexc = exchanged_by k }

-- ---- the claim

-- m is our move of a block of the form t, and v what dtrexc hands back
pub record SameRun (k : Kind) (t : List Float) (m : Moving) (v : Returned (List Float)) : Type 0 where
  -- the list of our exchanges is what was done to the form
  pub done : m.change ≡ made_by k (unchanged t) m.exchanges
  -- dtrexc's calls are ours, all of them, one that failed too
  pub calls : v.calls ≡ map as_call m.exchanges
  pub form : v.T ≡ m.change.form
  -- where the block is at the end, or was when a test failed
  pub here : v.ILST ≡ m.here + 1
  pub declined : v.INFO ≡ declined_of m.change

-- for every format, stride and form, whatever stands in it; from IFST = from + 1 to ILST = to + 1
abbrev pub StoppingIsDtrexc : Type 0
StoppingIsDtrexc =
    (f : Format) (ld n from to : ℕ) (t : List Float) → from < n → to < n
    → SameRun (stopping f ld n) t (stopping_move f ld n from to t).moving (dtrexc (routines (stopping f ld n) f ld) n t (from + 1) (to + 1))
