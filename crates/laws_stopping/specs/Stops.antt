-- The claim: the move stops exactly where a test has failed, and then exactly one has, the last. Definitions only: proofs/Stops.antt proves it. Assumes nothing.
use Rattle.std.specs.Prelude.{ℕ, ◌≡◌, ◌↔◌, Bool, true, false, List, [], ◌∷◌, ◌++◌, map, Float}
use Rattle.std.specs.Float.{Format}
use Rattle.model.specs.Swaps.{Swap, unchanged, declined_of}
use Rattle.model.specs.Move.{Exchange, Moving}
use Rattle.model.specs.Stopping.{test_fails, stopping, Going, stopping_move, stopping_call}
use Rattle.laws_stopping.specs.Made.{make_by, made_by}

-- ---- the tests of a list of exchanges

-- whether the test of an exchange fails on a form
abbrev pub fails : Format → ℕ → List Float → Exchange → Bool
fails f ld t e = test_fails f ld t e.row e.n1 e.n2

-- the run of the swap of an exchange, declined or not
abbrev pub run_of : Bool → Exchange → Swap
run_of declined e = record { row = e.row; n1 = e.n1; n2 = e.n2; declined = declined }

-- one run for each exchange of a list that is made from the form t on, declined where its test fails on the form as it then is
unfoldable pub told : Format → ℕ → ℕ → List Float → List Exchange → List Swap
told f ld n t [] = []
told f ld n t (e ∷ es) = run_of (fails f ld t e) e ∷ told f ld n (make_by (stopping f ld n) e t).form es

-- ---- the claim, of the move m of a block of the form t

-- it has gone to its end
pub record Passed (m : Moving) : Type 0 where
  -- no test failed
  pub runs : m.change.runs ≡ map (run_of false) m.exchanges
  pub declined : declined_of m.change ≡ 0

-- it has stopped
pub record Failed (f : Format) (ld n : ℕ) (t : List Float) (m : Moving) : Type 0 where
  -- the exchanges before the last, and the last
  pub before : List Exchange
  pub last : Exchange
  pub exchanges : m.exchanges ≡ before ++ (last ∷ [])
  -- the test of the last failed, and no other
  pub runs : m.change.runs ≡ map (run_of false) before ++ (run_of true last ∷ [])
  pub declined : declined_of m.change ≡ 1
  pub failed : fails f ld m.change.form last ≡ true
  -- nothing of it was written: form and factor are as the exchanges before it leave them
  pub form : m.change.form ≡ (made_by (stopping f ld n) (unchanged t) before).form
  pub operations : m.change.operations ≡ (made_by (stopping f ld n) (unchanged t) before).operations

pub record Stops (f : Format) (ld n : ℕ) (t : List Float) (g : Going) : Type 0 where
  -- each exchange is one swap, in the same order, at the same row and of the same sizes, that declines exactly where its test fails
  pub runs : g.moving.change.runs ≡ told f ld n t g.moving.exchanges
  pub ended : g.stopped ≡ false → Passed g.moving
  pub stopped : g.stopped ≡ true → Failed f ld n t g.moving

-- for every format, stride and form, whatever stands in it
abbrev pub StopsExactly : Type 0
StopsExactly = (f : Format) (ld n from to : ℕ) (t : List Float) → Stops f ld n t (stopping_move f ld n from to t)

-- The call says so, turned away or not: stopped exactly where declined is 1, and else it is 0
abbrev pub CallStops : Type 0
CallStops =
    (f : Format) (ld n from to : ℕ) (t u : List Float)
    → (let s = stopping_call f ld n t u from to in ((s.stopped ≡ true) ↔ (s.declined ≡ 1)) × ((s.stopped ≡ false) ↔ (s.declined ≡ 0)))
