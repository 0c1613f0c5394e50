-- The two kinds of move on triangular forms: the move that stops is 01's there. Definitions and the statement only: it is proved in proofs/BothKinds.antt. Assumes nothing.
-- All over the format: both widths are one statement.
use Rattle.std.specs.Prelude.{◌≡◌, ℕ, false, List, Float}
use Rattle.std.specs.Float.{Format}
use Rattle.model.specs.Move.{Moved, move_call}
use Rattle.model.specs.Stopping.{Stopped, stopping_call}
use Rattle.laws_moves.specs.Lists.{Triangular}

-- what 01's move answers and leaves, as a move that stops and has come to its end
abbrev pub never_stopped : Moved → Stopped
never_stopped m = record { answer = m.answer; stopped = false; here = m.landed; swaps = m.swaps; declined = m.declined; form = m.form; factor = m.factor }

-- with any factor and any positions, those turned away among them: one call is the other, in its answer, its row and its counts, in form and factor; it is never stopped, and nothing is declined
abbrev pub StoppingOnTriangular : Type 0
StoppingOnTriangular =
    (f : Format) (ld n : ℕ) (t u : List Float) (from to : ℕ)
    → Triangular f ld n t
    → (stopping_call f ld n t u from to ≡ never_stopped (move_call f ld n t u from to)) × ((stopping_call f ld n t u from to).declined ≡ 0)
