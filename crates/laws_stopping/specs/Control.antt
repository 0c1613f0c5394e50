-- The claim: the two moves are one control over two exchanges. Definitions only: proofs/Control.antt proves it. Assumes nothing.
use Rattle.std.specs.Prelude.{ℕ, ◌≡◌, List, Float}
use Rattle.std.specs.Float.{Format}
use Rattle.model.specs.Move.{move}
use Rattle.model.specs.Stopping.{goes_on, goes, walk}

-- over 01's exchange, which never stops it, the control is 01's move: the row, nbf, the change and the list of exchanges
abbrev pub OneControl : Type 0
OneControl = (f : Format) (ld n from to : ℕ) (t : List Float) → walk (goes_on f ld n) f ld n from to t ≡ goes (move f ld n from to t)
