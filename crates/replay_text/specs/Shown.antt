-- What a line shows, and the numbers of its words. Definitions only. Assumes nothing.
use Rattle.std.specs.Prelude.{ℕ, Bool, cond, List, map, take, drop, from_bits, Float, Option, Some, None}
use Rattle.std.specs.Float.{binary64}
use Rattle.replay_text.specs.declared.outcome.Outcome.{Outcome}

-- of a line that has the call's words or not, and whose results are the expected ones or not
abbrev pub judged : Bool → Bool → Outcome
judged shape same = cond shape (cond same Outcome.Same Outcome.Differs) Outcome.Malformed

-- a line that was read, and gives what is expected or not; one that is no line of the call
abbrev pub judged_read : Option Bool → Outcome
judged_read (Some same) = cond same Outcome.Same Outcome.Differs
judged_read None = Outcome.Malformed

-- the numbers of k words from word i on
abbrev pub from : List ℕ → ℕ → ℕ → List Float
from w i k = map (from_bits binary64) (take k (drop i w))
