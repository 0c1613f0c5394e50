-- The crate's answers as the records of model. Definitions only. Assumes nothing.
use Rattle.std.specs.Prelude.{ℕ, List, Float, Result, Ok, Err}
use Rattle.model.specs.Move as Move
use Rattle.model.specs.Lists as Lists
use Rattle.refusal.specs.Line.{line, answer}
use Rattle.refusal.specs.declared.Refusal.{Refusal}
use Rattle.exchanges.specs.declared.reorder.Ended.{Ended}

-- the answer of a pair, with what form and factor then hold
abbrev pub moved : Result Ended Refusal → List Float → List Float → Move.Moved
moved (Ok m) t u = record { answer = 0; landed = m.here; swaps = m.counts.swaps; declined = m.counts.declined; form = t; factor = u }
moved (Err e) t u = record { answer = line e; landed = 0; swaps = 0; declined = 0; form = t; factor = u }

-- the answer of a list, with what all three buffers then hold
abbrev pub listed : {A : Type 0} → Result A Refusal → List Float → List Float → List ℕ → Lists.Listed
listed r t u rs = record { answer = answer r; form = t; factor = u; results = rs }
