-- The crate's answers as the records of model. Definitions only. Assumes nothing.
use Rattle.std.specs.Prelude.{List, Float, Result, Ok, Err}
use Rattle.model.specs.Exchange as Exchange
use Rattle.model.specs.Move as Move
use Rattle.refusal.specs.Line.{line}
use Rattle.refusal.specs.declared.Refusal.{Refusal}
use Rattle.walks.specs.declared.counts.Counts.{Counts}
use Rattle.schur.specs.declared.reorder.Moved.{Moved}

-- the answers of a move and an exchange, with what form and factor then hold
abbrev pub moved : Result Moved Refusal → List Float → List Float → Move.Moved
moved (Ok r) t u = record { answer = 0; landed = r.landed; swaps = r.swaps; declined = r.declined; form = t; factor = u }
moved (Err e) t u = record { answer = line e; landed = 0; swaps = 0; declined = 0; form = t; factor = u }

abbrev pub exchanged : Result Counts Refusal → List Float → List Float → Exchange.Exchanged
exchanged (Ok r) t u = record { answer = 0; swaps = r.swaps; declined = r.declined; form = t; factor = u }
exchanged (Err e) t u = record { answer = line e; swaps = 0; declined = 0; form = t; factor = u }
