-- The crate's answer as the record of model. Definitions only. Assumes nothing.
use Rattle.std.specs.Prelude.{false, List, Float, Result, Ok, Err}
use Rattle.model.specs.Stopping as Stopping
use Rattle.refusal.specs.Line.{line}
use Rattle.refusal.specs.declared.Refusal.{Refusal}
use Rattle.stopping.specs.declared.reorder.Stopped.{Stopped}

-- the answer of a move that stops, with what form and factor then hold
abbrev pub stopped : Result Stopped Refusal → List Float → List Float → Stopping.Stopped
stopped (Ok r) t u = record { answer = 0; stopped = r.stopped; here = r.here; swaps = r.swaps; declined = r.declined; form = t; factor = u }
stopped (Err e) t u = record { answer = line e; stopped = false; here = 0; swaps = 0; declined = 0; form = t; factor = u }
