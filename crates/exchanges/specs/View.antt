-- A move that has ended as the record of model. Definitions only. Assumes nothing.
use Rattle.std.specs.Prelude.{List, Float}
use Rattle.model.specs.Move as Move
use Rattle.exchanges.specs.declared.reorder.Ended.{Ended}

-- the numbers of an accepted call, with what form and factor then hold
abbrev pub moved : Ended → List Float → List Float → Move.Moved
moved m t u = record { answer = 0; landed = m.here; swaps = m.counts.swaps; declined = m.counts.declined; form = t; factor = u }
