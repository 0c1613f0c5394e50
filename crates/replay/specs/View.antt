-- The desk and the state of a run as the definitions have them. Definitions only. Assumes nothing.
use Rattle.replay.specs.declared.line.Desk.{Desk}
use Rattle.replay.specs.declared.State.{State}
use Rattle.replay.specs.Replayed as Replayed

abbrev pub desk : Desk → Replayed.Desk
desk d = record { words = d.room.now; tally = d.tally }

abbrev pub state : State → Replayed.State
state s = record { line = s.line.items; desk = desk s.desk }
