-- `replay::State::take_bytes` meets its contract. The invariant: the bytes that are left, taken from the state so far, give the whole. Assumes nothing.
use Rattle.std.proofs.Common.{◌≡◌, drop}
use Rattle.replay.specs.Replayed.{taken_all}
use Rattle.replay.specs.View.{state}
use Rattle.replay.proofs.State.take_bytes.Given as goal

abbrev pub invariant-loop-b : goal.invariant-loop-b
invariant-loop-b g l =
    (taken_all (drop l.b-index l.chunk) (state l.self) ≡ taken_all l.chunk (state l.initial.self))
    × (l.self.desk.room.ghost_name ≡ l.initial.self.desk.room.ghost_name)
