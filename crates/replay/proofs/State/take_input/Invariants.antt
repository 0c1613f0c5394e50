-- `replay::State::take_input` meets its contract. The invariant: some input leads to the state so far. Assumes nothing.
use Rattle.std.proofs.Common.{◌≡◌}
use Rattle.replay.specs.Replayed.{Leads}
use Rattle.replay.specs.View.{state}
use Rattle.replay.proofs.State.take_input.Given as goal

abbrev pub invariant-loop : goal.invariant-loop
invariant-loop g l = Leads (state l.initial.self) (state l.self) × (l.self.desk.room.ghost_name ≡ l.initial.self.desk.room.ghost_name)
