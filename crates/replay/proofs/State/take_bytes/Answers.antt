-- `replay::State::take_bytes` meets its contract. Assumes nothing.
use Rattle.std.proofs.Common.{sym, ◌∙◌}
use Rattle.replay.proofs.Replayed.{all-next, all_none}
use Rattle.replay.proofs.State.take_bytes.Goals as goal

pub loop-b-preserved : goal.loop-b-preserved
loop-b-preserved g c =
    (rw c.take_byte.ensures.value (all-next _ _ _ c.loop-b-test.true ∙ c.loop-b.invariant.0), c.take_byte.ensures.same_room ∙ c.loop-b.invariant.1)

pub returns-clause-value : goal.returns-clause-value
returns-clause-value g c = sym (all_none _ _ _ c.loop-b-test.false) ∙ c.loop-b.invariant.0
