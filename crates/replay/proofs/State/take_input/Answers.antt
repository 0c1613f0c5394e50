-- `replay::State::take_input` meets its contract: each chunk leads on. Assumes nothing.
use Rattle.std.proofs.Common.{refl, ◌∙◌}
use Rattle.replay.proofs.Replayed.{leads_none, leads_more}
use Rattle.replay.proofs.State.take_input.Goals as goal

pub loop-init : goal.loop-init
loop-init g c = (leads_none _, refl)

pub returns-in_err-take_bytes-in-Ok-clause-value : goal.returns-in_err-take_bytes-in-Ok-clause-value
returns-in_err-take_bytes-in-Ok-clause-value g c = leads_more _ c.loop.invariant.0 c.take_bytes.ensures.value

pub loop-preserved : goal.loop-preserved
loop-preserved g c = (leads_more _ c.loop.invariant.0 c.take_bytes.ensures.value, c.take_bytes.ensures.same_room ∙ c.loop.invariant.1)
