-- `swaps::kernels::JacobiRotationKernel2::apply_beside` meets its contract. Assumes nothing.
use Rattle.model.specs.Jacobi.{apply_right}
use Rattle.swaps.proofs.Beside.{both_at_once}
use Rattle.swaps.proofs.kernels.JacobiRotationKernel2.apply_beside.Goals as goal

pub returns : goal.returns
unfolding apply_right
returns c = both_at_once c.args.self.c c.args.self.s _ _
