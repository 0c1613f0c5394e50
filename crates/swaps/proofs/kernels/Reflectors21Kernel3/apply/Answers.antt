-- `swaps::kernels::Reflectors21Kernel3::apply` meets its contract. Assumes nothing.
use Rattle.std.proofs.Common.{rules}
use Rattle.swaps.proofs.Twice.{twice3}
use Rattle.swaps.proofs.kernels.Reflectors21Kernel3.apply.Goals as goal

pub returns : goal.returns
returns c = rw c.reflect.ensures (twice3 c.args.self c.args.x (search rules))
