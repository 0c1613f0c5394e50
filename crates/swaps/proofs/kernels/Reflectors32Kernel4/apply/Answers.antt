-- `swaps::kernels::Reflectors32Kernel4::apply` meets its contract. Assumes nothing.
use Rattle.std.proofs.Common.{rules}
use Rattle.swaps.proofs.Twice.{twice4}
use Rattle.swaps.proofs.kernels.Reflectors32Kernel4.apply.Goals as goal

pub returns : goal.returns
returns c = rw c.reflect.ensures (twice4 c.args.self c.args.x (search rules))
