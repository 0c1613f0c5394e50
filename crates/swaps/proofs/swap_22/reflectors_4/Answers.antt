-- `swaps::swap_22::reflectors_4` meets its contract. Assumes nothing.
use Rattle.swaps.proofs.Windows.{pair_4}
use Rattle.swaps.proofs.swap_22.reflectors_4.Goals as goal

pub returns : goal.returns
returns c = pair_4 c.of.result c.args.solution c.of.ensures
