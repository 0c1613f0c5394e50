-- `swaps::swap_12::reflectors_of` meets its contract. Assumes nothing.
use mathlib.Core.Path.{refl}
use Rattle.swaps.proofs.Windows.{pair_3}
use Rattle.swaps.proofs.swap_12.reflectors_of.Goals as goal

pub returns : goal.returns
returns c = pair_3 c.of.result _ _ refl refl c.of.ensures
