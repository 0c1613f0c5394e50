-- `swaps::swap_12::reflectors_3` meets its contract. Assumes nothing.
use mathlib.Core.Path.{ap, ◌∙◌}
use Rattle.swaps.specs.Forms.{reflectors_of}
use Rattle.swaps.specs.View.{columns3}
use Rattle.swaps.proofs.Windows.{transposed_3}
use Rattle.swaps.proofs.swap_12.reflectors_3.Goals as goal

pub returns-in-Last : goal.returns-in-Last
returns-in-Last c =
    rw c.in-Last.is (c.reflectors_of-in-Last.ensures ∙ ap reflectors_of (ap columns3 c.transposed.ensures ∙ transposed_3 c.args.w.columns))
