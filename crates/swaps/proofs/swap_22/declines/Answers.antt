-- `swaps::swap_22::declines` meets its contract. Assumes nothing.
use Rattle.model.specs.Swaps.{declines}
use Rattle.swaps.specs.View.{reflection4}
use Rattle.swaps.proofs.Windows.{tried_4, threshold_4}
use Rattle.swaps.proofs.swap_22.declines.Goals as goal

pub returns : goal.returns
unfolding declines
returns c =
    rw (c.threshold.ensures, threshold_4, c.lower_left.ensures, c.tried.ensures, tried_4 (reflection4 c.args.v) c.args.w.columns)
