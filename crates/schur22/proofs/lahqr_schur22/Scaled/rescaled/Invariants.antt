-- `schur22::lahqr_schur22::Scaled::rescaled` meets its contract. The invariant: the rounds that are left, from the pair as it is, give what twenty give from the pair as it came. Assumes nothing.
use Rattle.std.proofs.Common.{◌≡◌}
use Rattle.std.specs.Float.{binary64}
use Rattle.schur22.specs.View.{scaled}
use Rattle.model.specs.Schur22.{rescaled}
use Rattle.schur22.proofs.lahqr_schur22.Scaled.rescaled.Given as goal

abbrev pub invariant-loop-left : goal.invariant-loop-left
invariant-loop-left l = rescaled binary64 l.left (scaled l.s) ≡ rescaled binary64 20 (scaled l.fn.self)

abbrev pub decreases-loop-left : goal.decreases-loop-left
decreases-loop-left l = l.left
