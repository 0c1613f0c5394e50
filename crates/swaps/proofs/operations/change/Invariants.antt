-- `swaps::operations::change` meets its contract. Assumes nothing.
use Rattle.std.proofs.Common.{◌≡◌, ℕ, get_or}
use Rattle.std.specs.Float.{nan}
use Rattle.model.specs.Form.{at}
use Rattle.swaps.specs.Lines.{put_at}
use Rattle.swaps.proofs.Windows.{Filled}
use Rattle.swaps.proofs.operations.change.Given as goal

abbrev pub invariant-loop-m : goal.invariant-loop-m
invariant-loop-m g l = Filled g.row.N (λ (k : ℕ). at l.t (get_or l.fn.places k 0)) nan l.m l.x

abbrev pub invariant-loop-m-2 : goal.invariant-loop-m-2
invariant-loop-m-2 g l = l.t ≡ put_at l.m (λ (k : ℕ). get_or l.fn.places k 0) l.y l.initial.t
