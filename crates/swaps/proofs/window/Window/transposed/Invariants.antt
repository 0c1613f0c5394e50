-- `swaps::window::Window::transposed` meets its contract. Assumes nothing.
use Rattle.std.proofs.Common.{ℕ, [], get_or}
use Rattle.std.specs.Float.{nan}
use Rattle.model.specs.Form.{at}
use Rattle.swaps.specs.Lines.{each}
use Rattle.swaps.proofs.Windows.{Filled}
use Rattle.swaps.proofs.window.Window.transposed.Given as goal

abbrev pub invariant-loop-c : goal.invariant-loop-c
invariant-loop-c g l = Filled g.row.N (λ (k : ℕ). each g.row.N (λ (r : ℕ). at (get_or l.self.columns r []) k)) [] l.c l.columns

abbrev pub invariant-loop-r : goal.invariant-loop-r
invariant-loop-r g l = Filled g.row.N (λ (r : ℕ). at (get_or l.self.columns r []) l.c) nan l.r l.column
