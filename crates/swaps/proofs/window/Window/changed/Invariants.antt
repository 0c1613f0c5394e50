-- `swaps::window::Window::changed` meets its contract. Assumes nothing.
use Rattle.std.proofs.Common.{ℕ, [], get_or}
use Rattle.swaps.proofs.Windows.{Filled}
use Rattle.swaps.proofs.window.Window.changed.Given as goal

abbrev pub invariant-loop-c : goal.invariant-loop-c
invariant-loop-c g l = Filled g.row.N (λ (k : ℕ). g.K.Kernel.gives l.k (get_or l.self.columns k [])) [] l.c l.columns
