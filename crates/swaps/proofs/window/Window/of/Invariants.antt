-- `swaps::window::Window::of` meets its contract. Assumes nothing.
use Rattle.std.proofs.Common.{ℕ, [], get_or}
use Rattle.std.specs.Float.{nan}
use Rattle.model.specs.Form.{entry}
use Rattle.swaps.specs.Lines.{each}
use Rattle.swaps.proofs.Windows.{Filled}
use Rattle.swaps.proofs.window.Window.of.Given as goal

abbrev pub invariant-loop-c : goal.invariant-loop-c
invariant-loop-c g l = Filled g.row.N (λ (k : ℕ). each g.row.N (λ (r : ℕ). entry l.s.ld l.t (get_or l.rows r 0) (get_or l.rows k 0))) [] l.c l.columns

abbrev pub invariant-loop-r : goal.invariant-loop-r
invariant-loop-r g l = Filled g.row.N (λ (r : ℕ). entry l.s.ld l.t (get_or l.rows r 0) (get_or l.rows l.c 0)) nan l.r l.column
