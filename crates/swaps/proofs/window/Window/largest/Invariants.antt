-- `swaps::window::Window::largest` meets its contract. Assumes nothing.
use Rattle.std.proofs.Common.{◌≡◌}
use Rattle.swaps.specs.Windows.{larger, largest}
use Rattle.swaps.proofs.window.Window.largest.Given as goal

abbrev pub invariant-loop-column : goal.invariant-loop-column
invariant-loop-column g l = l.m ≡ largest g.row.N l.column-index l.fn.self.columns

abbrev pub invariant-loop-x : goal.invariant-loop-x
invariant-loop-x g l = l.m ≡ larger l.x-index l.initial.m l.column
