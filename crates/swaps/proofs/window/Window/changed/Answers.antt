-- `swaps::window::Window::changed` meets its contract. Assumes nothing.
use mathlib.Core.List.{[]}
use Prim.Native.Nat.{ℕ}
use lib.ListN.{get_or}
use Rattle.swaps.proofs.Windows.{all_filled}
use Rattle.swaps.proofs.window.Window.changed.Goals as goal

pub returns : goal.returns
returns g c = all_filled (λ (k : ℕ). g.K.Kernel.gives c.args.k (get_or c.args.self.columns k [])) [] _ _ c.loop-c.invariant c.loop-c-test.false
