-- `swaps::window::Window::transposed` meets its contract. Assumes nothing.
use mathlib.Core.List.{[]}
use Prim.Native.Nat.{ℕ}
use lib.ListN.{get_or}
use lib.Ieee.{nan}
use Rattle.model.specs.Form.{at}
use Rattle.swaps.specs.Lines.{each}
use Rattle.swaps.proofs.Windows.{one_filled, all_filled}
use Rattle.swaps.proofs.window.Window.transposed.Goals as goal

pub loop-c-preserved : goal.loop-c-preserved
loop-c-preserved g c =
    let w = c.args.self.columns in
    one_filled (λ (k : ℕ). each g.row.N (λ (r : ℕ). at (get_or w r []) k)) [] _ _ c.loop-c.invariant c.loop-c-test.true
    (all_filled (λ (r : ℕ). at (get_or w r []) c.loop-c.c) nan _ _ c.loop-r.invariant c.loop-r-test.false)

pub returns : goal.returns
returns g c =
    let w = c.args.self.columns in all_filled (λ (k : ℕ). each g.row.N (λ (r : ℕ). at (get_or w r []) k)) [] _ _ c.loop-c.invariant c.loop-c-test.false
