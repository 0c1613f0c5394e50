-- `swaps::window::Window::of` meets its contract. Assumes nothing.
use mathlib.Core.List.{[]}
use Prim.Native.Nat.{ℕ}
use lib.ListN.{get_or}
use lib.Ieee.{nan}
use Rattle.model.specs.Form.{entry}
use Rattle.swaps.specs.Lines.{each}
use Rattle.swaps.proofs.Windows.{one_filled, all_filled}
use Rattle.swaps.proofs.window.Window.of.Goals as goal

pub loop-c-preserved : goal.loop-c-preserved
loop-c-preserved g c =
    let a = c.args in
    one_filled (λ (k : ℕ). each g.row.N (λ (r : ℕ). entry a.s.ld a.t.now (get_or a.rows r 0) (get_or a.rows k 0))) [] _ _ c.loop-c.invariant c.loop-c-test.true
    (all_filled (λ (r : ℕ). entry a.s.ld a.t.now (get_or a.rows r 0) (get_or a.rows c.loop-c.c 0)) nan _ _ c.loop-r.invariant c.loop-r-test.false)

pub returns : goal.returns
returns g c =
    let a = c.args in
    all_filled (λ (k : ℕ). each g.row.N (λ (r : ℕ). entry a.s.ld a.t.now (get_or a.rows r 0) (get_or a.rows k 0))) [] _ _ c.loop-c.invariant c.loop-c-test.false
