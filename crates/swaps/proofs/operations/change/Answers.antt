-- `swaps::operations::change` meets its contract. Assumes nothing.
use mathlib.Core.Path.{◌≡◌, ap, ◌∙◌}
use mathlib.Core.List.{List}
use lib.ListN.{get_or}
use lib.Ieee.{Float, nan}
use Prim.Native.Nat.{ℕ}
use native.Mathlib.Omega.{arith}
use Rattle.model.specs.Form.{at}
use Rattle.swaps.specs.Lines.{each, put_at}
use Rattle.swaps.proofs.Windows.{all_filled}
use Rattle.swaps.proofs.operations.change.Goals.{then-this-ne0, else-this-ne0}
use Rattle.swaps.proofs.operations.change.Goals as goal

pub returns : goal.returns
returns g c =
    let p : ℕ → ℕ = λ m. get_or c.args.places m 0 in
    let t = c.args.t.now in
    let e : c.loop-m-2.m ≡ g.row.N = omega arith in
    let x : c.loop-m.x ≡ each g.row.N (λ (m : ℕ). at t (p m)) = all_filled (λ (m : ℕ). at t (p m)) nan c.loop-m.m c.loop-m.x c.loop-m.invariant c.loop-m-test.false in
    let r : c.if-this-ne0.y ≡ g.K.Kernel.gives c.args.k c.loop-m.x = elim c.if-this-ne0.branch [ then-this-ne0 w ↦ w.y-is ∙ w.apply_beside-y.ensures | else-this-ne0 w ↦ w.y-is ∙ w.apply-y.ensures ] in
    c.loop-m-2.invariant
    ∙ ap (λ (k : ℕ). put_at k p c.if-this-ne0.y t) e
    ∙ ap (λ (y : List Float). put_at g.row.N p y t) (r ∙ ap (g.K.Kernel.gives c.args.k) x)
