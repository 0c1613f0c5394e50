-- `swaps::operations::on_columns` meets its contract. Assumes nothing.
use mathlib.Core.Path.{◌≡◌, ◌∙◌}
use lib.ListN.{get_or}
use Prim.Native.Nat.{ℕ}
use native.Mathlib.Omega.{arith}
use Rattle.model.specs.Form.{place}
use Rattle.swaps.proofs.Changes.{one_more}
use Rattle.swaps.proofs.operations.on_columns.Goals as goal

pub loop-i-preserved : goal.loop-i-preserved
loop-i-preserved g c =
    let v = c.loop-i.invariant in
    let h = c.loop-m.invariant in
    let e : c.loop-m.m ≡ g.row.N = omega arith in (
      c.change.auto.t ∙ v.0,
      one_more g.row.N _ 1 c.loop-i.i (λ (m : ℕ). place c.args.s.ld 0 (get_or c.args.columns m 0)) (λ (m : ℕ). get_or c.loop-m.places m 0) c.args.t.now v.1 c.change.ensures (λ m l. h.1 m (omega arith) ∙ omega arith) (omega arith),
    )
