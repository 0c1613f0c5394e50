-- `swaps::operations::on_rows` meets its contract. Assumes nothing.
use mathlib.Core.Path.{◌≡◌, ◌∙◌}
use lib.ListN.{get_or}
use Prim.Native.Nat.{ℕ, ◌-◌}
use native.Mathlib.Omega.{arith}
use Rattle.model.specs.Form.{place}
use Rattle.swaps.proofs.Changes.{columns_on, one_more}
use Rattle.swaps.proofs.operations.on_rows.Goals as goal

pub loop-c-preserved : goal.loop-c-preserved
loop-c-preserved g c =
    let v = c.loop-c.invariant in
    let h = c.loop-m.invariant in
    let a = c.args in
    let e : c.loop-m.m ≡ g.row.N = omega arith in (
      c.change.auto.t ∙ v.0,
      one_more g.row.N _ a.s.ld (c.loop-c.c - a.j) (λ (m : ℕ). place a.s.ld (get_or a.rows m 0) a.j) (λ (m : ℕ). get_or c.loop-m.places m 0) a.t.now v.1 c.change.ensures
          (λ m l. h.1 m (omega arith) ∙ columns_on _ a.s.ld a.j c.loop-c.c c.loop-c.auto.c) (omega arith),
    )
