-- `form::deep::none_deep` meets its contract. Assumes nothing.
use mathlib.Core.Path.{refl, sym, ◌∙◌}
use Prim.Native.Nat.{◌-◌}
use native.Mathlib.Omega.{arith}
use Rattle.form.proofs.Below.{line-found, more}
use Rattle.form.proofs.deep.none_deep.Goals as goal

pub returns-then-deep_rows : goal.returns-then-deep_rows
returns-then-deep_rows g c =
    let a = c.args in
    let h = c.loop-left-test.true in
    let v = c.loop-left.invariant.0 in
    let r = c.requires.2 in
    (refl, line-found a.s.ld a.t.now a.s.n (c.loop-left.left - g.row.ROWS) g.row.ROWS (omega arith) (sym c.deep_rows.ensures ∙ c.if-deep_rows.true))

pub loop-left-preserved : goal.loop-left-preserved
loop-left-preserved g c =
    let a = c.args in
    let h = c.loop-left-test.true in
    let v = c.loop-left.invariant.0 in
    (omega arith, more a.s.ld a.t.now a.rows (c.loop-left.left - g.row.ROWS) g.row.ROWS c.loop-left.left (omega arith) (sym c.deep_rows.ensures ∙ c.if-deep_rows.false) c.loop-left.invariant.1)
