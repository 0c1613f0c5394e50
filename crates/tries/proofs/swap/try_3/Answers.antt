-- `tries::swap::try_3` meets its contract. Assumes nothing.
use mathlib.Core.Path.{sym, ◌∙◌}
use Rattle.swaps.proofs.Windows.{made, done_3}
use Rattle.tries.proofs.Three.{test_3, failing, passing}
use Rattle.tries.proofs.swap.try_3.Goals as goal

pub returns-then-left_3-threshold : goal.returns-then-left_3-threshold
returns-then-left_3-threshold c =
    let a = c.args in
    let r = c.rows-rows.ensures in
    let v = made a.s.ld a.j a.t.now a.single r c.of-w.ensures c.reflectors_3-v.ensures in
    failing a.s.ld a.s.n a.j a.t.now a.single
    (sym (test_3 a.s.ld a.j a.t.now a.single r c.of-w.ensures v c.tried.ensures c.left_3.ensures c.threshold.ensures) ∙ c.if-left_3-threshold.true)

pub returns : goal.returns
returns c =
    let a = c.args in
    let r = c.rows-rows.ensures in
    let v = made a.s.ld a.j a.t.now a.single r c.of-w.ensures c.reflectors_3-v.ensures in
    passing a.s.ld a.s.n a.j a.t.now a.single
    (sym (test_3 a.s.ld a.j a.t.now a.single r c.of-w.ensures v c.tried.ensures c.left_3.ensures c.threshold.ensures) ∙ c.if-left_3-threshold.false)
    (done_3 a.s.ld a.s.n a.j a.t.now a.u.now a.single r v c.form_3.ensures c.on_factor.ensures)
