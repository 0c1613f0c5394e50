-- `replay_forms::moves::on_two` meets its contract. Assumes nothing.
use native.Mathlib.Omega.{arith}
use Rattle.replay_forms.specs.Lines.{more}
use Rattle.replay_forms.proofs.Parts.{taken}
use Rattle.replay_forms.proofs.TwoLine.{two_read}
use Rattle.replay_forms.proofs.moves.on_two.Goals as goal

pub returns : goal.returns
returns g c =
    let p = c.in_ok-a.ensures.cases in
    let h = c.in_ok-head.ensures.cases in
    let q = c.in_ok-given.ensures.cases in
    let x = c.in_ok-form.ensures.cases in
    let y = c.in_ok-factor.ensures.cases in
    let z = c.in_ok-told.ensures.cases in
    let v = c.in_ok-form_after.ensures.cases in
    let t = c.in_ok-t.ensures.cases in
    let u = c.in_ok-u.ensures.cases in
    let end = c.if-factor_after-b.false in
    rw (c.eq-same.ensures, c.are_words-form.ensures, c.are_words-factor.ensures) (two_read g.C.OnTwo.gives g.row.G g.row.N (more c.args.stride) c.args.w.now (taken c.args.w.now 2 0 p.0 (omega arith)) (taken c.args.w.now 2 1 p.0 (omega arith)) p.1 h.0 h.1 h.2 q.0 q.1 x.1 x.2 y.1 y.2 z.0 z.1 v.1 v.2 end t.0 u.0 (omega (arith, x.3, t.1)) (omega (arith, y.3, u.1)) (omega (arith, p.2, h.3, q.2, x.4, y.4, z.2, v.4, end)) c.call-answered.ensures)
