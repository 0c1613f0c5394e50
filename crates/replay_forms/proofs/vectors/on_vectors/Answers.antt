-- `replay_forms::vectors::on_vectors` meets its contract. Assumes nothing.
use native.Mathlib.Omega.{arith}
use Rattle.replay_forms.specs.Lines.{more}
use Rattle.replay_forms.proofs.Parts.{taken}
use Rattle.replay_forms.proofs.VectorLine.{vectors_read}
use Rattle.replay_forms.proofs.vectors.on_vectors.Goals as goal

pub returns : goal.returns
returns c =
    let p = c.in_ok-a.ensures.cases in
    let h = c.in_ok-head.ensures.cases in
    let x = c.in_ok-form.ensures.cases in
    let y = c.in_ok-lent.ensures.cases in
    let z = c.in_ok-told.ensures.cases in
    let t = c.in_ok-t.ensures.cases in
    let u = c.in_ok-v.ensures.cases in
    let end = c.if-after-b.false in
    rw (c.number.ensures, c.are_words-vectors.ensures) (vectors_read (more c.args.stride) c.args.w.now (taken c.args.w.now 2 0 p.0 (omega arith)) (taken c.args.w.now 2 1 p.0 (omega arith)) p.1 h.0 h.1 h.2 x.1 x.2 y.1 y.2 z.0 end t.0 u.0 (omega (arith, x.3, t.1)) (omega (arith, y.3, u.1)) (omega (arith, p.2, h.3, x.4, y.4, z.1, end)) c.evd_from_real_schur-r.ensures)
