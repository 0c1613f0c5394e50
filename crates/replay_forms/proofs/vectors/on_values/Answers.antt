-- `replay_forms::vectors::on_values` meets its contract. Assumes nothing.
use native.Mathlib.Omega.{arith}
use Rattle.replay_forms.specs.Lines.{more}
use Rattle.replay_forms.proofs.Parts.{taken}
use Rattle.replay_forms.proofs.ValueLine.{values_read}
use Rattle.replay_forms.proofs.vectors.on_values.Goals as goal

pub returns : goal.returns
returns g c =
    let p = c.in_ok-a.ensures.cases in
    let h = c.in_ok-head.ensures.cases in
    let x = c.in_ok-form.ensures.cases in
    let y = c.in_ok-real.ensures.cases in
    let m = c.in_ok-imaginary.ensures.cases in
    let z = c.in_ok-told.ensures.cases in
    let v = c.in_ok-real_after.ensures.cases in
    let t = c.in_ok-t.ensures.cases in
    let re = c.in_ok-re.ensures.cases in
    let im = c.in_ok-im.ensures.cases in
    let end = c.if-imaginary_after-k.false in
    rw (c.number.ensures, c.are_words-real.ensures, c.are_words-imaginary.ensures) (values_read (more c.args.stride) c.args.w.now g.R.Reading.read (taken c.args.w.now 3 0 p.0 (omega arith)) (taken c.args.w.now 3 1 p.0 (omega arith)) (taken c.args.w.now 3 2 p.0 (omega arith)) p.1 h.0 h.1 h.2 x.1 x.2 y.1 y.2 m.1 m.2 z.0 v.1 v.2 end t.0 re.0 im.0 (omega (arith, x.3, t.1)) (omega (arith, y.3, re.1)) (omega (arith, m.3, im.1)) (omega (arith, p.2, h.3, x.4, y.4, m.4, z.1, v.4, end)) c.values_read-r.ensures)
