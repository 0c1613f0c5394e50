-- `replay_lists::list::on_list` meets its contract. Assumes nothing.
use native.Mathlib.Omega.{arith}
use Rattle.replay_forms.specs.Lines.{more}
use Rattle.replay_forms.proofs.Parts.{taken}
use Rattle.replay_lists.proofs.ListLine.{list_read}
use Rattle.replay_lists.proofs.list.on_list.Goals as goal

pub returns : goal.returns
returns c =
    let w = c.args.w.now in
    let p = c.in_ok-a.ensures.cases in
    let h = c.in_ok-head.ensures.cases in
    let g = c.in_ok-moves.ensures.cases in
    let x = c.in_ok-form.ensures.cases in
    let y = c.in_ok-factor.ensures.cases in
    let l = c.in_ok-lent.ensures.cases in
    let z = c.in_ok-told.ensures.cases in
    let v = c.in_ok-form_after.ensures.cases in
    let q = c.in_ok-factor_after.ensures.cases in
    let t = c.in_ok-t.ensures.cases in
    let u = c.in_ok-u.ensures.cases in
    let ms = c.in_ok-pairs.ensures.cases in
    let rs = c.in_ok-results.ensures.cases in
    let end = c.if-results_after-m.false in
    rw (c.number.ensures, c.are_words-form.ensures, c.are_words-factor.ensures, c.are_numbers-results.ensures) (list_read (more c.args.stride) w (taken w 4 0 p.0 (omega arith)) (taken w 4 1 p.0 (omega arith)) (taken w 4 2 p.0 (omega arith)) (taken w 4 3 p.0 (omega arith)) p.1 h.0 h.1 h.2 g.1 g.2 x.1 x.2 y.1 y.2 l.1 l.2 z.0 v.1 v.2 q.1 q.2 end t.0 u.0 ms.0 rs.0 (omega (arith, x.3, t.1)) (omega (arith, y.3, u.1)) (omega (arith, g.3, ms.1)) (omega (arith, l.3, rs.1)) (omega (arith, p.2, h.3, g.4, x.4, y.4, l.4, z.1, v.4, q.4, end)) c.reorder_schur_list-r.ensures)
