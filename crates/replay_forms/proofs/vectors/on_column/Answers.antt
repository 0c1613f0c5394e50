-- `replay_forms::vectors::on_column` meets its contract. Assumes nothing.
use native.Mathlib.Omega.{arith}
use Rattle.replay_forms.specs.Lines.{more}
use Rattle.replay_forms.proofs.ColumnLine.{column_read}
use Rattle.replay_forms.proofs.vectors.on_column.Goals as goal

pub returns : goal.returns
returns c =
    let p = c.in_ok-a.ensures.cases in
    let h = c.in_ok-head.ensures.cases in
    let q = c.in_ok-col.ensures.cases in
    let x = c.in_ok-vectors.ensures.cases in
    let v = c.in_ok-v.ensures.cases in
    rw c.are_words.ensures (column_read (more c.args.stride) c.args.w.now p.0 h.0 h.1 h.2 q.0 x.1 x.2 v.0 (omega (arith, v.1, x.3)) (omega (arith, p.1, h.3, q.1, x.4)) c.column.ensures)
