-- `evd::vectors::ColumnsEachBlock::two` meets its contract. Assumes nothing.
use mathlib.Core.Path.{◌∙◌}
use native.Mathlib.Nat.{zero-add}
use lib.Ieee.{binary64}
use Rattle.model.specs.Vectors.{solve_cplx, cplx_columns}
use Rattle.evd.proofs.Part.{put_back}
use Rattle.evd.proofs.vectors.ColumnsEachBlock.two.Goals as goal

pub returns : goal.returns
unfolding cplx_columns
returns c =
    let m = c.args.self.now in
    let a = c.leading.ensures in
    put_back (solve_cplx binary64 m.s.ld m.t.now c.get-p.result c.open_columns-q.result m.norm c.args.j) _ _ _ _ (rw (a.0, a.1, a.2) at c.solve_cplx_shifted_upper_quasi_triangular_system.ensures)
    ∙ rw (c.open_columns-q.ensures.1, c.open_columns-q.ensures.0, c.place-top.ensures.0 ∙ zero-add _, c.get-p.ensures)
