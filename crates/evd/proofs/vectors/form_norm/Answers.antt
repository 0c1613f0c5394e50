-- `evd::vectors::form_norm` meets its contract. Assumes nothing.
use mathlib.Core.Path.{◌≡◌, ◌∙◌}
use Prim.Native.Nat.{◌+◌, ◌*◌, ◌≤◌}
use native.Mathlib.Nat.{zero-add}
use native.Mathlib.Omega.{arith}
use lib.ListN.{length}
use Rattle.model.specs.Vectors.{norm_columns, rows_to}
use Rattle.arith.proofs.Left.{left_suc}
use Rattle.evd.proofs.Sums.{least, part_sum}
use Rattle.evd.proofs.vectors.form_norm.Goals as goal

pub loop-j-preserved : goal.loop-j-preserved
unfolding norm_columns
loop-j-preserved c =
    let s = c.args.s in
    let j = c.loop-j.j in
    let top : c.place-top.result ≡ s.ld * j = c.place-top.ensures.0 ∙ zero-add _ in
    let rows : c.min.result ≡ rows_to s.n j = c.min.ensures ∙ least s.n j in
    let inside : c.place-top.result + c.min.result ≤ length c.args.t.now = omega (arith, c.place-top.ensures.1, c.min.ensures, s.fits, c.requires) in
    let sum = c.add_magnitudes-norm.ensures ∙ part_sum c.args.t.now c.place-top.result c.min.result c.loop-j.norm inside in
    rw (sum, top, rows) (rw (left_suc _ _ c.loop-j-test.true) at c.loop-j.invariant)
