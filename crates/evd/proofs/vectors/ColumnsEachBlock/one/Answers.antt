-- `evd::vectors::ColumnsEachBlock::one` meets its contract. Assumes nothing.
use mathlib.Core.Path.{◌∙◌}
use Prim.Native.Nat.{◌+◌, ◌≤◌}
use native.Mathlib.Nat.{zero-add}
use native.Mathlib.Omega.{arith}
use borrow.Author.Rules.{rules}
use lib.ListN.{length}
use lib.Ieee.{binary64, neg}
use Rattle.model.specs.Vectors.{solve_real, real_column}
use Rattle.evd.proofs.Part.{negated_back}
use Rattle.evd.proofs.vectors.ColumnsEachBlock.one.Goals as goal

pub returns : goal.returns
unfolding real_column
returns c =
    let m = c.args.self.now in
    let a = c.leading.ensures in
    let f = c.fill.ensures neg (λ x y h. search rules) in
    let solved = rw (a.0, a.1, a.2, f) at c.solve_real_shifted_upper_quasi_triangular_system.ensures in
    let top = c.place-top.ensures in
    let there : c.place-top.result + c.args.k ≤ length m.t.now = omega (arith, top.1, m.holds, m.s.fits, c.requires.0) in
    let here : c.place-top.result + c.args.k ≤ length c.put.new.t = omega (arith, there, m.holds, c.put.auto.t, c.requires.1) in
    negated_back (solve_real binary64 m.s.ld m.t.now c.get-p.result m.norm c.args.k) m.t.now c.put.new.t _ c.place-top.result c.args.k there here solved
    ∙ rw (c.get-p.ensures, c.put.ensures, top.0 ∙ zero-add _)
