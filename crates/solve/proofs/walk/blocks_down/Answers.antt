-- `solve::walk::blocks_down` meets its contract. Assumes nothing.
use mathlib.Core.Path.{◌∙◌}
use Rattle.solve.proofs.Blocks.{step_one, step_two}
use borrow.Author.Rules.{rules}
use Rattle.solve.proofs.walk.blocks_down.Goals as goal

pub loop-left-preserved-then-size-eq1 : goal.loop-left-preserved-then-size-eq1
loop-left-preserved-then-size-eq1 g c =
    let v = c.loop-left.invariant in
    (search rules, c.one.auto.x ∙ v.1, step_one _ _ _ _ _ _ _ _ c.loop-left-test.true c.size_above-size.ensures.0 c.one.new.x _ v.2 c.if-size-eq1.true c.one.ensures)

pub loop-left-preserved : goal.loop-left-preserved
loop-left-preserved g c =
    let v = c.loop-left.invariant in
    let s = c.size_above-size.ensures in
    (search rules, c.two.auto.x ∙ v.1, step_two _ _ _ _ _ _ _ _ c.loop-left-test.true s.0 c.two.new.x _ v.2 c.if-size-eq1.false s.1 s.2 c.two.ensures)
