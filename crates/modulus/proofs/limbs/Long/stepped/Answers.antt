-- `modulus::limbs::Long::stepped` meets its contract: the two limbs are compared with the square's. Assumes nothing.
use native.Mathlib.Omega.{arith}
use Rattle.std.proofs.Common.{Less, Equal, Greater}
use Rattle.modulus.proofs.Ordered.{by_limbs}
use Rattle.modulus.proofs.Step.{fits, stays, steps, ties}
use Rattle.modulus.proofs.limbs.Long.stepped.Goals as goal

pub square-requires : goal.square-requires
square-requires c = fits c.args.self c.requires c.whole_root.ensures

pub returns-in-Less : goal.returns-in-Less
returns-in-Less c =
    let n = c.args.self in
    let h = by_limbs c.square.result n.whole Less c.in-Less.ensures in
    steps n c.requires c.whole_root.ensures c.square.ensures (omega (arith, h)) (λ e. absurd (omega (arith, h, e)))

pub returns-in-Equal : goal.returns-in-Equal
returns-in-Equal c =
    let n = c.args.self in
    let h = by_limbs c.square.result n.whole Equal c.in-Equal.ensures in
    ties n c.requires c.whole_root.ensures c.square.ensures h c.if-self-eq0.true

pub returns-in-Equal-2 : goal.returns-in-Equal-2
returns-in-Equal-2 c =
    let n = c.args.self in
    let h = by_limbs c.square.result n.whole Equal c.in-Equal-2.ensures in
    steps n c.requires c.whole_root.ensures c.square.ensures (omega (arith, h)) (λ e z. absurd (c.if-self-eq0.false z))

pub returns-in-Greater : goal.returns-in-Greater
returns-in-Greater c =
    let n = c.args.self in
    let h = by_limbs c.square.result n.whole Greater c.in-Greater.ensures in
    stays n c.requires c.whole_root.ensures c.square.ensures (omega (arith, h)) (λ e. absurd (omega (arith, h, e)))
