-- `solve::walk::blocks_down` meets its contract. The invariant: the rows that are left, done to x as it is now, give the whole. Assumes nothing.
use mathlib.Core.Path.{◌≡◌}
use Prim.Native.Nat.{◌≤◌}
use lib.ListN.{length}
use lib.Ieee.{binary64}
use Rattle.model.specs.Vectors.{blocks_down}
use Rattle.solve.proofs.walk.blocks_down.Given as goal

abbrev pub invariant-loop-left : goal.invariant-loop-left
invariant-loop-left g l =
    (l.left ≤ l.a.n)
    × (length l.x ≡ length l.initial.x)
    × (blocks_down binary64 l.a.ld l.a.a.now (g.B.EachBlock.one l.each) (g.B.EachBlock.two l.each) l.left l.x ≡ blocks_down binary64 l.a.ld l.a.a.now (g.B.EachBlock.one l.each) (g.B.EachBlock.two l.each) l.a.n l.initial.x)

abbrev pub decreases-loop-left : goal.decreases-loop-left
decreases-loop-left g l = l.left
