-- `digits::whole::Radicand::small_root` meets its contract. The invariant: r is no lower than the root's whole part. Newton's step keeps it, from any r above 0, since four times a product is at most the
-- square of the sum; and it goes down from an r whose square is above d. Assumes nothing.
use Prim.Native.Nat.{◌+◌, ◌*◌, ◌^◌, ◌≤◌, ◌<◌}
use Rattle.digits.proofs.whole.Radicand.small_root.Given as goal

abbrev pub invariant-loop-r : goal.invariant-loop-r
invariant-loop-r l = (l.d < (l.r + 1) * (l.r + 1)) × (l.r ≤ 2 ^ 27)

abbrev pub decreases-loop-r : goal.decreases-loop-r
decreases-loop-r l = l.r
