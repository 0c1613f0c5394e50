-- `lists::reorder::reorder_schur_list` meets its contract. Whenever the loop's test is reached, the pairs that are left, from the buffers as they are, come to what all pairs come to from the buffers as they were lent; and what is known of form and factor is what was known before the first.
-- The measure is how many numbers are left. Assumes nothing.
use mathlib.Core.Path.{◌≡◌}
use Prim.Native.Nat.{◌+◌, ◌*◌, ◌≤◌}
use lib.ListN.{length}
use lib.Ieee.{binary64}
use Rattle.model.specs.Lists.{pairs, in_turn}
use Rattle.lists.specs.Known.{Known}
use Rattle.lists.proofs.Turns.{lent}
use Rattle.lists.proofs.reorder.reorder_schur_list.Given as goal

abbrev pub invariant-loop-from : goal.invariant-loop-from
invariant-loop-from l =
    (l.p + 2 * length l.left ≤ length l.results)
    × Known l.form l.n l.ld l.t l.u
    × (in_turn binary64 l.ld l.n (pairs l.left) l.p (lent l.t l.u l.results) ≡ in_turn binary64 l.ld l.n (pairs l.moves) 0 (lent l.initial.t l.initial.u l.initial.results))

abbrev pub decreases-loop-from : goal.decreases-loop-from
decreases-loop-from l = length l.left
