-- `form::deep::none_deep` meets its contract. The invariant: the rows from `left` on have no such number. Assumes nothing.
use Prim.Native.Nat.{◌≤◌}
use Rattle.form.specs.Deep.{Clean}
use Rattle.form.proofs.deep.none_deep.Given as goal

abbrev pub invariant-loop-left : goal.invariant-loop-left
invariant-loop-left g l = (l.left ≤ l.rows) × Clean l.s.ld l.t l.left l.rows

abbrev pub decreases-loop-left : goal.decreases-loop-left
decreases-loop-left g l = l.left
