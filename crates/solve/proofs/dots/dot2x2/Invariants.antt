-- `solve::dots::dot2x2` meets its contract. The invariant: of each sum, the rest of the pairs gives the whole. Assumes nothing.
use Rattle.solve.specs.Numbers.{numbers}
use Rattle.solve.proofs.Sums.{Rest}
use Rattle.solve.proofs.dots.dot2x2.Given as goal

abbrev pub invariant-loop-i : goal.invariant-loop-i
invariant-loop-i l =
    Rest (numbers l.lhs0) (numbers l.rhs0) l.lhs0.count l.i l.acc0
    × Rest (numbers l.lhs1) (numbers l.rhs0) l.lhs0.count l.i l.acc1
    × Rest (numbers l.lhs0) (numbers l.rhs1) l.lhs0.count l.i l.acc2
    × Rest (numbers l.lhs1) (numbers l.rhs1) l.lhs0.count l.i l.acc3
