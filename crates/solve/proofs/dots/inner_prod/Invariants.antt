-- `solve::dots::inner_prod` meets its contract. The invariant: the rest of the pairs gives the whole. Assumes nothing.
use Rattle.solve.specs.Numbers.{numbers}
use Rattle.solve.proofs.Sums.{Rest}
use Rattle.solve.proofs.dots.inner_prod.Given as goal

abbrev pub invariant-loop-i : goal.invariant-loop-i
invariant-loop-i l =
    Rest (numbers l.lhs) (numbers l.rhs) l.lhs.count l.i l.acc
