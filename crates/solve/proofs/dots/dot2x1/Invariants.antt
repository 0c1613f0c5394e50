-- `solve::dots::dot2x1` meets its contract. The invariant: of each pair of sums, the rest of the pairs gives the whole. Assumes nothing.
use Rattle.solve.specs.Numbers.{numbers}
use Rattle.solve.proofs.Sums.{Halves}
use Rattle.solve.proofs.dots.dot2x1.Given as goal

abbrev pub invariant-loop-k : goal.invariant-loop-k
invariant-loop-k l =
    Halves (numbers l.lhs0) (numbers l.rhs) l.n l.k l.acc00 l.acc01
    × Halves (numbers l.lhs1) (numbers l.rhs) l.n l.k l.acc10 l.acc11
