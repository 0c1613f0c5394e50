-- `linalg::householder::scale_tail` meets its contract. The invariant: what is done, and then the rest multiplied, is the whole multiplied. Assumes nothing.
use Rattle.std.proofs.Common.{◌≡◌, ◌++◌, map, take, drop}
use Rattle.std.specs.Float.{binary64}
use Rattle.std.specs.Prelude.{Float}
use Rattle.std.specs.Float.Ieee.{mul}
use Rattle.linalg.proofs.householder.scale_tail.Given as goal

abbrev pub invariant-loop-x : goal.invariant-loop-x
invariant-loop-x l = take l.x-index l.tail ++ map (λ (x : Float). mul binary64 x l.k) (drop l.x-index l.tail) ≡ map (λ (x : Float). mul binary64 x l.k) l.initial.tail
