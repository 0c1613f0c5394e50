-- `sylvester::lasy2::reduced_row` meets its contract. The invariant: what is left, from here, gives what all of it gives from the start. Assumes nothing.
use Rattle.std.proofs.Common.{◌≡◌, ◌+◌, ◌-◌}
use Rattle.std.specs.Float.{binary64}
use Rattle.model.specs.Lasy2.{less_from}
use Rattle.sylvester.proofs.lasy2.reduced_row.Given as goal

abbrev pub invariant-loop-k : goal.invariant-loop-k
invariant-loop-k l = less_from binary64 l.p l.m (4 - l.k) l.k l.r ≡ less_from binary64 l.p l.m (4 - (l.i + 1)) (l.i + 1) l.initial.r
