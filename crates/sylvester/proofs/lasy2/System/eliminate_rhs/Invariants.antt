-- `sylvester::lasy2::System::eliminate_rhs` meets its contract. The invariant: what is left, from here, gives what all of it gives from the start. Assumes nothing.
use Rattle.std.proofs.Common.{◌≡◌, ◌+◌, ◌-◌}
use Rattle.std.specs.Float.{binary64}
use Rattle.model.specs.Lasy2.{rhs_from}
use Rattle.sylvester.proofs.lasy2.System.eliminate_rhs.Given as goal

abbrev pub invariant-loop-j : goal.invariant-loop-j
invariant-loop-j l = (l.self ≡ record l.initial.self { b = l.self.b }) × (rhs_from binary64 l.self.t l.i (4 - l.j) l.j l.self.b ≡ rhs_from binary64 l.initial.self.t l.i (4 - (l.i + 1)) (l.i + 1) l.initial.self.b)
