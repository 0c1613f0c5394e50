-- `sylvester::lasy2::System::back` meets its contract. Assumes nothing.
use Rattle.std.proofs.Common.{◌≡◌}
use Rattle.std.specs.Float.{binary64}
use Rattle.model.specs.Lasy2.{back}
use Rattle.sylvester.proofs.Order.{up_from}
use Rattle.sylvester.proofs.lasy2.System.back.Given as goal

abbrev pub invariant-loop-k : goal.invariant-loop-k
invariant-loop-k l = up_from l.self.t l.self.b l.k l.x ≡ back binary64 l.self.t l.self.b
