-- `replay::table::run` meets its contract. Assumes nothing.
use Rattle.model.specs.Arith as Arith
use Rattle.std.specs.Float.{binary64}
use Rattle.replay.proofs.table.run.Goals as goal

pub returns-in-Abs2 : goal.returns-in-Abs2
returns-in-Abs2 c = rw c.in-Abs2.is (c.one-in-Abs2.ensures (Arith.abs2 binary64) (λ x y p. p))
