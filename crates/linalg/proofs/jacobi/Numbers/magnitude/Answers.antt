-- `linalg::jacobi::Numbers::magnitude` meets its contract. Assumes nothing.
use Rattle.linalg.proofs.Nan.{one_test}
use Rattle.linalg.proofs.jacobi.Numbers.magnitude.Goals as goal

pub returns-then-a-b : goal.returns-then-a-b
returns-then-a-b c =
    rw (← one_test c.args.self.p c.args.self.q c.args.self.other, ← c.abs-b.ensures, ← c.abs-a.ensures, c.if-a-b.true)

pub returns-else-a-b : goal.returns-else-a-b
returns-else-a-b c =
    rw (← one_test c.args.self.p c.args.self.q c.args.self.other, ← c.abs-b.ensures, ← c.abs-a.ensures, c.if-a-b.false)
