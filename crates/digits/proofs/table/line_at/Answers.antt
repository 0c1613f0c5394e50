-- `digits::table::line_at` meets its contract: each entry passes the test. Assumes nothing.
use Rattle.std.proofs.Common.{◌≡◌, ◌+◌, ◌-◌, arith}
use Rattle.digits.specs.declared.table.TheConstants.{LINES}
use Rattle.digits.proofs.Lines.{each}
use Rattle.digits.proofs.table.line_at.Goals as goal

pub returns : goal.returns
returns c =
    let i = c.args.i in
    let e : 32 + (i - 32) ≡ i = omega arith in
    rw e at (each 32 LINES tt (i - 32) (omega arith))
