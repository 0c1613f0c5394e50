-- `sylvester::lasy2::System::swap_cols` meets its contract. Assumes nothing.
use Rattle.std.proofs.Common.{◌≡◌, ◌-◌, arith, rules}
use Rattle.sylvester.proofs.Order.{cols_done}
use Rattle.sylvester.proofs.lasy2.System.swap_cols.Goals as goal

pub returns : goal.returns
returns c =
    let done : 4 - c.loop-row.row-index ≡ 0 = omega arith in
    let cols = cols_done _ _ _ _ _ _ done (search rules) c.loop-row.invariant in
    cc
