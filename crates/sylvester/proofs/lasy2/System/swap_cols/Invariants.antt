-- `sylvester::lasy2::System::swap_cols` meets its contract. The invariant: the rows that are left, from the matrix as it is, give what all of them give from the start. Assumes nothing.
use Rattle.std.proofs.Common.{◌≡◌, ◌-◌}
use Rattle.sylvester.proofs.Order.{cols_from}
use Rattle.sylvester.proofs.lasy2.System.swap_cols.Given as goal

abbrev pub invariant-loop-row : goal.invariant-loop-row
invariant-loop-row l = cols_from l.c l.i (4 - l.row-index) l.row-index l.row-items ≡ cols_from l.c l.i 4 0 l.initial.row-items
