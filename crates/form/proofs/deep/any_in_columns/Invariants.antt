-- `form::deep::any_in_columns` meets its contract. The invariant: the first j columns have none. Assumes nothing.
use mathlib.Core.Path.{◌≡◌}
use mathlib.Core.Bool.{false}
use Rattle.form.proofs.Below.{columns}
use Rattle.form.proofs.deep.any_in_columns.Given as goal

abbrev pub invariant-loop-j : goal.invariant-loop-j
invariant-loop-j g l = columns l.s.ld l.t l.p l.j g.row.ROWS ≡ false
