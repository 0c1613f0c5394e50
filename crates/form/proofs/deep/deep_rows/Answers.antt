-- `form::deep::deep_rows` meets its contract. Assumes nothing.
use mathlib.Core.Path.{sym, ◌∙◌}
use Rattle.form.proofs.Below.{by_parts}
use Rattle.form.proofs.deep.deep_rows.Goals as goal

pub returns-then-any_in_columns : goal.returns-then-any_in_columns
returns-then-any_in_columns g c =
    let a = c.args in
    sym (by_parts a.s.ld a.t.now a.top g.row.ROWS c.requires.1 ∙ rw (← c.any_in_columns.ensures, c.if-any_in_columns.true))

pub returns-else-any_in_columns : goal.returns-else-any_in_columns
returns-else-any_in_columns g c =
    let a = c.args in
    sym (by_parts a.s.ld a.t.now a.top g.row.ROWS c.requires.1 ∙ rw (← c.any_in_columns.ensures, c.if-any_in_columns.false, ← c.any_in_corner.ensures))
