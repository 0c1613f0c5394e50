-- `swaps::swap_22::schur_swap_22` meets its contract. Assumes nothing.
use mathlib.Core.Path.{refl}
use Rattle.model.specs.Columns.{on_factor}
use Rattle.model.specs.Swaps.{declines_in, swap22, swap22_by}
use Rattle.swaps.proofs.Windows.{window_at}
use Rattle.swaps.proofs.swap_22.schur_swap_22.Goals as goal

pub returns-then-declines : goal.returns-then-declines
unfolding swap22 on_factor declines_in
returns-then-declines c =
    let a = c.args in
    let w = window_at a.s.ld a.t.now a.j c.rows_4-rows.ensures c.of-w.ensures in
    rw (← w, ← c.solution_of.ensures, ← c.reflectors_4-v.ensures, ← c.declines.ensures, c.if-declines.true) (record { form = refl; factor = refl }, refl)

pub returns : goal.returns
unfolding swap22 swap22_by on_factor declines_in
returns c =
    let a = c.args in
    let w = window_at a.s.ld a.t.now a.j c.rows_4-rows.ensures c.of-w.ensures in
    rw (← w, ← c.solution_of.ensures, ← c.reflectors_4-v.ensures, ← c.declines.ensures, c.if-declines.false)
    (record { form = c.form_22.ensures; factor = rw c.rows_4-rows.ensures at c.on_factor.ensures }, refl)
