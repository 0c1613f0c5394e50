-- `swaps::swap_12::schur_swap_3` meets its contract. Assumes nothing.
use Rattle.swaps.proofs.Windows.{made, done_3}
use Rattle.swaps.proofs.swap_12.schur_swap_3.Goals as goal

pub returns : goal.returns
returns c =
    let a = c.args in
    let r = c.rows-rows.ensures in
    done_3 a.s.ld a.s.n a.j a.t.now a.u.now a.single r (made a.s.ld a.j a.t.now a.single r c.of.ensures c.reflectors_3-v.ensures) c.form_3.ensures c.on_factor.ensures
