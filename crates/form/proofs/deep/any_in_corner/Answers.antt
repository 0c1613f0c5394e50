-- `form::deep::any_in_corner` meets its contract. Assumes nothing.
use Prim.Native.Nat.{ℕ, ◌+◌, ◌-◌, ◌*◌}
use native.Mathlib.Numerals.{add-one}
use native.Mathlib.Omega.{arith}
use lib.Ieee.{Float, binary64, ne, of_bits}
use Rattle.model.specs.Form.{some}
use Rattle.form.proofs.Some.{in_part}
use Rattle.form.proofs.deep.any_in_corner.Goals as goal

pub loop-j-preserved : goal.loop-j-preserved
unfolding some
loop-j-preserved c =
    let a = c.args in
    let j = c.loop-j.j in
    let part = in_part a.t.now c.place-first.result (a.rows - 1 - j) (λ (k : ℕ). a.top + 1 + j + k + a.s.ld * (a.top - 1 + j)) (λ (x : Float). ne x (of_bits binary64 0)) (omega (arith, c.place-first.ensures)) (λ i. omega (arith, c.place-first.ensures.0)) in
    rw (add-one, c.loop-j.invariant, ← part, c.any_nonzero-seen.ensures)
