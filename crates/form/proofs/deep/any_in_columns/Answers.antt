-- `form::deep::any_in_columns` meets its contract. Assumes nothing.
use mathlib.Core.Path.{◌≡◌, sym, ◌∙◌}
use native.Mathlib.Numerals.{add-one}
use Prim.Native.Nat.{ℕ, ◌+◌, ◌-◌, ◌*◌, ◌≤◌}
use native.Mathlib.Omega.{arith}
use mathlib.Core.Bool.{Bool}
use mathlib.Core.List.{List}
use lib.ListN.{length, take, drop}
use lib.Ieee.{Float, binary64, ne, of_bits}
use Rattle.model.specs.Form.{at, some}
use Rattle.form.proofs.Some.{found, from_place}
use Rattle.form.proofs.deep.any_in_columns.Goals as goal

-- what is told of the part from place q on, told of column j
told : (t : List Float) (ld p j q n : ℕ) {r : Bool} → q + n ≤ length t → q ≡ p + ld * j
    → r ≡ some n (λ (k : ℕ). ne (at (take (length t - q) (drop q t)) k) (of_bits binary64 0)) → r ≡ some n (λ (k : ℕ). ne (at t (p + k + ld * j)) (of_bits binary64 0))
told t ld p j q n h e g = g ∙ from_place t q n (λ (k : ℕ). p + k + ld * j) (λ (x : Float). ne x (of_bits binary64 0)) h (λ i. omega (arith, e))

pub returns-then-any_of_first : goal.returns-then-any_of_first
returns-then-any_of_first g c =
    let a = c.args in
    let j = c.loop-j.j in
    let e = told a.t.now a.s.ld a.p j c.place.result g.row.ROWS (omega (arith, c.place.ensures)) c.place.ensures.0 c.any_of_first.ensures in
    sym (found a.count _ j c.loop-j-test.true (sym e ∙ c.if-any_of_first.true))

pub loop-j-preserved : goal.loop-j-preserved
unfolding some
loop-j-preserved g c =
    let a = c.args in
    let e = told a.t.now a.s.ld a.p c.loop-j.j c.place.result g.row.ROWS (omega (arith, c.place.ensures)) c.place.ensures.0 c.any_of_first.ensures in
    rw (add-one, c.loop-j.invariant, ← e, c.if-any_of_first.false)
