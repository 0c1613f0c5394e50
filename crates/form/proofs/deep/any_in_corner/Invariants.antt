-- `form::deep::any_in_corner` meets its contract. The invariant: what is seen is what the first j columns have. Assumes nothing.
use mathlib.Core.Path.{◌≡◌}
use Prim.Native.Nat.{ℕ, ◌+◌, ◌-◌}
use lib.Ieee.{binary64, ne, of_bits}
use Rattle.model.specs.Form.{entry, some}
use Rattle.form.proofs.deep.any_in_corner.Given as goal

abbrev pub invariant-loop-j : goal.invariant-loop-j
invariant-loop-j l = l.seen ≡ some l.j (λ (i : ℕ). some (l.rows - 1 - i) (λ (k : ℕ). ne (entry l.s.ld l.t (l.top + 1 + i + k) (l.top - 1 + i)) (of_bits binary64 0)))
