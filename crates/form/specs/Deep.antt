-- Rows of a form that have nothing far below the diagonal. Definitions only. Assumes nothing.
use Rattle.std.specs.Prelude.{◌≡◌, ℕ, ◌+◌, ◌*◌, ◌≤◌, ◌<◌, false, List, Float}
use Rattle.std.specs.Float.{binary64}
use Rattle.std.specs.Float.Ieee.{ne, of_bits}
use Rattle.model.specs.Form.{at}

-- the numbers more than one row below the diagonal in the rows from `top` to before `end` are zero
abbrev pub Clean : ℕ → List Float → ℕ → ℕ → Type 0
Clean ld t top end = (i j : ℕ) → top ≤ i → i < end → j + 2 ≤ i → ne (at t (i + ld * j)) (of_bits binary64 0) ≡ false
