-- How long roots are, and what is above 0. Assumes nothing.
use mathlib.Core.Path.{◌≡◌}
use Prim.Native.Nat.{ℕ, zero, suc, ◌*◌, ◌^◌, ◌<◌}
use native.Mathlib.Omega.{arith}
use Rattle.model.specs.Root.{root}
use Rattle.laws.proofs.WholeRoot.{root_is, root_lt}

-- a root of a number of 108 digits has 54
pub short : (d r : ℕ) → d < 2 ^ 54 → r ≡ root (d * 2 ^ 54) → r < 2 ^ 54
short d r h e = rw e (root_lt (d * 2 ^ 54) (root (d * 2 ^ 54)) (root_is (d * 2 ^ 54)) (2 ^ 54) (omega arith))

-- what has a square above a number
pub above_zero : (d r : ℕ) → d < r * r → 0 < r
above_zero d zero h = absurd (omega arith)
above_zero d (suc r) h = omega arith
