-- The places of two columns side by side. Assumes nothing.
use Prim.Native.Nat.{ℕ, ◌+◌, ◌*◌, ◌≤◌, ◌<◌}
use native.Mathlib.Nat.{mul-le-mul_left}
use native.Mathlib.Omega.{arith}

-- column j, and the first j rows of the next
pub side_by_side : (ld n j : ℕ) → j + 1 < n → n ≤ ld → ld * j + ld + j ≤ ld * n
side_by_side ld n j h k = let m : ld * (j + 2) ≤ ld * n = mul-le-mul_left ld (omega arith) in omega arith
