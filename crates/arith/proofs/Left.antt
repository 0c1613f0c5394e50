-- What is left of a counting loop, one step on, as a definition that recurses on it wants it. Assumes nothing.
use mathlib.Core.Path.{◌≡◌}
use Prim.Native.Nat.{ℕ, suc, ◌+◌, ◌-◌, ◌<◌}
use native.Mathlib.Omega.{arith}

pub left_suc : (m i : ℕ) → i < m → m - i ≡ suc (m - (i + 1))
left_suc m i h = omega arith
