-- What the inner functions of `modulus` hand to one another. Assumes nothing.
use Rattle.std.specs.Prelude.{◌≡◌, ℕ, ◌+◌, ◌*◌, ◌/◌, ◌%◌, ◌^◌, ◌≤◌, ◌<◌}
use Rattle.laws.specs.RootNearest.{square}

-- the whole number that two limbs stand for
abbrev pub wide : ℕ → ℕ → ℕ
wide high low = high * 2 ^ 54 + low

-- the two limbs are x * x
pub record Square (x high low : ℕ) : Type 0 where
  pub is : wide high low ≡ x * x
  pub short : low < 2 ^ 54

-- the two limbs are x * x + y * y / 4 ^ d, and rest is what the division leaves
pub record Sum (x y d high low rest : ℕ) : Type 0 where
  pub is : wide high low ≡ x * x + y * y / (2 ^ d * 2 ^ d)
  pub short : low < 2 ^ 54
  pub left : rest ≡ y * y % (2 ^ d * 2 ^ d)

-- h, l and r are high, low and rest, or, as `power` is 0 or 1, the same with one pair of digits moved to the rest: h has 53 or 54 digits
pub record Fitted (high low rest h l r power : ℕ) : Type 0 where
  pub is : wide h l ≡ wide high low / 4 ^ power
  pub left : r ≡ rest + wide high low % 4 ^ power
  pub least : 2 ^ 52 ≤ h
  pub most : h < 2 ^ 54
  pub short : l < 2 ^ 54
  pub once : power ≤ 1

-- four times the sum of the squares of x with k + d zeros after it and y with k
abbrev pub four_sums : ℕ → ℕ → ℕ → ℕ → ℕ
four_sums x y k d = 4 * (square (x * 2 ^ (k + d)) + square (y * 2 ^ k))
