-- What the inner functions of `sqrt` hand to one another. Assumes nothing.
use Rattle.std.specs.Prelude.{◌≡◌, ℕ, ◌*◌, ◌/◌, ◌^◌, ◌≤◌, ◌<◌}
use Rattle.std.specs.Float.{binary64}
use Rattle.laws.specs.RootNearest.{in_squares}

-- the number of pattern b is `digits` * 2 ^ `power` squares of the smallest value, with all 53 digits
pub record Parts (b digits power : ℕ) : Type 0 where
  pub is : in_squares binary64 b ≡ digits * 2 ^ power
  pub low : 2 ^ 52 ≤ digits
  pub high : digits < 2 ^ 53
  pub least : 1022 ≤ power
  pub most : power ≤ 3119

-- d * 4 ^ (power / 2) is the same number: the power is now even, for a root to halve
pub record Even (digits power d : ℕ) : Type 0 where
  pub is : digits * 2 ^ power ≡ d * (2 ^ (power / 2) * 2 ^ (power / 2))
  pub low : 2 ^ 52 ≤ d
  pub high : d < 2 ^ 54
