-- What the functions of `digits` hand to one another and out. Assumes nothing.
use Rattle.std.specs.Prelude.{◌≡◌, ℕ, ◌+◌, ◌-◌, ◌*◌, ◌/◌, ◌%◌, ◌^◌, ◌≤◌, ◌<◌, cond, ltb, Option, None, Some, IfSome}
use Rattle.std.specs.Option.{option_map}
use Rattle.std.specs.Float.{binary64}
use Rattle.laws.specs.RootNearest.{pattern_value}

-- the number of pattern b is t * 2 ^ `power` smallest values, and the pattern itself is made of the two
pub record Significand (b t power : ℕ) : Type 0 where
  pub is : pattern_value binary64 b ≡ t * 2 ^ power
  pub pattern : power * 2 ^ 52 + t ≡ b
  pub some : 0 < t
  pub short : t < 2 ^ 53
  pub lead : 0 < power → 2 ^ 52 ≤ t
  pub most : power ≤ 2045

-- s places up, the leading digit of t is at 2 ^ 52
pub record Shift (t s : ℕ) : Type 0 where
  pub low : 2 ^ 52 ≤ t * 2 ^ s
  pub high : t * 2 ^ s < 2 ^ 53
  pub most : s ≤ 52

-- h is below 2 ^ 24 / √m, with m = i / 32, and its square by less than one part in 2 ^ 13
abbrev pub Under : ℕ → ℕ → Type 0
Under i h = (h * h * i < 2 ^ 53) × (2 ^ 53 ≤ h * h * i + 2 ^ 40)

-- r has the height at the start, and the fall, of a line for m from i / 32 to (i + 1) / 32; both its ends are under 2 ^ 24 / √m
pub record Line (i r : ℕ) : Type 0 where
  pub short : r < 2 ^ 48
  pub falls : r % 2 ^ 24 ≤ r / 2 ^ 24
  pub start : Under i (r / 2 ^ 24)
  pub end : Under (i + 1) (r / 2 ^ 24 - r % 2 ^ 24)

-- r is near 2 ^ 32 / √m, with m = d / 2 ^ 52: under what that is at the start of the line's stretch of m, and at least what `Under` asks at its end
pub record NearInverse (d r : ℕ) : Type 0 where
  pub short : r < 2 ^ 32
  pub high : r * r * (d / 2 ^ 47) < 2 ^ 69
  pub low : 2 ^ 69 ≤ r * r * (d / 2 ^ 47 + 1) + 2 ^ 56

-- the numbers on the way of a step of Newton's from y: a root, and how much it is off
abbrev pub t_of : ℕ → ℕ → ℕ
t_of d y = d / 0x40_0000 * y / 0x8000_0000 % 0x1_0000_0000

abbrev pub step_of : ℕ → ℕ → ℕ
step_of d y = 0xbfff_ffff - t_of d y * y / 0x2_0000_0000

-- root and inverse are what one step of Newton's makes of y
pub record NewtonStep (d y root inverse : ℕ) : Type 0 where
  pub of-root : root ≡ t_of d y * step_of d y / 0x8000_0000 % 0x1_0000_0000
  pub of-inverse : inverse ≡ y * step_of d y / 0x8000_0000 % 0x1_0000_0000

-- what is left of x without y, where that is at least 0 and below the end
abbrev pub left_of : ℕ → ℕ → ℕ → Option ℕ
left_of x y end = cond (ltb x y) None (cond (ltb (x - y) end) (Some (x - y)) None)

-- r is that
pub record Left (x y end : ℕ) (r : Option ℕ) : Type 0 where
  pub is : r ≡ left_of x y end

-- the digits of s, and those of what is left of x over twice s; none where s is not near
abbrev pub half_of : ℕ → ℕ → ℕ → Option ℕ
half_of x s inverse = option_map (λ (r : ℕ). s * 0x20_0000 + (r / 16 * inverse + 0x41_0000_0000) / 0x80_0000_0000) (left_of x (s * s) 0xf_0000_0000)

-- r is that of a step of Newton's from y
pub record NearHalf (d x y : ℕ) (r : Option ℕ) : Type 0 where
  pub root : ℕ
  pub inverse : ℕ
  pub step : NewtonStep d y root inverse
  pub is : r ≡ half_of x root inverse
  pub fits : IfSome r (λ k. (1 < k) × (k < 2 ^ 54))
