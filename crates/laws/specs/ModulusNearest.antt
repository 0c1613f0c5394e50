-- What is claimed of the modulus, for either format: it is the value nearest to the root of the sum of two squares, said over whole numbers. `modulus_nearest` of proofs/ModulusNearest.antt proves it. Assumes nothing.
use Rattle.std.specs.Prelude.{◌≡◌, ℕ, suc, ◌+◌, ◌-◌, ◌*◌, ◌%◌, ◌^◌, ◌≤◌, ◌<◌, Bool, false, not, cond, pos, T, eqb, Float}
use Rattle.std.specs.Float.{nan, inf, fin, Format}
use Rattle.std.specs.Float.Ieee.{low, emax, fits, to_bits}
use Rattle.std.specs.Float.Ieee.Scale.{finite}
use Rattle.model.specs.Root.{amount}
use Rattle.model.specs.Arith.{hypot, is_inf}
use Rattle.laws.specs.RootNearest.{square, infinite, pattern_value}

-- of two finite values, counted in squares of the smallest value: a value that fits is a whole number of smallest values
abbrev pub sum_of_squares : Format → Float → Float → ℕ
sum_of_squares f x y = square (amount f x) + square (amount f y)

-- ---- patterns

-- The magnitude that the pattern b stands for, counted in smallest values. That of plus infinity stands for the next power of two after the largest value.
unfoldable pub reach_value : Format → ℕ → ℕ
unfolding pattern_value
reach_value f b = cond (eqb b (infinite f)) (2 ^ (low f + suc (emax f))) (pattern_value f b)

-- twice the middle of what two patterns stand for
abbrev pub twice_reach : Format → ℕ → ℕ → ℕ
twice_reach f b c = reach_value f b + reach_value f c

-- the same of the largest value and plus infinity: from half of it on, there is no finite result
abbrev pub twice_edge : Format → ℕ
twice_edge f = twice_reach f (infinite f - 1) (infinite f)

-- ---- nearest

-- a is at most b, and equal to it only where r is even
abbrev pub UpTo : ℕ → ℕ → ℕ → Type 0
UpTo r a b = (a ≤ b) × (a ≡ b → r % 2 ≡ 0)

-- The number of pattern r is nearest to the root of n: the middle of it and the next smaller, squared, is no more than n, and that of it and the next larger is no less. A tie is to the even pattern.
pub record NearestModulus (f : Format) (n r : ℕ) : Type 0 where
  pub most : r ≤ infinite f
  pub above : 0 < r → UpTo r (square (twice_reach f (r - 1) r)) (4 * n)
  pub below : r < infinite f → UpTo r (4 * n) (square (twice_reach f r (r + 1)))

-- The same against every finite number: each smaller one, each larger one, and each negative one, which is minus the value of c.
pub record NearestOfFinite (f : Format) (n r : ℕ) : Type 0 where
  pub smaller : (c : ℕ) → c < r → UpTo r (square (twice_reach f c r)) (4 * n)
  pub larger : (c : ℕ) → r < c → c < infinite f → UpTo r (4 * n) (square (twice_reach f r c))
  pub negative : (c : ℕ) → square (reach_value f r - pattern_value f c) ≤ 4 * n

-- ---- the claim

-- `finite x` says that x is neither a NaN nor an infinity: a zero and a subnormal number are finite.
pub record ModulusNearest (f : Format) : Type 0 where
  -- infinity if either is infinite, whatever the other is; else NaN if either is
  pub of_infinity : (s : Bool) (y : Float) → hypot f (inf s) y ≡ inf false
  pub with_infinity : (s : Bool) (x : Float) → hypot f x (inf s) ≡ inf false
  pub of_nan : (y : Float) → T (not (is_inf y)) → hypot f nan y ≡ nan
  pub with_nan : (x : Float) → T (not (is_inf x)) → hypot f x nan ≡ nan
  -- two zeros of any signs give plus zero
  pub of-zeros : (s t : Bool) → hypot f (fin s 0 (pos 0)) (fin t 0 (pos 0)) ≡ fin false 0 (pos 0)
  -- all else gives the nearest value, which is plus infinity exactly from the edge on
  pub of_finite : (x y : Float) → T (finite x) → T (finite y) → NearestModulus f (sum_of_squares f x y) (to_bits f (hypot f x y))
  pub of-all : (x y : Float) → T (finite x) → T (finite y) → NearestOfFinite f (sum_of_squares f x y) (to_bits f (hypot f x y))
  pub overflows : (x y : Float) → T (finite x) → T (finite y) → square (twice_edge f) ≤ 4 * sum_of_squares f x y → hypot f x y ≡ inf false
  pub only_there : (x y : Float) → T (finite x) → T (finite y) → to_bits f (hypot f x y) ≡ infinite f → square (twice_edge f) ≤ 4 * sum_of_squares f x y
  pub in_format : (x y : Float) → T (fits f (hypot f x y))
  -- that is said of patterns, which mean what they should: a value is that of its own pattern, and the patterns are in the order of their values
  pub own_value : (x : Float) → T (fits f x) → pattern_value f (to_bits f x) ≡ amount f x
  pub own_reach : (b : ℕ) → b < infinite f → reach_value f b ≡ pattern_value f b
  pub in_order : (b c : ℕ) → b < c → c ≤ infinite f → reach_value f b < reach_value f c
