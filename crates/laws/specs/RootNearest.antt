-- What is claimed of the square root, for either format: it is IEEE 754's, and what "nearest" means is said over whole numbers. `root_nearest` of proofs/RootNearest.antt proves it. Assumes nothing.
use Rattle.std.specs.Prelude.{◌≡◌, ℕ, ◌+◌, ◌-◌, ◌*◌, ◌^◌, ◌≤◌, ◌<◌, Bool, false, pos, T, Float}
use Rattle.std.specs.Float.{nan, inf, fin, Format}
use Rattle.std.specs.Float.Ieee.{low, lt, fits, hid, ones, of_bits, to_bits}
use Rattle.std.specs.Float.Ieee.Positive.{positive}
use Rattle.model.specs.Root.{amount, sqrt}

-- r is the whole part of the root of n
abbrev pub IsRoot : ℕ → ℕ → Type 0
IsRoot n r = (r * r ≤ n) × (n < (r + 1) * (r + 1))

abbrev pub square : ℕ → ℕ
square n = n * n

-- ---- patterns

-- the pattern of plus infinity: those below it are of the finite values that are not negative
abbrev pub infinite : Format → ℕ
infinite f = ones f * hid f

-- the magnitude that the pattern b stands for, counted in the format's smallest values
unfoldable pub pattern_value : Format → ℕ → ℕ
unfolding amount
pattern_value f b = amount f (of_bits f b)

-- the same, counted in squares of the smallest value: a smallest value is 2 ^ low of them
abbrev pub in_squares : Format → ℕ → ℕ
in_squares f b = pattern_value f b * 2 ^ low f

-- ---- nearest

-- twice the middle of what two patterns stand for
abbrev pub twice_middle : Format → ℕ → ℕ → ℕ
twice_middle f b c = pattern_value f b + pattern_value f c

-- The number of pattern r is nearest to the root of that of pattern b: the middle of it and the next smaller, squared, is below the argument, and that of it and the next larger is above.
pub record NearestRoot (f : Format) (b r : ℕ) : Type 0 where
  pub least : 0 < r
  pub most : r + 1 < infinite f
  pub above : square (twice_middle f (r - 1) r) < 4 * in_squares f b
  pub below : 4 * in_squares f b < square (twice_middle f r (r + 1))

-- The same against every other finite number: each smaller one, each larger one, and each negative one, which is minus the value of c.
pub record NearestOfAll (f : Format) (b r : ℕ) : Type 0 where
  pub smaller : (c : ℕ) → c < r → square (twice_middle f c r) < 4 * in_squares f b
  pub larger : (c : ℕ) → r < c → c < infinite f → 4 * in_squares f b < square (twice_middle f r c)
  pub negative : (c : ℕ) → square (pattern_value f r - pattern_value f c) < 4 * in_squares f b

-- ---- the claim

-- `fits f x` says that x is a value of the format, and `positive x` that it is finite and above zero: a subnormal number is both.
pub record RootNearest (f : Format) : Type 0 where
  -- a NaN or a number below zero, minus infinity among them, gives NaN; both zeros and plus infinity give themselves
  pub of_nan : sqrt f nan ≡ nan
  pub of-below : (x : Float) → T (lt x (fin false 0 (pos 0))) → sqrt f x ≡ nan
  pub of_zero : (s : Bool) → sqrt f (fin s 0 (pos 0)) ≡ fin s 0 (pos 0)
  pub of_infinity : sqrt f (inf false) ≡ inf false
  -- all else gives the nearest value, which is finite and above zero
  pub of_positive : (x : Float) → T (fits f x) → T (positive x) → NearestRoot f (to_bits f x) (to_bits f (sqrt f x))
  pub of-all : (x : Float) → T (fits f x) → T (positive x) → NearestOfAll f (to_bits f x) (to_bits f (sqrt f x))
  pub stays_positive : (x : Float) → T (fits f x) → T (positive x) → T (positive (sqrt f x))
  pub in_format : (x : Float) → T (fits f x) → T (fits f (sqrt f x))
  -- that is said of patterns, which mean what they should: a value is that of its own pattern, and the patterns are in the order of their values
  pub own_value : (x : Float) → T (fits f x) → pattern_value f (to_bits f x) ≡ amount f x
  pub finite_below : (x : Float) → T (fits f x) → T (positive x) → to_bits f x < infinite f
  pub in_order : (b c : ℕ) → b < c → c < infinite f → pattern_value f b < pattern_value f c
