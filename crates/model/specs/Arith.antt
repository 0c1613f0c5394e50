-- Document 01's arithmetic over a format: constants, magnitudes, fmax and fmin, the modulus, the norm and the inner product. Definitions only. Assumes nothing.
use Rattle.std.specs.Prelude.{ℕ, zero, suc, ◌+◌, ◌*◌, ◌^◌, Bool, true, false, ◌||◌, cond, List, [], ◌∷◌, eqb, Float}
use Rattle.std.specs.Float.{nan, inf, fin, Format, binary32, binary64}
use Rattle.std.specs.Float.Ieee.{low, add, mul, div, lt, is_nan, round, of_bits}
use Rattle.model.specs.Root.{root, amount}

-- ---- constants, by their patterns

abbrev pub zero_of : Format → Float
zero_of f = of_bits f 0

abbrev pub one_of : Format → Float
one_of binary32 = of_bits binary32 0x3f80_0000
one_of binary64 = of_bits binary64 0x3ff0_0000_0000_0000

abbrev pub two_of : Format → Float
two_of binary32 = of_bits binary32 0x4000_0000
two_of binary64 = of_bits binary64 0x4000_0000_0000_0000

-- one half
abbrev pub half_of : Format → Float
half_of binary32 = of_bits binary32 0x3f00_0000
half_of binary64 = of_bits binary64 0x3fe0_0000_0000_0000

abbrev pub four_of : Format → Float
four_of binary32 = of_bits binary32 0x4080_0000
four_of binary64 = of_bits binary64 0x4010_0000_0000_0000

abbrev pub eight_of : Format → Float
eight_of binary32 = of_bits binary32 0x4100_0000
eight_of binary64 = of_bits binary64 0x4020_0000_0000_0000

-- one eighth
abbrev pub eighth_of : Format → Float
eighth_of binary32 = of_bits binary32 0x3e00_0000
eighth_of binary64 = of_bits binary64 0x3fc0_0000_0000_0000

abbrev pub ten_of : Format → Float
ten_of binary32 = of_bits binary32 0x4120_0000
ten_of binary64 = of_bits binary64 0x4024_0000_0000_0000

abbrev pub infinity_of : Format → Float
infinity_of binary32 = of_bits binary32 0x7f80_0000
infinity_of binary64 = of_bits binary64 0x7ff0_0000_0000_0000

-- 2 ^ -23 and 2 ^ -52
abbrev pub eps_of : Format → Float
eps_of binary32 = of_bits binary32 0x3400_0000
eps_of binary64 = of_bits binary64 0x3cb0_0000_0000_0000

-- 2 ^ -126 and 2 ^ -1022
abbrev pub min_positive_of : Format → Float
min_positive_of binary32 = of_bits binary32 0x0080_0000
min_positive_of binary64 = of_bits binary64 0x0010_0000_0000_0000

-- ---- one number

unfoldable pub abs : Float → Float
abs nan = nan
abs (inf s) = inf false
abs (fin s m e) = fin false m e

abbrev pub abs1 : Float → Float
abs1 x = abs x

abbrev pub abs2 : Format → Float → Float
abs2 f x = mul f x x

abbrev pub recip : Format → Float → Float
recip f x = div f (one_of f) x

abbrev pub mul_pow2 : Format → Float → Float → Float
mul_pow2 f x p = mul f x p

-- ---- two numbers

-- p where p > q or q is a NaN, else q
unfoldable pub fmax : Float → Float → Float
fmax p q = cond (lt q p || is_nan q) p q

-- the same with <
unfoldable pub fmin : Float → Float → Float
fmin p q = cond (lt p q || is_nan q) p q

-- ---- the modulus

-- Half the root of n smallest values, rounded to the nearest, ties to even.
-- With R the whole part of the root, R is the root itself, or the root lies between R and R + 1, as R + 1/2 does. Twice the middle of two neighbours is a whole number of smallest values: none lies
-- strictly between R and R + 1. So the root is rounded as the one or the other, half of it as half of that.
unfoldable pub half_root : Format → ℕ → Float
unfolding root round
half_root f n = let R = root n in round f false (cond (eqb (R * R) n) (2 * R) (2 * R + 1)) (4 * 2 ^ low f)

-- four times the sum of the squares of two finite values, in squares of the smallest value
unfoldable pub four_squares : Format → Float → Float → ℕ
unfolding amount
four_squares f p q = 4 * (amount f p * amount f p + amount f q * amount f q)

-- the modulus of two finite values: the value nearest to the root of p * p + q * q, which is half the root of four times that; an infinity from the middle of the largest value and the next power of two on
unfoldable pub modulus : Format → Float → Float → Float
unfolding half_root four_squares
modulus f p q = half_root f (four_squares f p q)

unfoldable pub is_inf : Float → Bool
is_inf nan = false
is_inf (inf s) = true
is_inf (fin s m e) = false

-- infinity if either is infinite; else NaN if either is; else the nearest value
unfoldable pub hypot : Format → Float → Float → Float
unfolding is_inf
hypot f p q = cond (is_inf p || is_inf q) (inf false) (cond (is_nan p || is_nan q) nan (modulus f p q))

-- ---- lists of numbers

-- hypot of a with each number in turn
unfoldable pub norm_from : Format → Float → List Float → Float
unfolding hypot
norm_from f a [] = a
norm_from f a (x ∷ xs) = norm_from f (hypot f a x) xs

-- the magnitude of the first, then hypot with each next; of nothing, +0
unfoldable pub norm_l2 : Format → List Float → Float
unfolding abs norm_from
norm_l2 f [] = zero_of f
norm_l2 f (x ∷ xs) = norm_from f (abs x) xs

-- a plus the products of the k pairs from place i on, left to right
unfoldable pub inner_from : Format → (ℕ → Float) → (ℕ → Float) → ℕ → ℕ → Float → Float
inner_from f x y zero i a = a
inner_from f x y (suc k) i a = inner_from f x y k (i + 1) (add f a (mul f (x i) (y i)))

-- the inner product of two rows of k numbers
unfoldable pub inner_prod : Format → (ℕ → Float) → (ℕ → Float) → ℕ → Float
unfolding inner_from
inner_prod f x y k = inner_from f x y k 0 (zero_of f)
