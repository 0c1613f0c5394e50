-- The root by the tests x < 0 and 0 < x: NaN where the first holds, a value above zero or plus infinity where the second does, and x itself where neither does. Assumes nothing.
use mathlib.Core.Path.{◌≡◌, refl}
use Prim.Native.Nat.{ℕ, zero, suc, ◌+◌, ◌*◌, ◌≤◌, ◌<◌}
use native.Mathlib.Nat.{zero-lt-suc, mul-pos}
use native.Mathlib.Omega.{arith}
use mathlib.Core.Bool.{true, false, not}
use lib.Dec.{T, ltb→lt, lt→ltb}
use lib.IntN.{ℤ, pos}
use lib.Ieee.{Float, nan, inf, fin, Format, binary32, binary64, up, down, fits, is_nan, lt, of_bits, to_bits}
use lib.Ieee.Fits.{up_pos, nan-fits, round-fits}
use Rattle.model.specs.Root.{sqrt}
use Rattle.laws.specs.RootNearest.{infinite}
use Rattle.laws.proofs.Values.{finite_below, bits_pos}

abbrev z : Float
z = fin false 0 (pos 0)

pub sqrt-below : (f : Format) (x : Float) → T (lt x z) → sqrt f x ≡ nan
unfolding sqrt lt
sqrt-below f nan h = refl
sqrt-below f (inf true) h = refl
sqrt-below f (inf false) h = absurd h
sqrt-below f (fin true zero e) h = let k = ltb→lt 0 (0 * up e * 1 + 0 * 1 * down e) h in absurd (omega arith)
sqrt-below f (fin true (suc m) e) h = refl
sqrt-below f (fin false m e) h = let k = ltb→lt (m * up e * 1) (0 * 1 * down e) h in absurd (omega arith)

-- the magnitude of what is not zero
some : (m : ℕ) (e : ℤ) → 0 < suc m * up e
some m e = mul-pos (zero-lt-suc m) (up_pos e)

pub sqrt_itself : (f : Format) (x : Float) → (T (lt x z) → ⊥) → (T (lt z x) → ⊥) → sqrt f x ≡ x
unfolding sqrt lt
sqrt_itself f nan h k = refl
sqrt_itself f (inf true) h k = absurd (h tt)
sqrt_itself f (inf false) h k = absurd (k tt)
sqrt_itself f (fin s zero e) h k = refl
sqrt_itself f (fin true (suc m) e) h k = absurd (h (lt→ltb 0 (suc m * up e * 1 + 0 * 1 * down e) (omega (arith, some m e))))
sqrt_itself f (fin false (suc m) e) h k = absurd (k (lt→ltb (0 * 1 * down e) (suc m * up e * 1) (omega (arith, some m e))))

-- ---- above zero
pub above_no_nan : (x : Float) → T (lt z x) → T (not (is_nan x))
unfolding lt is_nan
above_no_nan nan h = absurd h
above_no_nan (inf s) h = tt
above_no_nan (fin s m e) h = tt

zero-fails : (f : Format) → lt z (of_bits f 0) ≡ false
unfolding lt of_bits
zero-fails binary32 = refl
zero-fails binary64 = refl

pub above_bits : (f : Format) (x : Float) → T (fits f x) → T (lt z x) → 0 < to_bits f x
above_bits f = bits_pos f (lt z) (zero-fails f)

-- from the pattern of plus infinity on, it is plus infinity
pub sqrt-infinite : (f : Format) (x : Float) → T (fits f x) → T (lt z x) → infinite f ≤ to_bits f x → sqrt f x ≡ x
unfolding sqrt lt
sqrt-infinite f nan t h k = refl
sqrt-infinite f (inf true) t h k = absurd h
sqrt-infinite f (inf false) t h k = refl
sqrt-infinite f (fin s zero e) t h k = refl
sqrt-infinite f (fin true (suc m) e) t h k = absurd h
sqrt-infinite f (fin false (suc m) e) t h k = let b = finite_below f (fin false (suc m) e) t (lt→ltb 0 (suc m) (zero-lt-suc m)) in absurd (omega arith)

-- ---- every case
pub sqrt-fits : (f : Format) (x : Float) → T (fits f x) → T (fits f (sqrt f x))
unfolding sqrt
sqrt-fits f nan h = h
sqrt-fits f (inf true) h = nan-fits f
sqrt-fits f (inf false) h = h
sqrt-fits f (fin s zero e) h = h
sqrt-fits f (fin true (suc m) e) h = nan-fits f
sqrt-fits f (fin false (suc m) e) h = round-fits f false _ _
