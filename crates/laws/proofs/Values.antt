-- A value that fits, and its own pattern. Assumes nothing.
use mathlib.Core.Path.{◌≡◌, refl, sym, ap, ◌∙◌, subst}
use mathlib.Core.Logic.{◌⊎◌, inl, inr}
use Prim.Native.Nat.{ℕ, zero, suc, ◌+◌, ◌-◌, ◌*◌, ◌/◌, ◌%◌, ◌^◌, ◌≤◌, ◌<◌}
use native.Mathlib.Nat.{mul-le-mul_right, mul-lt-mul_of_pos_right, div-lt_iff_lt-mul, eq-zero-or-pos}
use native.Mathlib.Omega.{arith}
use mathlib.Core.Bool.{Bool, true, false, ◌&&◌}
use lib.IntN.{ℤ}
use lib.Dec.{T, eqb, ltb, leb, ltb→lt}
use lib.Pow.{pow-add, pow_pos}
use lib.Ieee.{Float, nan, inf, fin, Format, binary32, binary64, prec, emax, low, up, down, size, fits, hid, of_bits, to_bits}
use lib.Ieee.Digits.{size-le}
use lib.Ieee.Fits.{two, reach, kept-lt, and_r, down_pos}
use lib.Ieee.Bits.{of_bits-to_bits}
use lib.Ieee.Scale.{overflow}
use lib.Ieee.Positive.{positive}
use Rattle.model.specs.Root.{amount}
use Rattle.laws.specs.RootNearest.{pattern_value, infinite}
use Rattle.laws.proofs.Patterns.{to_bits_amount, in_order, twice_hid}

pub own_value : (f : Format) (x : Float) → T (fits f x) → pattern_value f (to_bits f x) ≡ amount f x
unfolding pattern_value
own_value f x h = ap (amount f) (of_bits-to_bits f x h)

-- what is finite and above zero is a `fin` with the sign clear and an m above 0
pub positive_form : (P : Float → Type 0) → ((m : ℕ) (e : ℤ) → P (fin false (suc m) e)) → (x : Float) → T (positive x) → P x
positive_form P k nan p = absurd p
positive_form P k (inf s) p = absurd p
positive_form P k (fin true m e) p = absurd p
positive_form P k (fin false zero e) p = absurd p
positive_form P k (fin false (suc m) e) p = k m e

-- what fits is below 2 ^ (emax + 1), which is `overflow` smallest values
under : (f : Format) (m : ℕ) (e : ℤ) → T (fits f (fin false (suc m) e)) → amount f (fin false (suc m) e) < overflow f
unfolding fits amount
under f m e h =
    let rest = eqb (suc m % 2) 1 && ltb (suc m) (2 ^ prec f) && leb (down e) (2 ^ low f) in
    let u = ltb→lt (suc m * up e) (2 ^ suc (emax f) * down e) (and_r rest (ltb (suc m * up e) (2 ^ suc (emax f) * down e)) h) in
    let v = mul-lt-mul_of_pos_right u (pow_pos (low f)) in
    (div-lt_iff_lt-mul (down_pos e)).1 (rw (pow-add 2 (low f) (suc (emax f))) (omega arith))

pub amount_under : (f : Format) (x : Float) → T (fits f x) → T (positive x) → amount f x < overflow f
amount_under f x h p = positive_form (λ (y : Float). T (fits f y) → amount f y < overflow f) (under f) x p h

-- so its pattern is below that of plus infinity
below : (f : Format) (m : ℕ) (e : ℤ) → T (fits f (fin false (suc m) e)) → to_bits f (fin false (suc m) e) < infinite f
below f m e h =
    let a = amount f (fin false (suc m) e) in
    let k = size a - prec f in
    let s = size-le a (low f + suc (emax f)) (under f m e h) in
    let y : a / 2 ^ k < 2 ^ prec f = kept-lt (prec f) a in
    let t = twice_hid f in
    let p = two f in
    let r = reach f in
    let w : (k + 2) * hid f ≤ infinite f = mul-le-mul_right (hid f) (omega arith) in
    rw (to_bits_amount f (suc m) e) (omega arith)

pub finite_below : (f : Format) (x : Float) → T (fits f x) → T (positive x) → to_bits f x < infinite f
finite_below f x h p = positive_form (λ (y : Float). T (fits f y) → to_bits f y < infinite f) (below f) x p h

-- a test that +0 fails is passed only by values of other patterns
pub bits_pos : (f : Format) (test : Float → Bool) → test (of_bits f 0) ≡ false → (x : Float) → T (fits f x) → T (test x) → 0 < to_bits f x
bits_pos f test z x h t = go (eq-zero-or-pos (to_bits f x))
  where
    go : (to_bits f x ≡ 0) ⊎ (0 < to_bits f x) → 0 < to_bits f x
    go (inl e) = absurd (subst T (ap test (sym (of_bits-to_bits f x h) ∙ ap (of_bits f) e) ∙ z) t)
    go (inr p) = p

zero-fails : (f : Format) → positive (of_bits f 0) ≡ false
unfolding of_bits
zero-fails binary32 = refl
zero-fails binary64 = refl

pub amount_pos : (f : Format) (x : Float) → T (fits f x) → T (positive x) → 0 < amount f x
amount_pos f x h p = let g = in_order f 0 (to_bits f x) (bits_pos f positive (zero-fails f) x h p) (finite_below f x h p) in omega (arith, own_value f x h)
