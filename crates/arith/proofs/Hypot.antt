-- The modulus by the tests that the code makes on the two numbers, over the format. Assumes nothing.
use mathlib.Core.Path.{◌≡◌, refl, sym, ap, ◌∙◌, subst}
use mathlib.Core.Bool.{Bool, true, false, not, ◌&&◌, ◌||◌, true≢false}
use Prim.Native.Nat.{ℕ, zero, suc, ◌+◌, ◌*◌, ◌%◌, ◌^◌, ◌<◌, ◌≤◌, min, max}
use native.Mathlib.Nat.{zero-lt-suc}
use native.Mathlib.Omega.{arith}
use native.Mathlib.Decide.{dec_lt}
use lib.Dec.{T, eqb, lt→ltb, eqb→eq}
use lib.IntN.{ℤ, pos, negsuc}
use lib.Pow.{pow_pos}
use lib.Ieee.{Float, nan, inf, fin, Format, binary64, is_nan, fits, of_bits, to_bits, up, down}
use lib.Ieee.Bits.{of_bits-to_bits}
use Rattle.std.specs.Float.{float_is_finite, float_is_infinite}
use Rattle.model.specs.Root.{amount}
use Rattle.model.specs.Arith.{abs, is_inf, modulus, four_squares, half_root, hypot}
use Rattle.laws.proofs.Values.{finite_below}

-- ---- by what the two are
is_infinite : (x : Float) → is_inf x ≡ float_is_infinite x
unfolding is_inf float_is_infinite
is_infinite nan = refl
is_infinite (inf s) = refl
is_infinite (fin s m e) = refl

pub hypot_infinite : (f : Format) (p q : Float) → (float_is_infinite p || float_is_infinite q) ≡ true → inf false ≡ hypot f p q
unfolding hypot
hypot_infinite f p q h = rw (is_infinite p, is_infinite q, h)

pub hypot_nan : (f : Format) (p q : Float) → (float_is_infinite p || float_is_infinite q) ≡ false → (float_is_finite p && float_is_finite q) ≡ false → nan ≡ hypot f p q
unfolding hypot is_inf is_nan float_is_infinite float_is_finite
hypot_nan f nan nan h k = refl
hypot_nan f nan (inf t) h k = absurd (true≢false h)
hypot_nan f nan (fin t n d) h k = refl
hypot_nan f (inf s) q h k = absurd (true≢false h)
hypot_nan f (fin s m e) nan h k = refl
hypot_nan f (fin s m e) (inf t) h k = absurd (true≢false h)
hypot_nan f (fin s m e) (fin t n d) h k = absurd (true≢false k)

finite : (x : Float) → float_is_finite x ≡ true → (is_inf x ≡ false) × (is_nan x ≡ false)
unfolding float_is_finite is_inf is_nan
finite nan h = absurd (true≢false (sym h))
finite (inf s) h = absurd (true≢false (sym h))
finite (fin s m d) h = (refl, refl)

-- ---- two finite numbers
pub hypot_finite : (f : Format) (p q : Float) → float_is_finite p ≡ true → float_is_finite q ≡ true → hypot f p q ≡ modulus f p q
unfolding hypot
hypot_finite f p q hp hq = let x = finite p hp in let y = finite q hq in rw (x.0, y.0, x.1, y.1)

pub fits-abs : (f : Format) (x : Float) → T (fits f x) → T (fits f (abs x))
unfolding abs fits
fits-abs f nan w = w
fits-abs f (inf s) w = w
fits-abs f (fin s zero e) w = w
fits-abs f (fin s (suc m) e) w = w

-- the modulus is that of the magnitudes, in either order
amount-abs : (f : Format) (x : Float) → amount f (abs x) ≡ amount f x
unfolding abs amount
amount-abs f nan = refl
amount-abs f (inf s) = refl
amount-abs f (fin s m e) = refl

modulus-abs : (f : Format) (p q : Float) → modulus f (abs p) (abs q) ≡ modulus f p q
unfolding modulus four_squares
modulus-abs f p q = rw (amount-abs f p, amount-abs f q)

modulus_swap : (f : Format) (p q : Float) → modulus f p q ≡ modulus f q p
unfolding modulus four_squares
modulus_swap f p q =
    let a = amount f p in
    let b = amount f q in
    let e : 4 * (a * a + b * b) ≡ 4 * (b * b + a * a) = omega arith in
    ap (half_root f) e

-- by the patterns of the magnitudes, the larger and the smaller
pub ordered :
    (f : Format) (p q : Float) {a b : ℕ} → T (fits f p) → T (fits f q) → a ≡ to_bits f (abs p) → b ≡ to_bits f (abs q) →
    modulus f (of_bits f (max a b)) (of_bits f (min a b)) ≡ modulus f p q
ordered f p q {a} {b} wp wq ea eb =
    let u : of_bits f a ≡ abs p = ap (of_bits f) ea ∙ of_bits-to_bits f (abs p) (fits-abs f p wp) in
    let v : of_bits f b ≡ abs q = ap (of_bits f) eb ∙ of_bits-to_bits f (abs q) (fits-abs f q wq) in
    elim (dec_lt a b) [
      | yes l ↦ (let g : max a b ≡ b = omega arith in let h : min a b ≡ a = omega arith in rw (g, h, u, v) (modulus_swap f (abs q) (abs p) ∙ modulus-abs f p q))
      | no l ↦ (let g : max a b ≡ a = omega arith in let h : min a b ≡ b = omega arith in rw (g, h, u, v) (modulus-abs f p q))
    ]

-- ---- the pattern of a magnitude
pub finite_no_nan : (x : Float) → float_is_finite x ≡ true → T (not (is_nan x))
finite_no_nan x h = subst (λ (b : Bool). T (not b)) (sym (finite x h).1) tt

-- a zero that fits is written in one way
zero-fits : (e : ℤ) → T (eqb (up e * down e) 1) → e ≡ pos 0
zero-fits (pos zero) h = refl
zero-fits (pos (suc k)) h = let q = eqb→eq (2 ^ suc k * 1) 1 h in absurd (omega (arith, pow_pos k))
zero-fits (negsuc k) h = let q = eqb→eq (1 * 2 ^ suc k) 1 h in absurd (omega (arith, pow_pos k))

-- without the weight of the sign
abbrev Unsigned : Float → Type 0
Unsigned x = (to_bits binary64 x % 0x8000_0000_0000_0000 ≡ to_bits binary64 (abs x)) × (to_bits binary64 x % 0x8000_0000_0000_0000 < 0x7ff0_0000_0000_0000)

pub unsigned : (x : Float) → T (fits binary64 x) → float_is_finite x ≡ true → Unsigned x
unfolding abs to_bits is_inf is_nan fits
unsigned nan w h = absurd (true≢false (finite nan h).1)
unsigned (inf s) w h = absurd (true≢false (finite (inf s) h).0)
unsigned (fin true zero e) w h = rw (zero-fits e w) (refl, omega arith)
unsigned (fin false zero e) w h = rw (zero-fits e w) (refl, omega arith)
unsigned (fin true (suc m) e) w h = let b = finite_below binary64 (fin false (suc m) e) w (lt→ltb 0 (suc m) (zero-lt-suc m)) in (omega (arith, b), omega (arith, b))
unsigned (fin false (suc m) e) w h = let b = finite_below binary64 (fin false (suc m) e) w (lt→ltb 0 (suc m) (zero-lt-suc m)) in (omega (arith, b), omega (arith, b))

-- of any number but a NaN it is that of the magnitude
pub unsigned_number : (x : Float) → T (fits binary64 x) → is_nan x ≡ false → (to_bits binary64 x % 0x8000_0000_0000_0000 ≡ to_bits binary64 (abs x)) × (to_bits binary64 x % 0x8000_0000_0000_0000 ≤ 0x7ff0_0000_0000_0000)
unfolding abs to_bits is_nan float_is_finite
unsigned_number nan w h = absurd (true≢false h)
unsigned_number (inf true) w h = (refl, omega arith)
unsigned_number (inf false) w h = (refl, omega arith)
unsigned_number (fin s m e) w h = let u = unsigned (fin s m e) w refl in (u.0, omega (arith, u.1))
