-- The whole number nearest to a fraction, and how `round` treats R + 1/2 smallest values, where R has more digits than the format keeps. Assumes nothing.
use mathlib.Core.Path.{◌≡◌, ap, ◌∙◌}
use Prim.Native.Nat.{ℕ, suc, ◌+◌, ◌-◌, ◌*◌, ◌/◌, ◌%◌, ◌^◌, ◌≤◌, ◌<◌, compare, Ordering}
use native.Mathlib.Nat.{le_antisymm, le_of_suc-le-suc, lt_of_not-le, zero-lt-suc, mul-pos, mul-le-mul_right, lt_of_mul-lt-mul_right, div-add-mod', div-mul-le_self, lt-div-mul-add, mod-lt, mul-div-mul_right, pow-succ'}
use native.Mathlib.Omega.{arith}
use mathlib.Core.Bool.{not, false}
use lib.Dec.{T, is_le, compare_is_eq, leb→le, nleb→lt, eqb→eq}
use lib.Arith.{lt_of_le-ne}
use lib.Pow.{pow_pos}
use lib.Ieee.{Format, prec, low, size, nearest, units, round}
use lib.Ieee.Fits.{round_is, eq→eqb}
use lib.Ieee.Nearest.{closest, closest_same}
use Rattle.laws.proofs.Digits.{size-of}

-- ---- the whole number nearest to a / b
-- a / b lies no more than a half from c, and at a half c is even
pub record Near (a b c : ℕ) : Type 0 where
  pub hi : 2 * a ≤ (2 * c + 1) * b
  pub lo : 2 * c * b ≤ 2 * a + b
  pub even_hi : 2 * a ≡ (2 * c + 1) * b → c % 2 ≡ 0
  pub even_lo : 2 * c * b ≡ 2 * a + b → c % 2 ≡ 0

pub closest_near : (a b : ℕ) → 0 < b → Near a b (closest a b)
closest_near a b B =
    go (a / b) (a % b) (div-add-mod' a b) (mod-lt a B) (compare (a % b * 2) b) (leb→le (a % b * 2) b) (nleb→lt (a % b * 2) b) (eqb→eq (a % b * 2) b) eq→eqb
  where
    go : (q r : ℕ) → q * b + r ≡ a → r < b → (o : Ordering) → (T (is_le o) → r * 2 ≤ b) → (T (not (is_le o)) → b < r * 2) → (T (compare_is_eq o) → r * 2 ≡ b) → (r * 2 ≡ b → T (compare_is_eq o)) → Near a b (nearest q o)
    go q r e s Ordering.lt l g z i =
        let t = lt_of_le-ne (l tt) i in
        record { hi = omega arith; lo = omega arith; even_hi = λ x. absurd (omega arith); even_lo = λ x. absurd (omega arith) }
    go q r e s Ordering.eq l g z i =
        let t = z tt in
        let c = q + q % 2 in
        let x : q * b ≤ c * b = mul-le-mul_right b (omega arith) in
        let y : c * b ≤ (q + 1) * b = mul-le-mul_right b (omega arith) in
        record { hi = omega arith; lo = omega arith; even_hi = λ x. omega arith; even_lo = λ x. omega arith }
    go q r e s Ordering.gt l g z i =
        let t = g tt in
        record { hi = omega arith; lo = omega arith; even_hi = λ x. absurd (omega arith); even_lo = λ x. absurd (omega arith) }

-- only one number is so
near_le : (a b c d : ℕ) → 0 < b → Near a b c → Near a b d → d ≤ c
near_le a b c d B m n = le_of_suc-le-suc (lt_of_not-le next)
  where
    next : suc c ≤ d → ⊥
    next g =
        let x : 2 * d < 2 * c + 3 = lt_of_mul-lt-mul_right b (omega (arith, m.hi, n.lo)) in
        let e : d ≡ c + 1 = omega arith in
        let y : d * b ≡ (c + 1) * b = ap (λ (z : ℕ). z * b) e in
        omega (arith, m.even_hi (omega (arith, m.hi, n.lo)), n.even_lo (omega (arith, m.hi, n.lo)))

pub closest_is : (a b c : ℕ) → 0 < b → Near a b c → closest a b ≡ c
closest_is a b c B n = let m = closest_near a b B in le_antisymm (near_le a b c (closest a b) B n m) (near_le a b (closest a b) c B m n)

-- with w = 2 ^ h and Q = R / w, which is R without its last h digits: (R + 1/2) / 2w is nearest to half of Q, rounded up
halfway : (R w : ℕ) → 0 < w → closest (2 * R + 1) (4 * w) ≡ (R / w + 1) / 2
halfway R w W =
    let Q = R / w in
    let c = (Q + 1) / 2 in
    let lo = div-mul-le_self R w in
    let hi = lt-div-mul-add {a = R} W in
    let x : Q * w ≤ 2 * c * w = mul-le-mul_right w (omega arith) in
    let y : 2 * c * w ≤ (Q + 1) * w = mul-le-mul_right w (omega arith) in
    closest_is (2 * R + 1) (4 * w) c (omega arith) (record { hi = omega arith; lo = omega arith; even_hi = λ e. absurd (omega arith); even_lo = λ e. absurd (omega arith) })

-- ---- num / d smallest values, where k digits are too many
pub round-at : (f : Format) (num d k : ℕ) → 0 < d → size (num / d) - prec f ≡ k → round f false num (d * 2 ^ low f) ≡ units f false (closest num (d * 2 ^ k)) k
round-at f num d k D z =
    let L = 2 ^ low f in
    let n = num * L in
    let e : size (n / (d * L)) - prec f ≡ k = ap (λ (x : ℕ). size x - prec f) (mul-div-mul_right num d (pow_pos (low f))) ∙ z in
    round_is f false num (d * L)
    ∙ ap (λ (x : ℕ). units f false (closest n (d * L * 2 ^ x)) x) e
    ∙ ap (λ (x : ℕ). units f false x k) (closest_same n (d * L * 2 ^ k) num (d * 2 ^ k) (mul-pos (mul-pos D (pow_pos (low f))) (pow_pos k)) (mul-pos D (pow_pos k)) (omega arith))

-- ---- R + 1/2 smallest values
pub round_halfway : (f : Format) (R h : ℕ) → 2 ^ prec f ≤ R / 2 ^ h → R / 2 ^ h < 2 ^ suc (prec f)
    → round f false (2 * R + 1) (2 * 2 ^ low f) ≡ units f false ((R / 2 ^ h + 1) / 2) (suc h)
round_halfway f R h lo hi =
    let whole : (2 * R + 1) / 2 ≡ R = omega arith in
    let k : size ((2 * R + 1) / 2) - prec f ≡ suc h = ap (λ (x : ℕ). size x - prec f) whole ∙ ap (λ (x : ℕ). x - prec f) (size-of (prec f) h R lo hi) ∙ omega arith in
    let u : 2 * 2 ^ suc h ≡ 4 * 2 ^ h = rw (pow-succ' 2 h) (omega arith) in
    round-at f (2 * R + 1) 2 (suc h) (zero-lt-suc 1) k ∙ ap (λ (x : ℕ). units f false x (suc h)) (ap (closest (2 * R + 1)) u ∙ halfway R (2 ^ h) (pow_pos h))
