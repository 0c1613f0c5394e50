-- The pattern of a modulus from the digits of the two numbers and of half the root. Assumes nothing.
use mathlib.Core.Path.{◌≡◌, refl, sym, ap, ◌∙◌, subst}
use mathlib.Core.Logic.{◌⊎◌, inl, inr}
use mathlib.Core.Bool.{not, false}
use Prim.Native.Nat.{ℕ, ◌+◌, ◌-◌, ◌*◌, ◌^◌, ◌≤◌, ◌<◌}
use native.Mathlib.Nat.{eq-zero-or-pos}
use native.Mathlib.Omega.{arith}
use lib.Dec.{T}
use lib.Ieee.{inf, binary64, of_bits, nan_bits}
use Rattle.model.specs.Arith.{modulus, four_squares, half_root}
use Rattle.laws.specs.RootNearest.{square, pattern_value}
use Rattle.laws.specs.HalfDigits.{HalfDigits}
use Rattle.laws.proofs.Patterns.{at, pattern-value}
use Rattle.laws.proofs.HalfRoot.{half_root_bits, half_root-infinite, half_short}
use Rattle.laws.proofs.Cut.{exact_digits, gap_digits}
use Rattle.digits.specs.Digits.{Significand}
use Rattle.std.proofs.lemmas.Float.{not_nan_f64_bits}
use Rattle.modulus.specs.Modulus.{four_sums}

-- what the code promises of its answer
abbrev pub IsModulus : ℕ → ℕ → ℕ → Type 0
IsModulus a b r = (of_bits binary64 r ≡ modulus binary64 (of_bits binary64 a) (of_bits binary64 b)) × T (not (nan_bits binary64 r))

-- by the values of the patterns
modulus-is : (a b x y : ℕ) → pattern_value binary64 a ≡ x → pattern_value binary64 b ≡ y → modulus binary64 (of_bits binary64 a) (of_bits binary64 b) ≡ half_root binary64 (4 * (square x + square y))
unfolding modulus four_squares pattern_value
modulus-is a b x y ea eb = rw (ea, eb)

-- digits c with h zeros after them, as a pattern
by_digits : (a b n h c : ℕ) → modulus binary64 (of_bits binary64 a) (of_bits binary64 b) ≡ half_root binary64 n → HalfDigits binary64 n h c → h * 2 ^ 52 + c < 0x7ff0_0000_0000_0000 → IsModulus a b (h * 2 ^ 52 + c)
by_digits a b n h c e d i = (half_root_bits binary64 n h c d i ∙ sym e, not_nan_f64_bits (h * 2 ^ 52 + c) (omega arith))

infinite_bits : of_bits binary64 0x7ff0_0000_0000_0000 ≡ inf false
unfolding of_bits
infinite_bits = refl

past_largest : (a b n h c : ℕ) → modulus binary64 (of_bits binary64 a) (of_bits binary64 b) ≡ half_root binary64 n → HalfDigits binary64 n h c → 0x7ff0_0000_0000_0000 ≤ h * 2 ^ 52 + c → IsModulus a b 0x7ff0_0000_0000_0000
past_largest a b n h c e d i = (infinite_bits ∙ sym (half_root-infinite binary64 n h c d i) ∙ sym e, not_nan_f64_bits 0x7ff0_0000_0000_0000 (omega arith))

-- ---- where the smaller is zero
pub with_zero : (a : ℕ) → a < 0x7ff0_0000_0000_0000 → IsModulus a 0 a
with_zero a h =
    let t = at binary64 a in
    let q = t.q in
    let k = t.k in
    let v : pattern_value binary64 a ≡ q * 2 ^ k = subst (λ (z : ℕ). pattern_value binary64 z ≡ q * 2 ^ k) t.is (pattern-value binary64 q k (record { lead = t.lead; short = omega (arith, t.short); inside = omega (arith, t.is) })) in
    let o : pattern_value binary64 0 ≡ 0 = pattern-value binary64 0 0 (record { lead = λ z. absurd (omega arith); short = omega arith; inside = omega arith }) in
    let n : 4 * (square (q * 2 ^ k) + square 0) ≡ 4 * square (q * 2 ^ k) = omega arith in
    subst (λ (z : ℕ). IsModulus a 0 z) t.is
    (by_digits a 0 (4 * square (q * 2 ^ k)) k q (modulus-is a 0 (q * 2 ^ k) 0 v o ∙ ap (half_root binary64) n) (exact_digits binary64 q k t.lead t.short) (omega (arith, t.is)))

-- ---- from the digits of the two numbers
module _ {a b x y i j : ℕ} (p : Significand a x i) (q : Significand b y j) (order : b ≤ a) where
  pub no_more : j ≤ i
  no_more = go (eq-zero-or-pos j)
    where
      go : (j ≡ 0) ⊎ (0 < j) → j ≤ i
      go (inl e) = omega (arith, e)
      go (inr l) = omega (arith, p.pattern, q.pattern, p.short, q.lead l)

  again : j + (i - j) ≡ i
  again = omega (arith, no_more)

  pub value : modulus binary64 (of_bits binary64 a) (of_bits binary64 b) ≡ half_root binary64 (four_sums x y j (i - j))
  value = modulus-is a b (x * 2 ^ (j + (i - j))) (y * 2 ^ j) (p.is ∙ ap (λ (z : ℕ). x * 2 ^ z) (sym again)) q.is

  -- the larger is the answer
  pub larger : a < 0x7ff0_0000_0000_0000 → 27 ≤ i - j → IsModulus a b a
  larger h g =
      let d = gap_digits x y j (i - j) binary64 (p.lead (omega arith)) p.short q.short (omega arith) in
      subst (λ (z : ℕ). IsModulus a b z) p.pattern
      (by_digits a b (four_sums x y j (i - j)) i x value (subst (λ (z : ℕ). HalfDigits binary64 (four_sums x y j (i - j)) z x) again d) (omega (arith, p.pattern)))

  -- both are subnormal
  module _ (short : x < 2 ^ 52) where
    none : i ≡ 0
    none = go (eq-zero-or-pos i)
      where
        go : (i ≡ 0) ⊎ (0 < i) → i ≡ 0
        go (inl e) = e
        go (inr l) = absurd (omega (arith, p.lead l))

    pub subnormal : (c : ℕ) → HalfDigits binary64 (four_sums x y 0 0) 0 c → IsModulus a b c
    subnormal c d =
        let e : four_sums x y j (i - j) ≡ four_sums x y 0 0 = let u : j ≡ 0 = omega (arith, none, no_more) in let v : i - j ≡ 0 = omega (arith, none) in rw (v, u) in
        let z : 0 * 2 ^ 52 + c ≡ c = omega arith in
        subst (IsModulus a b) z (by_digits a b (four_sums x y 0 0) 0 c (value ∙ ap (half_root binary64) e) d (omega (arith, half_short binary64 (four_sums x y 0 0) 0 c d)))

  -- the larger has all its digits
  module _ (c more : ℕ) (all : (k : ℕ) → HalfDigits binary64 (four_sums x y k (i - j)) (k + (i - j) + more) c) where
    here : HalfDigits binary64 (four_sums x y j (i - j)) (i + more) c
    here = subst (λ (z : ℕ). HalfDigits binary64 (four_sums x y j (i - j)) (z + more) c) again (all j)

    pub few : c ≤ 2 ^ 53
    few = half_short binary64 (four_sums x y j (i - j)) (i + more) c here

    pub normal : (i + more) * 2 ^ 52 + c < 0x7ff0_0000_0000_0000 → IsModulus a b ((i + more) * 2 ^ 52 + c)
    normal h = by_digits a b (four_sums x y j (i - j)) (i + more) c value here h

    pub overflows : 0x7ff0_0000_0000_0000 ≤ (i + more) * 2 ^ 52 + c → IsModulus a b 0x7ff0_0000_0000_0000
    overflows h = past_largest a b (four_sums x y j (i - j)) (i + more) c value here h
