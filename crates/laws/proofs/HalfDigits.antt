-- Every number has the digits of specs/HalfDigits.antt, which proofs/HalfRoot.antt shows to be those of half its root. Assumes nothing.
use mathlib.Core.Path.{◌≡◌, refl, sym, ap}
use mathlib.Core.Logic.{◌⊎◌, inl, inr}
use Prim.Native.Nat.{ℕ, suc, ◌+◌, ◌-◌, ◌*◌, ◌/◌, ◌%◌, ◌^◌, ◌≤◌, ◌<◌}
use native.Mathlib.Nat.{le_of_suc-le-suc, le_antisymm, lt_of_not-le, lt_of_lt_of_le, lt_irrefl, le_of_lt, le_of_eq, eq-or-lt_of_le, zero-lt-suc, mul-pos, eq-zero-or-pos, le-div_iff_mul-le, div-lt_iff_lt-mul}
use native.Mathlib.Omega.{arith}
use lib.Pow.{pow-add, pow_pos, pow_mono}
use lib.Ieee.{Format, prec, size}
use lib.Ieee.Digits.{size-lt, size_reaches}
use lib.Ieee.Fits.{two}
use lib.Ieee.Nearest.{closest}
use Rattle.laws.specs.RootNearest.{square}
use Rattle.laws.specs.HalfDigits.{HalfDigits}
use Rattle.laws.proofs.Halfway.{Near, closest_near}
use Rattle.laws.proofs.Patterns.{twice_hid}
use Rattle.laws.proofs.HalfRoot.{Twice, twice_root, twice_is, one_less}

pub record Digits (f : Format) (n : ℕ) : Type 0 where
  pub h : ℕ
  pub c : ℕ
  pub are : HalfDigits f n h c

-- ---- an even number is to n's root as it is to the number that stands for twice it
module _ (n N : ℕ) (t : Twice n N) where
  least-back : (a : ℕ) → 2 * a ≤ N → square a ≤ n
  least-back a l = le_of_suc-le-suc (lt_of_not-le (λ (g : suc n ≤ square a). lt_irrefl N (lt_of_lt_of_le (t.less a g) l)))

  less_back : (a : ℕ) → N < 2 * a → n < square a
  less_back a l = lt_of_not-le (λ (g : square a ≤ n). lt_irrefl N (lt_of_lt_of_le l (t.least a g)))

  exact-back : (a : ℕ) → square a ≡ n → N ≡ 2 * a
  exact-back a e = le_antisymm (t.most a (le_of_eq (sym e))) (t.least a (le_of_eq e))

  most-back : (a : ℕ) → N ≤ 2 * a → n ≤ square a
  most-back a l = go (eq-or-lt_of_le l)
    where
      go : (N ≡ 2 * a) ⊎ (N < 2 * a) → n ≤ square a
      go (inl e) = le_of_eq (sym (t.exact a e))
      go (inr g) = le_of_lt (less_back a g)

-- ---- the digits
module _ (f : Format) (n N h c : ℕ) (t : Twice n N) (many : size (N / 4) - prec f ≡ h) (near : Near N (4 * 2 ^ h) c) where
  lead : 0 < h → square (2 ^ prec f * 2 ^ h) ≤ n
  lead z =
      let x : 2 ^ (prec f - 1) * 2 ^ h ≤ N / 4 = rw (pow-add 2 (prec f - 1) h) at (size_reaches (N / 4) (prec f - 1 + h) (omega (arith, two f))) in
      let y = (le-div_iff_mul-le (zero-lt-suc 3)).0 x in
      least-back n N t (2 ^ prec f * 2 ^ h) (omega (arith, ap (λ (x : ℕ). x * 2 ^ h) (twice_hid f)))

  short : n < square (2 * 2 ^ prec f * 2 ^ h)
  short =
      let x : N / 4 < 2 ^ prec f * 2 ^ h = rw (pow-add 2 (prec f) h) at (lt_of_lt_of_le (size-lt (N / 4)) (pow_mono {j = prec f + h} (omega arith))) in
      let y = (div-lt_iff_lt-mul (zero-lt-suc 3)).0 x in
      less_back n N t (2 * 2 ^ prec f * 2 ^ h) (omega arith)

  from : (c ≡ 0) ⊎ (0 < c) → square ((2 * c - 1) * 2 ^ h) ≤ n
  from (inl e) = rw e (omega arith)
  from (inr p) = least-back n N t ((2 * c - 1) * 2 ^ h) (omega (arith, near.lo, one_less c (2 ^ h) p))

  to : n ≤ square ((2 * c + 1) * 2 ^ h)
  to = most-back n N t ((2 * c + 1) * 2 ^ h) (omega (arith, near.hi))

  even_from : (c ≡ 0) ⊎ (0 < c) → square ((2 * c - 1) * 2 ^ h) ≡ n → c % 2 ≡ 0
  even_from (inl z) e = omega arith
  even_from (inr p) e = near.even_lo (omega (arith, exact-back n N t ((2 * c - 1) * 2 ^ h) e, one_less c (2 ^ h) p))

  even_to : n ≡ square ((2 * c + 1) * 2 ^ h) → c % 2 ≡ 0
  even_to e = near.even_hi (omega (arith, exact-back n N t ((2 * c + 1) * 2 ^ h) (sym e)))

  digits : HalfDigits f n h c
  digits = record { lead = lead; short = short; from = from (eq-zero-or-pos c); to = to; even_from = even_from (eq-zero-or-pos c); even_to = even_to }

pub half_digits : (f : Format) (n : ℕ) → Digits f n
half_digits f n =
    let N = twice_root n in
    let h = size (N / 4) - prec f in
    let c = closest N (4 * 2 ^ h) in
    record { h = h; c = c; are = digits f n N h c (twice_is n) refl (closest_near N (4 * 2 ^ h) (mul-pos (zero-lt-suc 3) (pow_pos h))) }
