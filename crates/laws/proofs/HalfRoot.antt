-- What code that works a modulus out from its digits rests on, for either format: HalfDigits of specs/HalfDigits.antt gives the value nearest to half the root. Assumes nothing.
use mathlib.Core.Path.{◌≡◌, sym, ap, ◌∙◌}
use mathlib.Core.Logic.{◌⊎◌, inl, inr}
use Prim.Native.Nat.{ℕ, zero, suc, ◌+◌, ◌-◌, ◌*◌, ◌/◌, ◌%◌, ◌^◌, ◌≤◌, ◌<◌}
use native.Mathlib.Nat.{eq-zero-or-pos, le_refl, zero-lt-suc, mul-pos, lt_of_mul-lt-mul_right, le-div_iff_mul-le, div-lt_iff_lt-mul}
use native.Mathlib.Omega.{arith}
use mathlib.Core.Bool.{Bool, true, false, cond}
use lib.Dec.{T, eqb, eqb→eq}
use lib.Arith.{lt_of_le-ne}
use lib.Pow.{pow-add, pow_pos}
use lib.Ieee.{Format, inf, prec, size, units, hid, of_bits}
use lib.Ieee.Fits.{two, eq→eqb}
use Rattle.model.specs.Root.{root}
use Rattle.model.specs.Arith.{half_root}
use Rattle.laws.specs.RootNearest.{IsRoot, square, infinite}
use Rattle.laws.specs.HalfDigits.{HalfDigits}
use Rattle.laws.proofs.Digits.{too_many}
use Rattle.laws.proofs.WholeRoot.{root_is, le_root, root_lt}
use Rattle.laws.proofs.Halfway.{Near, closest_is, round-at}
use Rattle.laws.proofs.Patterns.{pattern, infinite_units, twice_hid}

-- ---- twice the root of n, or the odd number next to it where it is not whole
abbrev pub twice_root : ℕ → ℕ
twice_root n = cond (eqb (root n * root n) n) (2 * root n) (2 * root n + 1)

-- it is to an even number as twice the root is
pub record Twice (n t : ℕ) : Type 0 where
  pub least : (a : ℕ) → square a ≤ n → 2 * a ≤ t
  pub most : (a : ℕ) → n ≤ square a → t ≤ 2 * a
  pub less : (a : ℕ) → n < square a → t < 2 * a
  pub exact : (a : ℕ) → t ≡ 2 * a → square a ≡ n

pub twice_is : (n : ℕ) → Twice n (twice_root n)
twice_is n = go (eqb (R * R) n) (eqb→eq (R * R) n) eq→eqb
  where
    R : ℕ
    R = root n

    is : IsRoot n R
    is = root_is n

    go : (b : Bool) → (T b → R * R ≡ n) → (R * R ≡ n → T b) → Twice n (cond b (2 * R) (2 * R + 1))
    go true e i =
        record {
          least = λ a h. omega (arith, le_root n R is a h);
          most = λ a h. omega (arith, root_lt n R is (a + 1) (omega arith));
          less = λ a h. omega (arith, root_lt n R is a h);
          exact = λ a h. let s : a ≡ R = omega arith in ap square s ∙ e tt;
        }
    go false e i =
        let l : R * R < n = lt_of_le-ne is.0 i in
        record {
          least = λ a h. omega (arith, le_root n R is a h);
          most = λ a h. omega (arith, root_lt (R * R) R (le_refl (R * R), omega arith) a (omega arith));
          less = λ a h. omega (arith, root_lt n R is a h);
          exact = λ a h. absurd (omega arith);
        }

-- ---- the digits
pub one_less : (c w : ℕ) → 0 < c → (2 * c - 1) * w + w ≡ 2 * c * w
one_less zero w p = absurd (omega arith)
one_less (suc c) w p = let e : 2 * suc c - 1 ≡ 2 * c + 1 = omega arith in rw e (omega arith)

module _ (f : Format) (n h c N : ℕ) (t : Twice n N) (d : HalfDigits f n h c) where
  -- half the root of n smallest values, without its fraction, has h digits too many
  dropped : size (N / 4) - prec f ≡ h
  dropped =
      too_many (prec f) h (N / 4) (omega (arith, two f))
      (λ z. rw (pow-add 2 (prec f - 1) h) ((le-div_iff_mul-le (zero-lt-suc 3)).1 (omega (arith, t.least (2 ^ prec f * 2 ^ h) (d.lead z), ap (λ (x : ℕ). x * 2 ^ h) (twice_hid f)))))
      (rw (pow-add 2 (prec f) h) ((div-lt_iff_lt-mul (zero-lt-suc 3)).1 (omega (arith, t.less (2 * 2 ^ prec f * 2 ^ h) d.short))))

  near : Near N (4 * 2 ^ h) c
  near = record { hi = omega (arith, t.most b d.to); lo = lo (eq-zero-or-pos c); even_hi = λ e. d.even_to (sym (t.exact b (omega arith))); even_lo = even_lo (eq-zero-or-pos c) }
    where
      b : ℕ
      b = (2 * c + 1) * 2 ^ h

      lo : (c ≡ 0) ⊎ (0 < c) → 2 * c * (4 * 2 ^ h) ≤ 2 * N + 4 * 2 ^ h
      lo (inl e) = rw e (omega arith)
      lo (inr p) = omega (arith, t.least ((2 * c - 1) * 2 ^ h) d.from, one_less c (2 ^ h) p)

      even_lo : (c ≡ 0) ⊎ (0 < c) → 2 * c * (4 * 2 ^ h) ≡ 2 * N + 4 * 2 ^ h → c % 2 ≡ 0
      even_lo (inl e) z = omega arith
      even_lo (inr p) z = d.even_from (t.exact ((2 * c - 1) * 2 ^ h) (omega (arith, one_less c (2 ^ h) p)))

  leading : 0 < h → hid f ≤ c
  leading z =
      let x : 2 ^ prec f < 2 * c + 2 = lt_of_mul-lt-mul_right (2 ^ h) (omega (arith, t.least (2 ^ prec f * 2 ^ h) (d.lead z), t.most ((2 * c + 1) * 2 ^ h) d.to, pow_pos h)) in
      omega (arith, twice_hid f)

  few : c ≤ 2 ^ prec f
  few =
      let x : 2 * c - 1 < 2 * 2 ^ prec f = lt_of_mul-lt-mul_right (2 ^ h) (omega (arith, t.least ((2 * c - 1) * 2 ^ h) d.from, t.less (2 * 2 ^ prec f * 2 ^ h) d.short)) in
      omega arith

module _ (f : Format) (n h c : ℕ) (d : HalfDigits f n h c) where
  pub half_lead : 0 < h → hid f ≤ c
  half_lead = leading f n h c (twice_root n) (twice_is n) d

  pub half_short : c ≤ 2 ^ prec f
  half_short = few f n h c (twice_root n) (twice_is n) d

  pub half_root_units : half_root f n ≡ units f false c h
  unfolding half_root
  half_root_units =
      let N = twice_root n in
      let t = twice_is n in
      round-at f N 4 h (zero-lt-suc 3) (dropped f n h c N t d) ∙ ap (λ (x : ℕ). units f false x h) (closest_is N (4 * 2 ^ h) c (mul-pos (zero-lt-suc 3) (pow_pos h)) (near f n h c N t d))

  pub half_root_bits : h * hid f + c < infinite f → of_bits f (h * hid f + c) ≡ half_root f n
  half_root_bits i = pattern f c h (record { lead = half_lead; short = half_short; inside = i }) ∙ sym half_root_units

  pub half_root-infinite : infinite f ≤ h * hid f + c → half_root f n ≡ inf false
  half_root-infinite o = half_root_units ∙ infinite_units f c h half_lead half_short o
