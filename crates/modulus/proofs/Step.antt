-- Half the root of two limbs from the root of the high one, in units of 2 ^ s: it is k or k + 1, as the square of the number between them says. Assumes nothing.
use mathlib.Core.Path.{◌≡◌, refl, sym, ap, ◌∙◌}
use mathlib.Core.Logic.{◌⊎◌, inl, inr}
use Prim.Native.Nat.{ℕ, zero, suc, ◌+◌, ◌-◌, ◌*◌, ◌/◌, ◌%◌, ◌^◌, ◌≤◌, ◌<◌}
use native.Mathlib.Nat.{le_of_lt, add-zero, zero-lt-suc, mod-lt, eq-or-lt_of_le, eq-zero-or-pos, mul-le-mul, mod-eq_of_lt, div-mul-le_self, lt-div-mul-add}
use native.Mathlib.Omega.{arith}
use lib.Pow.{pow_pos, pow_mono}
use Rattle.model.specs.Root.{root}
use Rattle.laws.specs.RootNearest.{square}
use Rattle.laws.specs.Cut.{NearestHalf}
use Rattle.laws.proofs.WholeRoot.{root_is, le_root}
use Rattle.laws.proofs.HalfRoot.{one_less}
use Rattle.digits.proofs.Short.{short}
use Rattle.modulus.specs.declared.limbs.Long.{Long}
use Rattle.modulus.specs.Modulus.{wide, Square}

-- R is the root of the high limb with 54 zeros after it, k0 half of it, rounded, and k is k0 without its last s digits
module _ (n : Long) {s R : ℕ} (few : s < 53) (is : R ≡ root (n.whole.high * 2 ^ 54)) where
  abbrev high : ℕ
  high = n.whole.high

  abbrev k0 : ℕ
  k0 = (R + 1) / 2

  abbrev w : ℕ
  w = 2 ^ s

  abbrev k : ℕ
  k = k0 / w

  abbrev F : ℕ
  F = wide high n.whole.low

  r-low : R * R ≤ high * 2 ^ 54
  r-low = rw is (root_is (high * 2 ^ 54)).0

  r-high : high * 2 ^ 54 < (R + 1) * (R + 1)
  r-high = rw is (root_is (high * 2 ^ 54)).1

  long : 2 ^ 53 ≤ R
  long = rw is (le_root (high * 2 ^ 54) (root (high * 2 ^ 54)) (root_is (high * 2 ^ 54)) (2 ^ 53) (omega (arith, n.least)))

  w_most : w ≤ 2 ^ 52
  w_most = let h : s ≤ 52 = omega (arith, few) in pow_mono h

  below : k * w ≤ k0
  below = div-mul-le_self k0 w

  above : k0 < k * w + w
  above = lt-div-mul-add (pow_pos s)

  some : 0 < k
  some = go (eq-zero-or-pos k)
    where
      go : (k ≡ 0) ⊎ (0 < k) → 0 < k
      go (inl e) = let z : k * w ≡ 0 * w = ap (λ (x : ℕ). x * w) e in absurd (omega (arith, above, z, w_most, long))
      go (inr p) = p

  -- the numbers beside twice k and k + 1, times w
  abbrev under : ℕ
  under = (2 * k - 1) * w

  beside : under + w ≡ 2 * (k * w)
  beside = one_less k w some ∙ omega arith

  under_most : under ≤ R
  under_most = omega (arith, beside, below, pow_pos s)

  most : (k * 2 + 1) * w < 2 ^ 55
  most = omega (arith, below, w_most, short high R n.most is)

  -- so it stays what it is when it is moved up
  plain : (k * 2 + 1) * w % 2 ^ 64 ≡ (k * 2 + 1) * w
  plain = mod-eq_of_lt (omega (arith, most))

  pub fits : (k * 2 + 1) * w % 2 ^ 64 < 2 ^ 55
  fits = rw plain most

  from : square under ≤ F
  from = let z : under * under ≤ R * R = mul-le-mul under_most under_most in omega (arith, r-low, z)

  -- Were it the root itself, it would be R, and odd; but the high limb has an even square.
  not_from : square under ≡ F → ⊥
  not_from e = go (eq-or-lt_of_le under_most)
    where
      go : (under ≡ R) ⊎ (under < R) → ⊥
      go (inl q) =
          let t = k * w in
          let o : R + 1 ≡ 2 * t = omega (arith, beside, below, pow_pos s, q) in
          let z : (R + 1) * (R + 1) ≡ 2 * t * (2 * t) = ap (λ (x : ℕ). x * x) o in
          let y : under * under ≡ R * R = ap (λ (x : ℕ). x * x) q in
          omega (arith, z, y, e, r-low)
      go (inr l) = let z : (under + 1) * (under + 1) ≤ R * R = mul-le-mul (omega arith) (omega arith) in omega (arith, z, e, r-low)

  past : F < square ((2 * (k + 1) + 1) * w)
  past =
      let g : R + 3 ≤ (2 * (k + 1) + 1) * w = omega (arith, above, pow_pos s) in
      let z = mul-le-mul g g in
      omega (arith, z, r-high, long, n.whole.short)

  -- the square of the number between, in two limbs
  module _ {th tl : ℕ} (q : Square ((k * 2 + 1) * w % 2 ^ 64) th tl) where
    abbrev rest : ℕ
    rest = n.rest

    middle : wide th tl ≡ square ((2 * k + 1) * w)
    middle = let m : k * 2 + 1 ≡ 2 * k + 1 = omega arith in q.is ∙ ap square (plain ∙ ap (λ (x : ℕ). x * w) m)

    pub stays : F ≤ wide th tl → (F ≡ wide th tl → (rest ≡ 0) × (k % 2 ≡ 0)) → NearestHalf F rest s k
    stays h t = record { from = from; to = rw (← middle) h; even_from = λ e z. absurd (not_from e); even_to = λ e. t (e ∙ sym middle) }

    pub steps : wide th tl ≤ F → (wide th tl ≡ F → rest ≡ 0 → k % 2 ≡ 1) → NearestHalf F rest s (k + 1)
    steps h t =
        let m : 2 * (k + 1) - 1 ≡ 2 * k + 1 = omega arith in
        record {
          from = rw (m, ← middle) h;
          to = le_of_lt past;
          even_from = λ e z. let o = t (middle ∙ (rw m at e)) z in omega arith;
          even_to = λ e. absurd (omega (arith, past, e));
        }

    -- at a tie the even one
    pub ties : wide th tl ≡ F → rest ≡ 0 → NearestHalf F rest s (k + k % 2)
    ties e z = go (k % 2) refl (mod-lt k (zero-lt-suc 1))
      where
        go : (m : ℕ) → k % 2 ≡ m → m < 2 → NearestHalf F rest s (k + m)
        go zero q l = rw add-zero (stays (omega (arith, e)) (λ x. (z, q)))
        go (suc zero) q l = steps (omega (arith, e)) (λ x y. q)
        go (suc (suc m)) q l = absurd (omega arith)
