-- `digits::whole::Radicand::is_nearest` meets its contract. With r = 2 * k - 1 parted into s and q at 2 ^ 27, d * 2 ^ 54 is the square of r, less q * q, and u * 2 ^ 27 more; below the next odd square the
-- root is r or r + 1. And where k is nearest, no test before the last turns it away. Assumes nothing.
use mathlib.Core.Path.{◌≡◌, sym}
use Prim.Native.Nat.{ℕ, ◌+◌, ◌-◌, ◌*◌, ◌/◌, ◌%◌, ◌^◌, ◌≤◌, ◌<◌}
use native.Mathlib.Nat.{mul-le-mul}
use native.Mathlib.Omega.{arith}
use native.Mathlib.Decide.{dec_lt}
use lib.Dec.{eqb}
use borrow.Author.Tests.{eq-eqb, ne_eqb}
use Rattle.std.specs.Option.{is_some}
use Rattle.model.specs.Root.{root}
use Rattle.digits.specs.Digits.{left_of}
use Rattle.digits.proofs.Left.{rest, there, negative, too_long, gone}
use Rattle.laws.proofs.WholeRoot.{root_is, le_root, root_lt}
use Rattle.digits.proofs.whole.Radicand.is_nearest.Goals as goal

clash : {a b : ℕ} → a < b → b ≤ a → ⊥
clash h k = omega arith

-- r's halves
record Halves (k s q : ℕ) : Type 0 where
  most : s ≤ 2 ^ 28
  little : q ≤ 2 ^ 27
  parts : s * 2 ^ 27 + q + 1 ≡ k * 2

halves : (k : ℕ) → 0 < k → k ≤ 2 ^ 54 → Halves k ((k * 2 - 1) / 0x800_0000) ((k * 2 - 1) % 0x800_0000)
halves k lo hi = record { most = omega arith; little = omega arith; parts = omega arith }

module _ (d k s q : ℕ) (h : Halves k s q) where
  -- s * s, s * 2 * q and q * q within 64 bits
  product : s * q ≤ 2 ^ 55
  product = mul-le-mul h.most h.little

  end : q * q ≤ 2 ^ 54
  end = mul-le-mul h.little h.little

  nearest :
      s * s ≤ d →
      s * 2 * q ≤ (d - s * s) * 2 ^ 27 →
      q * q ≤ ((d - s * s) * 2 ^ 27 - s * 2 * q) * 2 ^ 27 →
      ((d - s * s) * 2 ^ 27 - s * 2 * q) * 2 ^ 27 - q * q < k * 8 →
      k ≡ (root (d * 2 ^ 54) + 1) / 2
  nearest a b e f =
      let i = root_is (d * 2 ^ 54) in
      let r = s * 2 ^ 27 + q in
      let low : r ≤ root (d * 2 ^ 54) = le_root (d * 2 ^ 54) (root (d * 2 ^ 54)) i r (omega arith) in
      let high : root (d * 2 ^ 54) < r + 2 = root_lt (d * 2 ^ 54) (root (d * 2 ^ 54)) i (r + 2) (omega (arith, h.parts)) in
      omega (arith, h.parts)

  -- the other way: where k is nearest, each test passes
  module _ (n : k ≡ (root (d * 2 ^ 54) + 1) / 2) where
    low : s * s * 2 ^ 54 + s * q * 2 ^ 28 + q * q ≤ d * 2 ^ 54
    low =
        let z : s * 2 ^ 27 + q ≤ root (d * 2 ^ 54) = omega (arith, h.parts, n) in
        let x : (s * 2 ^ 27 + q) * (s * 2 ^ 27 + q) ≤ root (d * 2 ^ 54) * root (d * 2 ^ 54) = mul-le-mul z z in
        omega (arith, (root_is (d * 2 ^ 54)).0)

    high : d * 2 ^ 54 < s * s * 2 ^ 54 + s * q * 2 ^ 28 + q * q + k * 8
    high =
        let z : root (d * 2 ^ 54) + 1 ≤ s * 2 ^ 27 + q + 2 = omega (arith, h.parts, n) in
        let x : (root (d * 2 ^ 54) + 1) * (root (d * 2 ^ 54) + 1) ≤ (s * 2 ^ 27 + q + 2) * (s * 2 ^ 27 + q + 2) = mul-le-mul z z in
        omega (arith, (root_is (d * 2 ^ 54)).1, h.parts)

    pass_1 : s * s ≤ d
    pass_1 = omega (arith, low)

    pass_2 : d - s * s < 2 ^ 30
    pass_2 = omega (arith, high, pass_1, product, end, h.most, h.little, h.parts)

    pass_3 : s * 2 * q ≤ (d - s * s) * 2 ^ 27
    pass_3 = omega (arith, low, pass_1)

    pass_4 : (d - s * s) * 2 ^ 27 - s * 2 * q < 2 ^ 36
    pass_4 = omega (arith, high, pass_1, pass_3, end, h.most, h.little, h.parts)

    pass_5 : q * q ≤ ((d - s * s) * 2 ^ 27 - s * 2 * q) * 2 ^ 27
    pass_5 = omega (arith, low, pass_1, pass_3)

    pass_6 : ((d - s * s) * 2 ^ 27 - s * 2 * q) * 2 ^ 27 - q * q < k * 8
    pass_6 = omega (arith, high, pass_1, pass_3, pass_5)

  last :
      s * s ≤ d →
      s * 2 * q ≤ (d - s * s) * 2 ^ 27 →
      is_some (left_of (((d - s * s) * 2 ^ 27 - s * 2 * q) * 2 ^ 27) (q * q) (k * 8)) ≡ eqb k ((root (d * 2 ^ 54) + 1) / 2)
  last a b =
      let m = ((d - s * s) * 2 ^ 27 - s * 2 * q) * 2 ^ 27 in
      elim (dec_lt m (q * q)) [
        | yes e ↦ rw (negative m (q * q) (k * 8) e) (sym (ne_eqb k ((root (d * 2 ^ 54) + 1) / 2) (λ n. clash e (pass_5 n))))
        | no e ↦ elim (dec_lt (m - q * q) (k * 8)) [
          | yes f ↦ rw (there m (q * q) (k * 8) (omega arith) f) (sym (eq-eqb k ((root (d * 2 ^ 54) + 1) / 2) (nearest a b (omega arith) f)))
          | no f ↦ rw (too_long m (q * q) (k * 8) (omega arith) (omega arith)) (sym (ne_eqb k ((root (d * 2 ^ 54) + 1) / 2) (λ n. f (pass_6 n))))
        ]
      ]

pub returns-in_default : goal.returns-in_default
returns-in_default c =
    let h = halves c.args.k c.requires.0 c.requires.1 in
    sym (ne_eqb _ _ (λ n. gone c.in_default.ensures (pass_1 c.args.self.digits c.args.k _ _ h n) (pass_2 c.args.self.digits c.args.k _ _ h n)))

pub returns-in_default-left : goal.returns-in_default-left
returns-in_default-left c =
    let h = halves c.args.k c.requires.0 c.requires.1 in
    let a = rest c.in-Some.ensures in
    let e = rw a.is at c.in_default-left.ensures in
    sym (ne_eqb _ _ (λ n. gone e (pass_3 c.args.self.digits c.args.k _ _ h n) (pass_4 c.args.self.digits c.args.k _ _ h n)))

pub returns : goal.returns
returns c =
    let h = halves c.args.k c.requires.0 c.requires.1 in
    let a = rest c.in-Some.ensures in
    let u = rest c.in-Some-left.ensures in
    rw (c.is_some.ensures, c.left-3.ensures.is, u.is, a.is) (last c.args.self.digits c.args.k _ _ h a.within (rw a.is at u.within))
