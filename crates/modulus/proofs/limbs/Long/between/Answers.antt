-- `modulus::limbs::Long::between` meets its contract: between the two odd squares there are 8 * k, which one limb and little more hold. Assumes nothing.
use mathlib.Core.Path.{◌≡◌, ap, ◌∙◌}
use Prim.Native.Nat.{ℕ, ◌+◌, ◌-◌, ◌*◌, ◌^◌, ◌≤◌, ◌<◌}
use native.Mathlib.Omega.{arith}
use native.Mathlib.Decide.{dec_lt}
use mathlib.Core.Bool.{Bool, false, ◌&&◌}
use lib.Dec.{ltb}
use borrow.Author.Rules.{rules}
use borrow.Author.Tests.{lt-ltb, le-ltb}
use Rattle.std.proofs.Common.{Option, None, Some}
use Rattle.std.specs.Option.{MatchOption}
use Rattle.digits.specs.Digits.{Left}
use Rattle.digits.proofs.Left.{rest, gone}
use Rattle.modulus.specs.Modulus.{wide, Square}
use Rattle.modulus.proofs.limbs.Long.between.Goals as goal

module _ {k th tl : ℕ} (some : 0 < k) (fits : k ≤ 2 ^ 54) (q : Square (k * 2 - 1) th tl) where
  abbrev lower : ℕ
  lower = (2 * k - 1) * (2 * k - 1)

  abbrev upper : ℕ
  upper = (2 * k + 1) * (2 * k + 1)

  is : wide th tl ≡ lower
  is = let e : k * 2 - 1 ≡ 2 * k - 1 = omega arith in q.is ∙ ap (λ (x : ℕ). x * x) e

  apart : upper ≡ lower + 8 * k
  apart =
      let e : 2 * k + 1 ≡ 2 * k - 1 + 2 = omega arith in
      let z = ap (λ (x : ℕ). x * x) e in
      omega (arith, z)

  not_above : (n : ℕ) → n ≤ wide th tl → false ≡ (ltb lower n && ltb n upper)
  not_above n h = rw (le-ltb lower n (omega (arith, is)))

  not_below : (n : ℕ) → wide th tl + 8 * k ≤ n → false ≡ (ltb lower n && ltb n upper)
  not_below n h = rw (lt-ltb lower n (omega (arith, is)), le-ltb n upper (omega (arith, is, apart)))

  last : (n u : ℕ) → n ≡ wide th tl + u → u < k * 8 → ltb 0 u ≡ (ltb lower n && ltb n upper)
  last n u e h =
      elim (dec_lt 0 u) [
        | yes l ↦ rw (lt-ltb 0 u l, lt-ltb lower n (omega (arith, is)), lt-ltb n upper (omega (arith, is, apart)))
        | no l ↦ rw (le-ltb 0 u (omega (arith, l)), le-ltb lower n (omega (arith, is, l)))
      ]

  -- by the limbs: the high ones first
  none_high : (h l : ℕ) → l < 2 ^ 54 → Left h th 16 None → false ≡ (ltb lower (wide h l) && ltb (wide h l) upper)
  none_high h l s e =
      elim (dec_lt h th) [
        | yes a ↦ not_above (wide h l) (omega (arith, a, s))
        | no a ↦ elim (dec_lt (h - th) 16) [ yes b ↦ absurd (gone e (omega (arith, a)) b) | no b ↦ not_below (wide h l) (omega (arith, a, b, q.short, fits)) ]
      ]

  none_low : (h l d : ℕ) → Left h th 16 (Some d) → Left (d * 2 ^ 54 + l) tl (k * 8) None → false ≡ (ltb lower (wide h l) && ltb (wide h l) upper)
  none_low h l d r e =
      let g = rest r in
      elim (dec_lt (d * 2 ^ 54 + l) tl) [
        | yes a ↦ not_above (wide h l) (omega (arith, a, g.is, g.within))
        | no a ↦ elim (dec_lt (d * 2 ^ 54 + l - tl) (k * 8)) [ yes b ↦ absurd (gone e (omega (arith, a)) b) | no b ↦ not_below (wide h l) (omega (arith, a, b, g.is, g.within)) ]
      ]

  -- what is left in the low limb
  low_tells : (h l d : ℕ) (o : Option ℕ) (r : Bool) → Left h th 16 (Some d) → Left (d * 2 ^ 54 + l) tl (k * 8) o → MatchOption o (r ≡ false) (λ u. r ≡ ltb 0 u) → r ≡ (ltb lower (wide h l) && ltb (wide h l) upper)
  low_tells h l d None r a b e = e ∙ none_low h l d a b
  low_tells h l d (Some u) r a b e =
      let g = rest a in
      let v = rest b in
      e ∙ last (wide h l) u (omega (arith, g.is, g.within, v.is, v.within)) v.short

pub returns-in_default : goal.returns-in_default
returns-in_default c =
    none_high c.requires.0 c.requires.1 c.square-t.ensures _ _ c.args.self.whole.short c.in_default.ensures

pub returns : goal.returns
returns c =
    low_tells c.requires.0 c.requires.1 c.square-t.ensures _ _ _ _ _ c.in-Some.ensures c.left-2.ensures (search rules)
