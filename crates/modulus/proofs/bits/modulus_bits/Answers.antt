-- `modulus::bits::modulus_bits` meets its contract, case by case. Assumes nothing.
use mathlib.Core.Path.{sym, subst}
use Prim.Native.Nat.{ℕ, ◌+◌, ◌*◌}
use mathlib.Core.Path.{◌≡◌}
use native.Mathlib.Decide.{dec_lt}
use native.Mathlib.Omega.{arith}
use Rattle.modulus.proofs.Pattern.{IsModulus, with_zero, larger, subnormal, few, normal, overflows}
use Rattle.modulus.proofs.bits.modulus_bits.Goals as goal

pub returns-then-b-eq0 : goal.returns-then-b-eq0
returns-then-b-eq0 c = let a = c.args.a in subst (λ (z : ℕ). IsModulus a z a) (sym c.if-b-eq0.true) (with_zero a c.requires.1)

pub returns-then-d-ge27 : goal.returns-then-d-ge27
returns-then-d-ge27 c = let p = c.requires in larger c.significand-x.ensures c.significand-y.ensures p.0 p.1 c.if-d-ge27.true

pub returns-then-x-lt-HIDDEN : goal.returns-then-x-lt-HIDDEN
returns-then-x-lt-HIDDEN c =
    subnormal c.significand-x.ensures c.significand-y.ensures c.requires.0 c.if-x-lt-HIDDEN.true _ c.small.ensures

pub overflow_add-power-2 : goal.overflow_add-power-2
overflow_add-power-2 c =
    let p = c.significand-x.ensures in
    let n = few p c.significand-y.ensures c.requires.0 _ _ c.large-digits.ensures.0 in
    omega (arith, n, p.most, c.large-digits.ensures.1)

pub returns : goal.returns
returns c =
    let t = c.large-digits in
    let r = (c.significand-x.result.power + t.result.power) * 0x10_0000_0000_0000 + t.result.digits in
    elim (dec_lt r 0x7ff0_0000_0000_0000) [
      | yes h ↦ (let e : c.min.result ≡ r = omega (arith, c.min.ensures, h) in rw e (normal c.significand-x.ensures c.significand-y.ensures c.requires.0 _ _ t.ensures.0 h))
      | no h ↦ (let e : c.min.result ≡ 0x7ff0_0000_0000_0000 = omega (arith, c.min.ensures, h) in rw e (overflows c.significand-x.ensures c.significand-y.ensures c.requires.0 _ _ t.ensures.0 (omega (arith, h))))
    ]
