-- `digits::number::Positive::significand` meets its contract, by the value of a pattern. Assumes nothing.
use mathlib.Core.Path.{◌≡◌, subst}
use Prim.Native.Nat.{ℕ, ◌+◌, ◌-◌, ◌*◌, ◌/◌, ◌%◌, ◌^◌, ◌<◌}
use native.Mathlib.Omega.{arith}
use lib.Ieee.{binary64}
use Rattle.laws.specs.RootNearest.{pattern_value}
use Rattle.laws.proofs.Patterns.{pattern-value}
use Rattle.digits.specs.Digits.{Significand}
use Rattle.digits.proofs.number.Positive.significand.Goals as goal

-- a subnormal number: the pattern is its digits
subnormal : (b : ℕ) → 0 < b → b < 2 ^ 52 → Significand b b 0
subnormal b p h =
    let e : 0 * 2 ^ 52 + b ≡ b = omega arith in
    record {
      is = rw e at (pattern-value binary64 b 0 (record { lead = λ z. absurd (omega arith); short = omega arith; inside = omega arith }));
      pattern = e;
      some = p;
      short = omega arith;
      lead = λ z. absurd (omega arith);
      most = omega arith;
    }

-- a normal number: its digits are the leading one and those of the pattern
normal : (b : ℕ) → b < 0x7ff0_0000_0000_0000 → (b / 2 ^ 52 ≡ 0 → ⊥) → Significand b (2 ^ 52 + b % 2 ^ 52) (b / 2 ^ 52 - 1)
normal b h n =
    let q = 2 ^ 52 + b % 2 ^ 52 in
    let k = b / 2 ^ 52 - 1 in
    let e : k * 2 ^ 52 + q ≡ b = omega arith in
    record {
      is = subst (λ (x : ℕ). pattern_value binary64 x ≡ q * 2 ^ k) e (pattern-value binary64 q k (record { lead = λ z. omega arith; short = omega arith; inside = omega arith }));
      pattern = e;
      some = omega arith;
      short = omega arith;
      lead = λ z. omega arith;
      most = omega arith;
    }

pub returns-in-0 : goal.returns-in-0
returns-in-0 c = let h = c.in-0 in subnormal c.args.self.bits c.args.self.some (omega arith)

pub returns-in_default : goal.returns-in_default
returns-in_default c = let h = c.in_default in normal c.args.self.bits c.args.self.finite (λ z. absurd (omega arith))
