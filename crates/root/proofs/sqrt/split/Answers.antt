-- `root::sqrt::split` meets its contract: moved up by s, the digits are 2 ^ s times as many, and the power is s less. Assumes nothing.
use mathlib.Core.Path.{◌≡◌, sym, ap, ◌∙◌}
use Prim.Native.Nat.{ℕ, ◌+◌, ◌-◌, ◌*◌, ◌%◌, ◌^◌}
use native.Mathlib.Nat.{mul_assoc, mod-eq_of_lt}
use native.Mathlib.Omega.{arith}
use lib.Pow.{pow-add}
use Rattle.digits.specs.Digits.{Significand, Shift}
use Rattle.root.specs.Sqrt.{Parts}
use Rattle.root.proofs.sqrt.split.Goals as goal

moved : (b t power s : ℕ) → Significand b t power → Shift t s → Parts b (t * 2 ^ s % 2 ^ 64) (power + 1074 - s)
moved b t power s n r =
    let m : t * 2 ^ s % 2 ^ 64 ≡ t * 2 ^ s = mod-eq_of_lt (omega (arith, r.high)) in
    let z : power + 1074 ≡ s + (power + 1074 - s) = omega (arith, r.most) in
    let u : 2 ^ power * 2 ^ 1074 ≡ 2 ^ s * 2 ^ (power + 1074 - s) = sym (pow-add 2 power 1074) ∙ ap (λ (x : ℕ). 2 ^ x) z ∙ pow-add 2 s (power + 1074 - s) in
    let v : t * 2 ^ power * 2 ^ 1074 ≡ t * 2 ^ s * 2 ^ (power + 1074 - s) = mul_assoc t (2 ^ power) (2 ^ 1074) ∙ ap (λ (x : ℕ). t * x) u ∙ sym (mul_assoc t (2 ^ s) (2 ^ (power + 1074 - s))) in
    record {
      is = ap (λ (x : ℕ). x * 2 ^ 1074) n.is ∙ v ∙ ap (λ (x : ℕ). x * 2 ^ (power + 1074 - s)) (sym m);
      low = rw m r.low;
      high = rw m r.high;
      least = omega (arith, r.most);
      most = omega (arith, n.most);
    }

pub returns : goal.returns
returns c = rw c.from.ensures (moved _ _ _ _ c.significand-digits.ensures c.shift_of-s.ensures)
