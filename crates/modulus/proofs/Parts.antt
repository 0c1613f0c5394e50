-- Two limbs divided by a power of 2. Assumes nothing.
use mathlib.Core.Path.{◌≡◌, sym, ap, ◌∙◌}
use Prim.Native.Nat.{ℕ, ◌+◌, ◌-◌, ◌*◌, ◌/◌, ◌%◌, ◌^◌, ◌≤◌, ◌<◌}
use native.Mathlib.Nat.{div-add-mod', mod-lt, div-eq_of_lt-le, mul-le-mul_right}
use native.Mathlib.Omega.{arith}
use lib.Pow.{pow-add}
use Rattle.modulus.specs.Modulus.{wide}

-- by w, a divisor of 2 ^ 54
module _ (w g high low : ℕ) (W : 0 < w) (e : w * g ≡ 2 ^ 54) where
  abbrev Q : ℕ
  Q = high / w * 2 ^ 54 + high % w * g + low / w

  parts : wide high low ≡ Q * w + low % w
  parts =
      let a = div-add-mod' high w in
      let b = div-add-mod' low w in
      let c : high % w * (w * g) ≡ high % w * 2 ^ 54 = ap (λ (z : ℕ). high % w * z) e in
      omega (arith, a, b, c)

  pub quotient : wide high low / w ≡ Q
  quotient = div-eq_of_lt-le w (omega (arith, parts)) (omega (arith, parts, mod-lt low W))

  pub remainder : wide high low % w ≡ low % w
  remainder = let a = div-add-mod' (wide high low) w in let b = ap (λ (z : ℕ). z * w) quotient in omega (arith, parts, a, b)

  pub under : high % w * g ≤ 2 ^ 54
  under = let a : high % w * g ≤ w * g = mul-le-mul_right g (let l = mod-lt high W in omega arith) in omega (arith, a, e)

-- twice d digits
pub twice : (d : ℕ) → 2 ^ (d * 2) ≡ 2 ^ d * 2 ^ d
twice d = let e : d * 2 ≡ d + d = omega arith in ap (λ (z : ℕ). 2 ^ z) e ∙ pow-add 2 d d

pub to_54 : (s : ℕ) → s ≤ 54 → 2 ^ s * 2 ^ (54 - s) ≡ 2 ^ 54
to_54 s h = let e : s + (54 - s) ≡ 54 = omega arith in sym (pow-add 2 s (54 - s)) ∙ ap (λ (z : ℕ). 2 ^ z) e
