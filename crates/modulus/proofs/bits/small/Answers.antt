-- `modulus::bits::small` meets its contract: moved up by s places, the squares are 4 ^ s times as large, and nothing is cut off. Assumes nothing.
use mathlib.Core.Path.{◌≡◌, ◌∙◌, subst}
use Prim.Native.Nat.{ℕ, zero, suc, ◌+◌, ◌-◌, ◌*◌, ◌/◌, ◌%◌, ◌^◌, ◌≤◌, ◌<◌}
use native.Mathlib.Nat.{mod-eq_of_lt, mul-le-mul, mul-le-mul_right, pow-succ'}
use native.Mathlib.Omega.{arith}
use lib.Ieee.{binary64}
use Rattle.laws.specs.RootNearest.{square}
use Rattle.laws.specs.HalfDigits.{HalfDigits}
use Rattle.laws.specs.Cut.{NearestHalf}
use Rattle.laws.proofs.Cut.{scaled_digits}
use Rattle.digits.specs.Digits.{Shift}
use Rattle.modulus.specs.Modulus.{wide, four_sums, Sum, Fitted}
use Rattle.modulus.proofs.bits.small.Goals as goal

module _ {x y s : ℕ} (pre : (0 < x) × (x < 2 ^ 52) × (y ≤ x)) (m : Shift x s) where
  lower : y * 2 ^ s ≤ x * 2 ^ s
  lower = mul-le-mul_right (2 ^ s) pre.2

  x-is : x * 2 ^ s % 2 ^ 64 ≡ x * 2 ^ s
  x-is = mod-eq_of_lt (omega (arith, m.high))

  y-is : y * 2 ^ s % 2 ^ 64 ≡ y * 2 ^ s
  y-is = mod-eq_of_lt (omega (arith, m.high, lower))

  -- it has to move
  moves : 1 ≤ s
  moves = go s m.low
    where
      go : (s : ℕ) → 2 ^ 52 ≤ x * 2 ^ s → 1 ≤ s
      go zero h = absurd (omega (arith, h, pre.1))
      go (suc s) h = omega arith

  few : four_sums x y 0 0 < square (2 * 2 ^ 53)
  few =
      let a : x ≤ 2 ^ 52 = omega (arith, pre.1) in
      let b : y ≤ 2 ^ 52 = omega (arith, pre.1, pre.2) in
      let e : x * x ≤ 2 ^ 104 = mul-le-mul a a in
      let g : y * y ≤ 2 ^ 104 = mul-le-mul b b in
      omega (arith, e, g)

  module _ {high low rest h l r power : ℕ} (sum : Sum (x * 2 ^ s % 2 ^ 64 * 2) (y * 2 ^ s % 2 ^ 64 * 2) 0 high low rest) (f : Fitted high low rest h l r power) where
    whole : wide high low ≡ four_sums x y 0 0 * (2 ^ s * 2 ^ s)
    whole = sum.is ∙ rw (x-is, y-is) (omega arith)

    left_over : rest ≡ 0
    left_over = omega (arith, sum.left)

    scaled : (p t : ℕ) → s ≡ p + t → p ≤ 1 → wide h l ≡ wide high low / 4 ^ p → r ≡ rest + wide high low % 4 ^ p → (wide h l ≡ four_sums x y 0 0 * (2 ^ t * 2 ^ t)) × (r ≡ 0)
    scaled zero t e o i z = let a : s ≡ t = omega (arith, e) in (subst (λ (u : ℕ). wide h l ≡ four_sums x y 0 0 * (2 ^ u * 2 ^ u)) a (omega (arith, i, whole)), omega (arith, z, left_over))
    scaled (suc zero) t e o i z =
        let a : s ≡ suc t = omega (arith, e) in
        let b : wide high low ≡ 4 * (four_sums x y 0 0 * (2 ^ t * 2 ^ t)) = whole ∙ rw (a, pow-succ' 2 t) (omega arith) in
        (omega (arith, i, b), omega (arith, z, left_over, b))
    scaled (suc (suc p)) t e o i z = absurd (omega (arith, o))

    nearest : {c : ℕ} → NearestHalf (wide h l) r (s - power) c → HalfDigits binary64 (four_sums x y 0 0) 0 c
    nearest {c} q =
        let e = scaled power (s - power) (omega (arith, moves, f.once)) f.once f.is f.left in
        scaled_digits binary64 (four_sums x y 0 0) (s - power) c (rw (e.0, e.1) at q) few

pub returns : goal.returns
returns c = nearest c.requires c.shift_of-s.ensures c.sum_of_squares.ensures c.fitted-power.ensures c.stepped.ensures
