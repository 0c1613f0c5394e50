-- `modulus::squares::sum_of_squares` meets its contract: of the limbs of y * y, divided by 2 ^ s, what the high one leaves goes to the low one. Assumes nothing.
use mathlib.Core.Path.{◌≡◌, sym}
use Prim.Native.Nat.{ℕ, ◌+◌, ◌-◌, ◌*◌, ◌/◌, ◌%◌, ◌^◌, ◌≤◌, ◌<◌}
use native.Mathlib.Nat.{mod-eq_of_lt, mul-le-mul, div-le_self}
use native.Mathlib.Omega.{arith}
use lib.Pow.{pow_pos}
use Rattle.modulus.specs.Modulus.{Square, Sum}
use Rattle.modulus.proofs.Parts.{quotient, remainder, under, twice, to_54}
use Rattle.modulus.proofs.squares.sum_of_squares.Goals as goal

-- the high limb of a square of 54 digits
tall : (x high low : ℕ) → x < 2 ^ 54 → Square x high low → high ≤ 2 ^ 54
tall x high low h q = let a : x ≤ 2 ^ 54 = omega arith in let b : x * x ≤ 2 ^ 108 = mul-le-mul a a in omega (arith, q.is, b)

-- the parts of the limbs of y * y, and their sum with the low limb of x * x
record Limbs (x y d ah al bh bl high over low rest : ℕ) : Type 0 where
  a : Square x ah al
  b : Square y bh bl
  ah_most : ah ≤ 2 ^ 54
  high-most : high ≤ 2 ^ 54
  low-most : low ≤ 2 ^ 54
  over_most : over * 2 ^ (54 - d * 2) ≤ 2 ^ 54
  quotient : y * y / (2 ^ d * 2 ^ d) ≡ high * 2 ^ 54 + over * 2 ^ (54 - d * 2) + low
  left : rest ≡ y * y % (2 ^ d * 2 ^ d)

limbs :
    {x y d ah al bh bl high over low rest : ℕ} → (x < 2 ^ 54) × (y < 2 ^ 54) × (d < 27) → Square x ah al → Square y bh bl → (high ≡ bh / 2 ^ (d * 2)) × (over ≡ bh % 2 ^ (d * 2)) →
    (low ≡ bl / 2 ^ (d * 2)) × (rest ≡ bl % 2 ^ (d * 2)) → Limbs x y d ah al bh bl high over low rest
limbs {x} {y} {d} {ah} {al} {bh} {bl} {high} {over} {low} {rest} pre a b (eh, eo) (el, er) =
    let w = 2 ^ (d * 2) in
    let g = 2 ^ (54 - d * 2) in
    let W : 0 < w = pow_pos (d * 2) in
    let e : w * g ≡ 2 ^ 54 = to_54 (d * 2) (omega (arith, pre.2)) in
    record {
      a = a;
      b = b;
      ah_most = tall x ah al pre.0 a;
      high-most = rw eh (let z = div-le_self bh w in omega (arith, tall y bh bl pre.1 b, z));
      low-most = rw el (let z = div-le_self bl w in omega (arith, b.short, z));
      over_most = rw eo (under w g bh bl W e);
      quotient = rw (← b.is, ← twice d, eh, eo, el) (quotient w g bh bl W e);
      left = rw (← b.is, ← twice d, er) (sym (remainder w g bh bl W e));
    }

module _ {x y d ah al bh bl high over low rest : ℕ} (l : Limbs x y d ah al bh bl high over low rest) where
  plain : over * 2 ^ (54 - d * 2) % 2 ^ 64 ≡ over * 2 ^ (54 - d * 2)
  plain = mod-eq_of_lt (omega (arith, l.over_most))

  sum_most : al + low + over * 2 ^ (54 - d * 2) % 2 ^ 64 < 2 ^ 56
  sum_most = rw plain (omega (arith, l.over_most, l.low-most, l.a.short))

  is_sum : Sum x y d (ah + high + (al + low + over * 2 ^ (54 - d * 2) % 2 ^ 64) / 2 ^ 54) ((al + low + over * 2 ^ (54 - d * 2) % 2 ^ 64) % 2 ^ 54) rest
  is_sum = record { is = rw l.quotient (omega (arith, plain, l.a.is)); short = omega arith; left = l.left }

pub overflow_add-sum-2 : goal.overflow_add-sum-2
overflow_add-sum-2 c = omega (arith, sum_most (limbs c.requires c.square-a.ensures c.square-b.ensures c.part-high.ensures c.part-low.ensures))

pub returns : goal.returns
returns c = is_sum (limbs c.requires c.square-a.ensures c.square-b.ensures c.part-high.ensures c.part-low.ensures)
