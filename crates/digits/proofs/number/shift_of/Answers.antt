-- `digits::number::shift_of` meets its contract: with its highest set bit at j, t has 63 - j leading zeros, and moves up by 52 - j. Assumes nothing.
use mathlib.Core.Path.{◌≡◌}
use Prim.Native.Nat.{ℕ, suc, ◌+◌, ◌-◌, ◌*◌, ◌^◌, ◌≤◌, ◌<◌}
use native.Mathlib.Nat.{lt_of_le_of_lt, mul-le-mul_right}
use native.Mathlib.Omega.{arith}
use lib.Pow.{pow-add, shl_lt}
use lib.Count.{count_leading_zeros, leading_top}
use Rattle.laws.proofs.Digits.{pow_lt_back}
use Rattle.digits.specs.Digits.{Shift}
use Rattle.digits.proofs.number.shift_of.Goals as goal

module _ (t : ℕ) (p : 0 < t) (h : t < 2 ^ 53) where
  top : (j : ℕ) × (count_leading_zeros 64 t + suc j ≡ 64) × (2 ^ j ≤ t) × (t < 2 ^ suc j)
  top = leading_top 64 t p (omega arith)

  bit : top.0 < 53
  bit = pow_lt_back top.0 53 (lt_of_le_of_lt top.2 h)

  enough : 11 ≤ count_leading_zeros 64 t
  enough = omega (arith, bit, top.1)

  shift : Shift t (count_leading_zeros 64 t - 11)
  shift =
      let j = top.0 in
      let s = count_leading_zeros 64 t - 11 in
      let e : j + s ≡ 52 = omega (arith, bit, top.1) in
      let g : suc j + s ≡ 53 = omega (arith, bit, top.1) in
      let low : 2 ^ (j + s) ≤ t * 2 ^ s = rw (pow-add 2 j s) (mul-le-mul_right (2 ^ s) top.2) in
      record { low = rw e at low; high = rw g at (shl_lt (suc j) s top.3); most = omega (arith, bit, top.1) }

pub overflow_sub-result : goal.overflow_sub-result
overflow_sub-result c = enough c.args.t c.requires.0 c.requires.1

pub returns : goal.returns
returns c = shift c.args.t c.requires.0 c.requires.1
