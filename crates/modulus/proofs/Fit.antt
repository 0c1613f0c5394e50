-- The sum of two squares in two limbs, brought to 108 digits. Assumes nothing.
use mathlib.Core.Path.{◌≡◌}
use Prim.Native.Nat.{ℕ, zero, suc, ◌+◌, ◌-◌, ◌*◌, ◌/◌, ◌%◌, ◌^◌, ◌≤◌, ◌<◌}
use native.Mathlib.Nat.{add-zero, mul-le-mul, mul-pos, mod-lt, div-le_self}
use native.Mathlib.Numerals.{add-one}
use native.Mathlib.Omega.{arith}
use lib.Pow.{pow_pos, pow_mono}
use Rattle.laws.specs.Cut.{Cut}
use Rattle.laws.proofs.Cut.{cut_quarter}
use Rattle.modulus.specs.Modulus.{wide, Sum, Fitted}
use Rattle.modulus.proofs.Parts.{twice}

-- the limbs of the sum, of numbers of 54 digits, the first with all of them
module _ {x y d high low rest : ℕ} (lo : 2 ^ 52 ≤ x) (hi : x < 2 ^ 53) (few : y < 2 ^ 53) (gap : d < 27) (s : Sum (x * 2) (y * 2) d high low rest) where
  square-x : 2 ^ 106 ≤ x * 2 * (x * 2)
  square-x = let a : 2 ^ 53 ≤ x * 2 = omega arith in mul-le-mul a a

  square-y : (b : ℕ) → b < 2 ^ 53 → b * 2 * (b * 2) ≤ 2 ^ 108 - 1
  square-y b h = let a : b * 2 ≤ 2 ^ 54 - 2 = omega arith in let z : b * 2 * (b * 2) ≤ (2 ^ 54 - 2) * (2 ^ 54 - 2) = mul-le-mul a a in omega (arith, z)

  pub sum_fits : (2 ^ 52 ≤ high) × (high < 2 ^ 55) × (rest < 2 ^ 54)
  sum_fits =
      let w = 2 ^ d * 2 ^ d in
      let q = div-le_self (y * 2 * (y * 2)) w in
      let m = mod-lt (y * 2 * (y * 2)) (mul-pos (pow_pos d) (pow_pos d)) in
      let e : d * 2 ≤ 52 = omega arith in
      let p : w ≤ 2 ^ 52 = rw (← twice d) (pow_mono e) in
      (omega (arith, s.is, s.short, square-x), omega (arith, s.is, q, square-y x hi, square-y y few), omega (arith, s.left, m, p))

-- a cut to the limbs is one to what they are brought to
pub fit_cut : {high low rest h l r power : ℕ} (n i : ℕ) → Cut n i (wide high low) rest → Fitted high low rest h l r power → Cut n (i + power) (wide h l) r
fit_cut {high} {low} {rest} {h} {l} {r} {power} n i c f = go power f.is f.left f.once
  where
    go : (p : ℕ) → wide h l ≡ wide high low / 4 ^ p → r ≡ rest + wide high low % 4 ^ p → p ≤ 1 → Cut n (i + p) (wide h l) r
    go zero e z o = let a : wide h l ≡ wide high low = omega (arith, e) in let b : r ≡ rest = omega (arith, z) in rw (a, b, add-zero) c
    go (suc zero) e z o = rw (e, z, add-one) (cut_quarter n i (wide high low) rest c)
    go (suc (suc p)) e z o = absurd (omega arith)
