-- The pattern of a root, from the digits of the number and of the root. Assumes nothing.
use mathlib.Core.Path.{◌≡◌, ◌∙◌}
use mathlib.Core.Bool.{not}
use Prim.Native.Nat.{ℕ, suc, ◌+◌, ◌-◌, ◌*◌, ◌/◌, ◌^◌, ◌<◌}
use native.Mathlib.Omega.{arith}
use lib.Pow.{pow-add}
use lib.Dec.{T}
use lib.Ieee.{binary64, of_bits, nan_bits}
use Rattle.model.specs.Root.{root, sqrt}
use Rattle.laws.proofs.WholeRoot.{root_is, le_root}
use Rattle.laws.proofs.RootByDigits.{root_by_digits}
use Rattle.digits.proofs.Short.{short}
use Rattle.std.proofs.lemmas.Float.{not_nan_f64_bits}
use Rattle.root.specs.Sqrt.{Parts, Even}

module _ (b digits power d r : ℕ) (some : 0 < b) (finite : b < 0x7ff0_0000_0000_0000) (p : Parts b digits power) (e : Even digits power d) (w : r ≡ root (d * 2 ^ 54)) where
  -- 54 of the zeros are d's
  zeros : (g k : ℕ) → g ≡ 27 + k → d * (2 ^ g * 2 ^ g) ≡ d * 2 ^ 54 * (2 ^ k * 2 ^ k)
  zeros g k z = rw (z, pow-add 2 27 k) (omega arith)

  below : r < 2 ^ 54
  below = short d r e.high w

  pub is-root : of_bits binary64 ((power / 2 - 26) * 2 ^ 52 + (r + 1) / 2) ≡ sqrt binary64 (of_bits binary64 b)
  is-root =
      let i = rw (← w) at (root_is (d * 2 ^ 54)) in
      let k : suc (power / 2 - 27) ≡ power / 2 - 26 = omega (arith, p.least) in
      rw k at
      (root_by_digits binary64 b (d * 2 ^ 54) (power / 2 - 27) r some finite
      (p.is ∙ e.is ∙ zeros (power / 2) (power / 2 - 27) (omega (arith, p.least)))
      i
      (le_root (d * 2 ^ 54) r i (2 ^ 53) (omega (arith, e.low)))
      below
      (omega (arith, p.most, below)))

  pub no_nan : T (not (nan_bits binary64 ((power / 2 - 26) * 2 ^ 52 + (r + 1) / 2)))
  no_nan = not_nan_f64_bits ((power / 2 - 26) * 2 ^ 52 + (r + 1) / 2) (omega (arith, p.most, below))
