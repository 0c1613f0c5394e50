-- One step of going through the blocks from the first, as the code takes it, by any reading. Assumes nothing.
use mathlib.Core.Path.{◌≡◌}
use mathlib.Core.Bool.{true, false}
use mathlib.Core.List.{List}
use Prim.Native.Nat.{ℕ, zero, suc, ◌+◌, ◌-◌, ◌<◌}
use native.Mathlib.Decide.{ℕ_discrete}
use native.Mathlib.Omega.{arith}
use borrow.Author.Tests.{lt-ltb}
use lib.Ieee.{Float, binary64}
use Rattle.model.specs.Form.{two_block, nonzero_below}
use Rattle.model.specs.Values.{Reading, Parts, one_value, two_values, values_from}
use Rattle.form.proofs.Above.{inside_block}

module _ (rd : Reading) (ld : ℕ) (t : List Float) (n j : ℕ) (s : Parts) where
  abbrev from : ℕ → Parts → Parts
  from i = values_from binary64 rd ld t (n - i) i

  last_one : j + 1 ≡ n → from (j + 1) (one_value binary64 ld t j s) ≡ from j s
  unfolding values_from
  last_one h =
      let one : n - j ≡ suc zero = omega arith in
      let none : n - (j + 1) ≡ zero = omega arith in
      rw (one, none)

  more : j + 1 < n → nonzero_below binary64 ld t j ≡ false → from (j + 1) (one_value binary64 ld t j s) ≡ from j s
  unfolding values_from
  more h z =
      let two : n - j ≡ suc (suc (n - (j + 2))) = omega arith in
      let one : n - (j + 1) ≡ suc (n - (j + 2)) = omega arith in
      rw (two, z, one)

  pub next_one : j < n → two_block binary64 ld n t j ≡ false → from (j + 1) (one_value binary64 ld t j s) ≡ from j s
  unfolding two_block
  next_one h z =
      elim (ℕ_discrete (j + 1) n) [
        | yes p ↦ last_one p
        | no p ↦ let l : j + 1 < n = omega arith in more l (rw (lt-ltb _ _ l) at z)
      ]

  pub next_two : two_block binary64 ld n t j ≡ true → from (j + 2) (two_values binary64 rd ld t j s) ≡ from j s
  unfolding values_from two_block
  next_two z =
      let l = inside_block ld n t j z in
      let below : nonzero_below binary64 ld t j ≡ true = rw (lt-ltb _ _ l) at z in
      let two : n - j ≡ suc (suc (n - (j + 2))) = omega arith in
      rw (two, below)
