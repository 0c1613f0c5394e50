-- The sizes of neighbouring blocks: each is 1, or else 2. Assumes nothing.
use mathlib.Core.Path.{◌≡◌}
use Prim.Native.Nat.{◌+◌, ◌≤◌}
use native.Mathlib.Omega.{arith}
use Rattle.swaps.specs.declared.neighbours.Neighbours.{Neighbours}

module _ (b : Neighbours) where
  pub one1 : b.n1 + b.n2 ≡ 2 → b.n1 ≡ 1
  one1 e = omega (arith, b.one1, b.one2)

  pub one2 : b.n1 + b.n2 ≡ 2 → b.n2 ≡ 1
  one2 e = omega (arith, b.one1, b.one2)

  pub two1 : (b.n1 ≡ 1 → ⊥) → b.n1 ≡ 2
  two1 h = omega (arith, b.one1, b.two1)

  pub two2 : (b.n2 ≡ 1 → ⊥) → b.n2 ≡ 2
  two2 h = omega (arith, b.one2, b.two2)

  pub below_one : 3 ≤ b.n1 + b.n2 → b.n1 ≡ 1 → b.n2 ≡ 2
  below_one h e = omega (arith, b.two2)
