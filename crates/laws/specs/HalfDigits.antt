-- What code that works a modulus out from its digits has to show of them, for either format. Definitions only: proofs/HalfRoot.antt says what follows. Assumes nothing.
use Rattle.std.specs.Prelude.{◌≡◌, ℕ, ◌+◌, ◌-◌, ◌*◌, ◌%◌, ◌^◌, ◌≤◌, ◌<◌}
use Rattle.std.specs.Float.{Format}
use Rattle.std.specs.Float.Ieee.{prec}
use Rattle.laws.specs.RootNearest.{square}

-- c, with h zeros after it, has the digits of half the root of n: the root has one digit more than the format keeps, and h after it (or no more than that, and h is 0), it lies between the two odd
-- numbers beside twice c, and where it is one of them c is even.
pub record HalfDigits (f : Format) (n h c : ℕ) : Type 0 where
  pub lead : 0 < h → square (2 ^ prec f * 2 ^ h) ≤ n
  pub short : n < square (2 * 2 ^ prec f * 2 ^ h)
  pub from : square ((2 * c - 1) * 2 ^ h) ≤ n
  pub to : n ≤ square ((2 * c + 1) * 2 ^ h)
  pub even_from : square ((2 * c - 1) * 2 ^ h) ≡ n → c % 2 ≡ 0
  pub even_to : n ≡ square ((2 * c + 1) * 2 ^ h) → c % 2 ≡ 0
