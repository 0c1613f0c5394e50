-- How code cuts the sum of two squares to the digits that it works with, and what it finds of them. Definitions only: proofs/Cut.antt says what follows. Assumes nothing.
use Rattle.std.specs.Prelude.{◌≡◌, ℕ, ◌+◌, ◌-◌, ◌*◌, ◌%◌, ◌^◌, ◌≤◌, ◌<◌}
use Rattle.laws.specs.RootNearest.{square}

-- F is n without its last h pairs of digits, and rest is 0 exactly where those are zeros
pub record Cut (n h F rest : ℕ) : Type 0 where
  pub from : F * (2 ^ h * 2 ^ h) ≤ n
  pub to : n < (F + 1) * (2 ^ h * 2 ^ h)
  pub exact : rest ≡ 0 → n ≡ F * (2 ^ h * 2 ^ h)
  pub more : 0 < rest → F * (2 ^ h * 2 ^ h) < n

-- c, with s zeros after it, is nearest to half the root of F and a part of 1 that is 0 exactly where rest is; ties to even
pub record NearestHalf (F rest s c : ℕ) : Type 0 where
  pub from : square ((2 * c - 1) * 2 ^ s) ≤ F
  pub to : F ≤ square ((2 * c + 1) * 2 ^ s)
  pub even_from : square ((2 * c - 1) * 2 ^ s) ≡ F → rest ≡ 0 → c % 2 ≡ 0
  pub even_to : F ≡ square ((2 * c + 1) * 2 ^ s) → (rest ≡ 0) × (c % 2 ≡ 0)
