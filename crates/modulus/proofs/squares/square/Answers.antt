-- `modulus::squares::square` meets its contract: the square of s * 2 ^ 27 + q by its three products. Assumes nothing.
use mathlib.Core.Path.{◌≡◌, ap}
use Prim.Native.Nat.{ℕ, ◌+◌, ◌*◌, ◌/◌, ◌%◌}
use native.Mathlib.Omega.{arith}
use Rattle.modulus.proofs.squares.square.Goals as goal

halves : (x : ℕ) → (x / 0x800_0000 * 0x800_0000 + x % 0x800_0000) * (x / 0x800_0000 * 0x800_0000 + x % 0x800_0000) ≡ x * x
halves x = let e : x / 0x800_0000 * 0x800_0000 + x % 0x800_0000 ≡ x = omega arith in ap (λ (z : ℕ). z * z) e

pub returns : goal.returns
returns c = record { is = omega (arith, halves c.args.x); short = omega arith }
