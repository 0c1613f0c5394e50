-- `digits::whole::Radicand::near_inverse` meets its contract: no higher than the line's start, and no lower than its end. Assumes nothing.
use Prim.Native.Nat.{ℕ, ◌+◌, ◌-◌, ◌*◌, ◌/◌, ◌%◌, ◌^◌, ◌≤◌, ◌<◌}
use native.Mathlib.Nat.{mul-le-mul, mul-le-mul_right, mul-le-mul_left, le_of_lt}
use native.Mathlib.Omega.{arith}
use Rattle.digits.specs.Digits.{Under}
use Rattle.digits.proofs.whole.Radicand.near_inverse.Goals as goal

-- of the fall f, a part
part : (f a : ℕ) → a < 2 ^ 32 → f * a ≤ f * 2 ^ 32
part f a h = mul-le-mul_left f (le_of_lt h)

-- r between 2 ^ 8 times the ends h and e
between : (i h e r : ℕ) → Under i h → Under (i + 1) e → r ≤ h * 2 ^ 8 → e * 2 ^ 8 ≤ r → (r * r * i < 2 ^ 69) × (2 ^ 69 ≤ r * r * (i + 1) + 2 ^ 56)
between i h e r p q u l =
    let x : r * r * i ≤ h * 2 ^ 8 * (h * 2 ^ 8) * i = mul-le-mul_right i (mul-le-mul u u) in
    let y : e * 2 ^ 8 * (e * 2 ^ 8) * (i + 1) ≤ r * r * (i + 1) = mul-le-mul_right (i + 1) (mul-le-mul l l) in
    (omega (arith, p.0), omega (arith, q.1))

pub returns : goal.returns
returns c =
    let line = c.line_at-line.result in
    let l = c.line_at-line.ensures in
    let d = c.args.self.digits in
    let p = part (line % 2 ^ 24) (d / 0x8000 % 2 ^ 32) (omega arith) in
    let b = between (d / 2 ^ 47) (line / 2 ^ 24) (line / 2 ^ 24 - line % 2 ^ 24) (line / 2 ^ 24 * 2 ^ 8 - line % 2 ^ 24 * (d / 0x8000 % 2 ^ 32) / 2 ^ 24) l.start l.end (omega arith) (omega (arith, l.falls)) in
    record { short = omega (arith, l.short); high = b.0; low = b.1 }
