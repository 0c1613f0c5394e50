-- `digits::whole::Radicand::near_half` meets its contract, by what the step of Newton's gives. Assumes nothing.
use Rattle.std.proofs.Common.{ℕ, Some, refl, ◌-◌, ◌*◌, ◌/◌, ◌^◌, ◌≤◌, ◌<◌, arith}
use native.Mathlib.Nat.{mul-le-mul}
use Rattle.digits.specs.Digits.{Left}
use Rattle.digits.proofs.Left.{rest}
use Rattle.digits.proofs.Short.{above_zero}
use Rattle.digits.proofs.whole.Radicand.near_half.Goals as goal

-- what is left, times the inverse, is short
short : (r i : ℕ) → r < 0xf_0000_0000 → i < 2 ^ 32 → r / 16 * i ≤ 0xf000_0000 * 2 ^ 32
short r i h g =
    let a : r / 16 ≤ 0xf000_0000 = omega arith in
    let b : i ≤ 2 ^ 32 = omega arith in
    mul-le-mul a b

-- a root is there
there : {x s r : ℕ} → 2 ^ 62 ≤ x → Left x (s * s) 0xf_0000_0000 (Some r) → 0 < s
there {x} {s} h l = let g = rest l in above_zero (x - 0xf_0000_0000) s (omega (arith, g.is, g.short, g.within))

pub overflow_add-result : goal.overflow_add-result
overflow_add-result c =
    let f = c.near_root-root.ensures.fits in omega (arith, short _ _ (rest c.in_ok-rest.ensures).short f.1)

pub returns : goal.returns
returns c =
    let s = c.near_root-root.ensures.step in
    let f = c.near_root-root.ensures.fits in
    let p = short _ _ (rest c.in_ok-rest.ensures).short f.1 in
    let q = there c.requires c.in_ok-rest.ensures in
    (s.0, s.1, record { root = c.near_root-root.result.root; inverse = c.near_root-root.result.inverse; step = s.2; is = rw (← c.in_ok-rest.ensures.is) refl; fits = (omega (arith, q), omega (arith, p, f.0)) })
