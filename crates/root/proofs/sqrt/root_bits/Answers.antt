-- `root::sqrt::root_bits` meets its contract: the digits of the root, nearest, over its power. Assumes nothing.
use mathlib.Core.Path.{◌≡◌, refl}
use Prim.Native.Nat.{ℕ, ◌+◌, ◌*◌, ◌/◌, ◌^◌, ◌≤◌, ◌<◌}
use native.Mathlib.Omega.{arith}
use Rattle.model.specs.Root.{root}
use Rattle.digits.proofs.Short.{short}
use Rattle.root.proofs.RootBits.{is-root, no_nan}
use Rattle.root.proofs.sqrt.root_bits.Goals as goal

bound : {d k : ℕ} → d < 2 ^ 54 → k ≡ (root (d * 2 ^ 54) + 1) / 2 → k ≤ 2 ^ 53
bound {d} h e = omega (arith, short d (root (d * 2 ^ 54)) h refl)

pub overflow_add-result : goal.overflow_add-result
overflow_add-result c =
    omega (arith, bound c.even_power.ensures.high c.nearest_root.ensures)

pub returns : goal.returns
returns c =
    let k = c.nearest_root.ensures in
    let e = c.even_power.ensures in
    let s = c.split-n.ensures in
    let b = c.args.b in
    (rw k (is-root b.bits _ _ _ _ b.some b.finite s e refl), rw k (no_nan b.bits _ _ _ _ b.some b.finite s e refl))
