-- `digits::whole::Radicand::small_root` meets its contract. The invariant: r is no lower than the root's whole part. Newton's step keeps it, from any r above 0, since four times a product is at most the
-- square of the sum; and it goes down from an r whose square is above d. Assumes nothing.
use mathlib.Core.Path.{◌≡◌}
use Prim.Native.Nat.{ℕ, ◌+◌, ◌-◌, ◌*◌, ◌/◌, ◌≤◌, ◌<◌}
use native.Mathlib.Nat.{mul-le-mul, lt-div-mul-add, div-lt_iff_lt-mul}
use native.Mathlib.Decide.{dec_le}
use native.Mathlib.Omega.{arith}
use Rattle.laws.proofs.WholeRoot.{root_unique}
use Rattle.digits.proofs.Short.{above_zero}
use Rattle.digits.proofs.whole.Radicand.small_root.Goals as goal

mean : (x y : ℕ) → 4 * (x * y) ≤ (x + y) * (x + y)
mean x y = elim (dec_le x y) [ yes h ↦ up x (y - x) y (omega arith) | no h ↦ down x y (up y (x - y) x (omega arith)) ]
  where
    up : (a z b : ℕ) → b ≡ a + z → 4 * (a * b) ≤ (a + b) * (a + b)
    up a z b e = rw e (omega arith)

    down : (a b : ℕ) → 4 * (b * a) ≤ (b + a) * (b + a) → 4 * (a * b) ≤ (a + b) * (a + b)
    down a b h = omega arith

step-above : (d r : ℕ) → 0 < r → d < ((r + d / r) / 2 + 1) * ((r + d / r) / 2 + 1)
step-above d r p =
    let k = d / r in
    let t = (r + k) / 2 + 1 in
    let a = lt-div-mul-add {a = d} p in
    let b = mean (k + 1) r in
    let c : (k + 1 + r) * (k + 1 + r) ≤ 2 * t * (2 * t) = mul-le-mul (omega arith) (omega arith) in
    omega arith

step-below : (d r : ℕ) → 0 < r → d < r * r → (r + d / r) / 2 < r
step-below d r p h = let k = (div-lt_iff_lt-mul p).1 h in omega arith

pub loop-r-preserved : goal.loop-r-preserved
loop-r-preserved c = let t = c.loop-r-test.true in let p = above_zero _ _ t in (step-above _ _ p, omega (arith, step-below _ _ p t))

pub returns-clause-is : goal.returns-clause-is
returns-clause-is c = root_unique _ _ (c.loop-r-test.false, c.loop-r.invariant.0)
