-- `root::sqrt::even_power` meets its contract: an even power of 2 is a square, and an odd one twice a square. Assumes nothing.
use mathlib.Core.Path.{◌≡◌, ap, ◌∙◌}
use Prim.Native.Nat.{ℕ, suc, ◌+◌, ◌*◌, ◌/◌, ◌%◌, ◌^◌}
use native.Mathlib.Nat.{pow-succ'}
use native.Mathlib.Omega.{arith}
use lib.Pow.{pow-add}
use Rattle.root.proofs.sqrt.even_power.Goals as goal
use Rattle.root.proofs.sqrt.even_power.Goals.{then-n-eq0, else-n-eq0}

even : (power : ℕ) → power % 2 ≡ 0 → 2 ^ power ≡ 2 ^ (power / 2) * 2 ^ (power / 2)
even power h = let e : power ≡ power / 2 + power / 2 = omega arith in ap (λ (x : ℕ). 2 ^ x) e ∙ pow-add 2 (power / 2) (power / 2)

odd : (power : ℕ) → (power % 2 ≡ 0 → ⊥) → 2 ^ power ≡ 2 * (2 ^ (power / 2) * 2 ^ (power / 2))
odd power h =
    let e : power ≡ suc (power / 2 + power / 2) = omega arith in
    ap (λ (x : ℕ). 2 ^ x) e ∙ pow-succ' 2 (power / 2 + power / 2) ∙ ap (λ (x : ℕ). 2 * x) (pow-add 2 (power / 2) (power / 2))

pub returns : goal.returns
returns c =
    elim c.if-n-eq0.branch [
      | then-n-eq0 w ↦ record { is = rw (w.digits-is, even c.args.n.power w.if-n-eq0.true); low = omega arith; high = omega arith }
      | else-n-eq0 w ↦ record { is = rw (w.digits-is, odd c.args.n.power w.if-n-eq0.false) (omega arith); low = omega arith; high = omega arith }
    ]
