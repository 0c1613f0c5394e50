-- What code that works a root out from the digits rests on, for either format. Assumes nothing.
use mathlib.Core.Path.{◌≡◌, sym, ap, ◌∙◌, subst}
use Prim.Native.Nat.{ℕ, suc, ◌+◌, ◌*◌, ◌/◌, ◌^◌, ◌≤◌, ◌<◌}
use native.Mathlib.Omega.{arith}
use mathlib.Core.Bool.{false}
use lib.Pow.{pow_pos}
use lib.Ieee.{Format, prec, units, hid, of_bits}
use Rattle.model.specs.Root.{root, sqrt}
use Rattle.laws.specs.RootNearest.{IsRoot, infinite, pattern_value, in_squares}
use Rattle.laws.proofs.WholeRoot.{root_is, root-scale}
use Rattle.laws.proofs.Halfway.{round_halfway}
use Rattle.laws.proofs.Patterns.{pattern, finite_positive, twice_hid}
use Rattle.laws.proofs.RootNearest.{sqrt_positive}

-- The number of pattern b is A * 4 ^ h squares of the smallest value, and the root r of A has one digit more than the format keeps: half of r, rounded up, has the digits of its root.
pub root_by_digits : (f : Format) (b A h r : ℕ) → 0 < b → b < infinite f → in_squares f b ≡ A * (2 ^ h * 2 ^ h) → IsRoot A r → 2 ^ prec f ≤ r → r < 2 ^ suc (prec f)
    → suc h * hid f + (r + 1) / 2 < infinite f → of_bits f (suc h * hid f + (r + 1) / 2) ≡ sqrt f (of_bits f b)
unfolding pattern_value
root_by_digits f b A h r some fin e ir lo hi room =
    let n = in_squares f b in
    let R = root n in
    let s : R / 2 ^ h ≡ r = root-scale A (2 ^ h) r R (pow_pos h) ir (subst (λ (z : ℕ). IsRoot z R) e (root_is n)) in
    let t = twice_hid f in
    pattern f ((r + 1) / 2) (suc h) (record { lead = λ z. omega arith; short = omega arith; inside = room })
    ∙ ap (λ (z : ℕ). units f false ((z + 1) / 2) (suc h)) (sym s)
    ∙ sym (round_halfway f R h (rw s lo) (rw s hi))
    ∙ sym (sqrt_positive f (of_bits f b) (finite_positive f b some fin))
