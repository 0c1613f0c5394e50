-- One reflection of m + 1 numbers of a list, those from place p on, of the vector (1, v). Definitions only. Assumes nothing.
use Rattle.std.specs.Prelude.{ℕ, zero, suc, ◌≡◌, ◌+◌, ◌-◌, List, drop, set, Float}
use Rattle.std.specs.Float.{binary64}
use Rattle.std.specs.Float.Ieee.{add, sub, mul}
use Rattle.model.specs.Arith.{recip}
use Rattle.model.specs.Form.{at}
use Rattle.model.specs.Householder.{Reflection, make_householder}

-- the vector's product with them
abbrev pub product_of : ℕ → ℕ → List Float → List Float → Float
product_of zero p v x = at x p
product_of (suc m) p v x = add binary64 (product_of m p v x) (mul binary64 (at v m) (at x (p + 1 + m)))

-- each less its part of k
abbrev pub less_of : ℕ → ℕ → Float → List Float → List Float → List Float
less_of zero p k v x = set x p (sub binary64 (at x p) k)
less_of (suc m) p k v x = set (less_of m p k v x) (p + 1 + m) (sub binary64 (at x (p + 1 + m)) (mul binary64 k (at v m)))

abbrev pub reflects_from : ℕ → ℕ → Float → List Float → List Float → List Float
reflects_from m p tau v x = less_of m p (mul binary64 (product_of m p v x) tau) v x

-- the reflection made of the number at place p and those behind it
abbrev pub reflection_of : ℕ → List Float → Reflection
reflection_of p x = make_householder binary64 (at x p) (drop (p + 1) x)

-- the two reflections of the columns a and b: of a's last m1 + 1 numbers, and of the last m2 + 1 of what that
-- makes of b
pub record IsReflectors (m1 m2 n : ℕ) (a b : List Float) (tau1 : Float) (v1 : List Float) (tau2 : Float) (v2 : List Float) : Type 0 where
  pub first : (tau1 ≡ recip binary64 (reflection_of (n - (m1 + 1)) a).tau) × (v1 ≡ (reflection_of (n - (m1 + 1)) a).tail)
  pub second : (tau2 ≡ recip binary64 (reflection_of (n - (m2 + 1)) (reflects_from m1 (n - (m1 + 1)) tau1 v1 b)).tau) × (v2 ≡ (reflection_of (n - (m2 + 1)) (reflects_from m1 (n - (m1 + 1)) tau1 v1 b)).tail)
