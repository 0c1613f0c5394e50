-- A rotation of two numbers that stand side by side, both at once: to add a product with a negated number is to take the product off. Assumes nothing.
use mathlib.Core.Path.{◌≡◌, refl}
use mathlib.Core.List.{List, [], ◌∷◌}
use lib.Ieee.{Float, binary64, neg, add, sub, mul}
use Rattle.arith.proofs.Negated.{mul_neg}

pub both_at_once : (c s x y : Float) → add binary64 (mul binary64 c x) (mul binary64 s y) ∷ add binary64 (mul binary64 c y) (mul binary64 (neg s) x) ∷ [] ≡ add binary64 (mul binary64 c x) (mul binary64 s y) ∷ sub binary64 (mul binary64 c y) (mul binary64 s x) ∷ []
unfolding sub
both_at_once c s x y = rw (mul_neg binary64 s x)
