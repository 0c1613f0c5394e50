-- Rotations: the pair c and s, rotg's real branch, the adjoint, and a rotation applied on the right to one pair of numbers. Definitions only. Assumes nothing.
use Rattle.std.specs.Prelude.{cond, Float}
use Rattle.std.specs.Float.{Format}
use Rattle.std.specs.Float.Ieee.{neg, add, sub, mul, div, lt, eq}
use Rattle.model.specs.Root.{sqrt}
use Rattle.model.specs.Arith.{zero_of, one_of, min_positive_of, abs, abs2, recip, fmax, fmin}

pub record Rotation : Type 0 where
  pub c : Float
  pub s : Float

-- a rotation, with the r that it makes of p and q
pub record Rotg : Type 0 where
  pub rot : Rotation
  pub r : Float

-- the larger of the two magnitudes, kept within min_positive and its reciprocal
unfoldable pub rotg_scale : Format → Float → Float → Float
unfolding abs fmax fmin
rotg_scale f p q = fmin (fmax (fmax (abs p) (abs q)) (min_positive_of f)) (recip f (min_positive_of f))

-- the root of p * p + q * q, worked at that scale
unfoldable pub rotg_norm : Format → Float → Float → Float
unfolding rotg_scale sqrt
rotg_norm f p q = let k = rotg_scale f p q in mul f k (sqrt f (add f (abs2 f (div f p k)) (abs2 f (div f q k))))

-- the number that is larger in magnitude, q at a tie
unfoldable pub rotg_larger : Float → Float → Float
unfolding abs
rotg_larger p q = cond (lt (abs q) (abs p)) p q

-- that root with the sign of the larger number
unfoldable pub rotg_signed : Format → Float → Float → Float
unfolding rotg_norm rotg_larger
rotg_signed f p q = cond (lt (zero_of f) (rotg_larger p q)) (rotg_norm f p q) (neg (rotg_norm f p q))

unfoldable pub rotg : Format → Float → Float → Rotg
unfolding rotg_signed
rotg f p q =
    cond (eq q (zero_of f)) (record { rot = record { c = one_of f; s = zero_of f }; r = p })
    (cond (eq p (zero_of f)) (record { rot = record { c = zero_of f; s = neg (one_of f) }; r = q })
    (let r = rotg_signed f p q in record { rot = record { c = div f p r; s = div f (neg q) r }; r = r }))

-- s negated, a zero's sign too
unfoldable pub adjoint : Rotation → Rotation
adjoint j = record { c = j.c; s = neg j.s }

-- two numbers of one row
pub record Pair : Type 0 where
  pub x : Float
  pub y : Float

-- applied on the right, both from the old pair
unfoldable pub apply_right : Format → Rotation → Float → Float → Pair
apply_right f j x y = record { x = add f (mul f j.c x) (mul f j.s y); y = sub f (mul f j.c y) (mul f j.s x) }
