-- The rotation of an exchange of two single rows by its two numbers, and those of the exchange that comes next. Definitions only. Assumes nothing.
use Rattle.std.specs.Prelude.{ℕ, ◌+◌, ◌-◌, Bool, not, ◌&&◌, ◌||◌, List, eqb, leb, Float}
use Rattle.std.specs.Float.{binary64}
use Rattle.std.specs.Float.Ieee.{sub, is_nan, to_bits}
use Rattle.model.specs.Form.{entry, two_block}
use Rattle.model.specs.Exchange.{crosses}
use Rattle.model.specs.Jacobi.{Rotation, rotg, adjoint, Pair, apply_right}
use Rattle.swaps.specs.declared.ahead.Way.{Way}
use Rattle.swaps.specs.declared.ahead.Way.TheVariants.{Up, Down}

-- the rotation that exchanges two rows, of the number beside them and the difference of their diagonal numbers
abbrev pub turn : Float → Float → Rotation
turn p q = adjoint (rotg binary64 p q).rot

-- x is the number of pattern k
abbrev pub same : ℕ → Float → Bool
same k x = not (is_nan x) && eqb (to_bits binary64 x) k

-- after the exchange of rows j and j + 1 no single row comes that way
unfoldable pub last : Way → ℕ → ℕ → ℕ → List Float → Bool
last Up ld n j t = eqb j 0 || crosses binary64 ld n t (j - 1)
last Down ld n j t = leb n (j + 2) || two_block binary64 ld n t (j + 2)

-- the numbers of the exchange that comes next, from the form as it is before this one
unfoldable pub beside : Way → ℕ → ℕ → Rotation → List Float → Pair
unfolding apply_right
beside Up ld j r t =
    record { x = (apply_right binary64 r (entry ld t (j - 1) j) (entry ld t (j - 1) (j + 1))).x; y = sub binary64 (entry ld t (j + 1) (j + 1)) (entry ld t (j - 1) (j - 1)) }
beside Down ld j r t = record { x = (apply_right binary64 r (entry ld t j (j + 2)) (entry ld t (j + 1) (j + 2))).y; y = sub binary64 (entry ld t (j + 2) (j + 2)) (entry ld t j j) }
