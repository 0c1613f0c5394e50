-- A number and its pattern, for the rotation that is known beforehand. Assumes nothing.
use mathlib.Core.Path.{◌≡◌, sym, ap, ◌∙◌, subst}
use mathlib.Core.Bool.{true, not, ◌&&◌}
use Prim.Native.Nat.{ℕ}
use lib.Dec.{T, eqb}
use lib.Ieee.{Float, binary64, fits, is_nan, of_bits, to_bits}
use lib.Ieee.Bits.{of_bits-to_bits}
use borrow.Author.Tests.{eqb-true}
use Rattle.std.proofs.lemmas.Bool.{and_parts}
use Rattle.swaps.specs.Ahead.{turn, same}

-- a number is that of its pattern
pub of_own : (x : Float) → fits binary64 x ≡ true → of_bits binary64 (to_bits binary64 x) ≡ x
of_own x w = of_bits-to_bits binary64 x (subst T (sym w) tt)

-- and of any pattern that is the same
of_same : (k : ℕ) (x : Float) → fits binary64 x ≡ true → same k x ≡ true → of_bits binary64 k ≡ x
of_same k x w h = rw (← eqb-true (to_bits binary64 x) k (and_parts (not (is_nan x)) (eqb (to_bits binary64 x) k) h).1) (of_own x w)

pub turn_known : (k l : ℕ) (p q : Float) → fits binary64 p ≡ true → fits binary64 q ≡ true → (same k p && same l q) ≡ true → turn (of_bits binary64 k) (of_bits binary64 l) ≡ turn p q
turn_known k l p q v w h =
    let x = and_parts (same k p) (same l q) h in
    rw (of_same k p v x.0, of_same l q w x.1)
