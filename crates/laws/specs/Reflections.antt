-- The claims of reflections of longer tails: which tails are taken and which are turned away, that tails of at most 3 numbers give what they gave when no longer one was taken, which numbers of a tail are multiplied, and that the norm goes from left to right. Definitions only: `longer_reflections` of proofs/Reflections.antt proves them. Assumes nothing.
use Rattle.std.specs.Prelude.{◌≤◌, ◌≡◌, true, false, ◌&&◌, cond, List, [], ◌∷◌, ◌++◌, map, leb, length, Float}
use Rattle.std.specs.Float.{Format}
use Rattle.std.specs.Float.Ieee.{mul, lt}
use Rattle.model.specs.Arith.{min_positive_of, abs, hypot, norm_l2}
use Rattle.model.specs.Householder.{Reflection, make_householder, tail_turned_away, make_householder_in_place}

-- the call as it was, with tails of 1 to 3 numbers
unfoldable pub base_reflection : Format → Float → List Float → Reflection
base_reflection f head tail = cond (leb 1 (length tail) && leb (length tail) 3) (make_householder f head tail) (tail_turned_away f tail)

-- 1 to 64 numbers
pub record Taken (tail : List Float) : Type 0 where
  pub least : 1 ≤ length tail
  pub most : length tail ≤ 64

pub record LongerReflections : Type 0 where
  -- a tail of 1 to 64 numbers is answered by the one rule, with 0
  pub rule : (f : Format) (head : Float) (tail : List Float) → Taken tail → make_householder_in_place f head tail ≡ make_householder f head tail
  pub done : (f : Format) (head : Float) (tail : List Float) → Taken tail → (make_householder_in_place f head tail).answer ≡ 0
  -- one of none or of more is turned away with 11, and stays
  pub empty : (f : Format) (head : Float) → make_householder_in_place f head [] ≡ tail_turned_away f []
  pub too_long : (f : Format) (head : Float) (tail : List Float) → 65 ≤ length tail → make_householder_in_place f head tail ≡ tail_turned_away f tail
  -- a tail of at most 3 numbers gives what it gave
  pub as_before : (f : Format) (head : Float) (tail : List Float) → length tail ≤ 3 → make_householder_in_place f head tail ≡ base_reflection f head tail
  -- where its norm is below min_positive the tail stays, else every number of it is multiplied by the head_with_beta_inv that is given
  pub stays : (f : Format) (head : Float) (tail : List Float) → lt (norm_l2 f tail) (min_positive_of f) ≡ true → (make_householder_in_place f head tail).tail ≡ tail
  pub scaled : (f : Format) (head : Float) (tail : List Float) → Taken tail → lt (norm_l2 f tail) (min_positive_of f) ≡ false
      → (make_householder_in_place f head tail).tail ≡ map (λ (x : Float). mul f x (make_householder_in_place f head tail).head_with_beta_inv) tail
  -- the norm from left to right: of one number its magnitude, and of one more behind them hypot of their norm and the new one
  pub norm_of_one : (f : Format) (x : Float) → norm_l2 f (x ∷ []) ≡ abs x
  pub norm_of_one_more : (f : Format) (x : Float) (xs : List Float) (y : Float) → norm_l2 f ((x ∷ xs) ++ (y ∷ [])) ≡ hypot f (norm_l2 f (x ∷ xs)) y
