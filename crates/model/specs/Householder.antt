-- Reflections: make_householder_in_place on a head and a tail. Definitions only. Assumes nothing.
use Rattle.std.specs.Prelude.{ℕ, Bool, ◌&&◌, cond, List, map, leb, length, Float}
use Rattle.std.specs.Float.{Format}
use Rattle.std.specs.Float.Ieee.{neg, add, mul, lt, ne}
use Rattle.model.specs.Arith.{zero_of, one_of, half_of, infinity_of, min_positive_of, abs, abs2, recip, hypot, norm_l2}

-- the answer of a reflection: its number, its four results, and what the tail then holds
pub record Reflection : Type 0 where
  pub answer : ℕ
  pub head : Float
  pub tau : Float
  pub head_with_beta_inv : Float
  pub norm : Float
  pub tail : List Float

-- a head below min_positive in magnitude becomes +0
unfoldable pub flushed : Format → Float → Float
unfolding abs
flushed f head = cond (lt (abs head) (min_positive_of f)) (zero_of f) head

-- the head times the rounded reciprocal of its magnitude, and 1 where that is zero
unfoldable pub sign_of : Format → Float → Float
unfolding abs
sign_of f head = cond (ne (abs head) (zero_of f)) (mul f head (recip f (abs head))) (one_of f)

-- a tail of a norm t that is below min_positive stays
unfoldable pub reflect_nothing : Format → Float → List Float → Reflection
unfolding abs
reflect_nothing f head tail = record { answer = 0; head = head; tau = infinity_of f; head_with_beta_inv = infinity_of f; norm = abs head; tail = tail }

-- a tail of any other norm t is multiplied by the reciprocal of head + sign * norm
unfoldable pub reflect_tail : Format → Float → Float → List Float → Reflection
unfolding abs sign_of hypot
reflect_tail f head t tail =
    let norm = hypot f (abs head) t in
    let signed = mul f (sign_of f head) norm in
    let inv = recip f (add f head signed) in
    record {
      answer = 0;
      head = neg signed;
      tau = mul f (half_of f) (add f (one_of f) (abs2 f (mul f t (abs inv))));
      head_with_beta_inv = inv;
      norm = norm;
      tail = map (λ (x : Float). mul f x inv) tail;
    }

-- a tail of any length
unfoldable pub make_householder : Format → Float → List Float → Reflection
unfolding norm_l2 flushed reflect_nothing reflect_tail
make_householder f head tail =
    cond (lt (norm_l2 f tail) (min_positive_of f)) (reflect_nothing f (flushed f head) tail) (reflect_tail f (flushed f head) (norm_l2 f tail) tail)

-- line 11 of the list does not apply: the tail has 1 to 64 numbers
unfoldable pub tail_fits : ℕ → Bool
tail_fits k = leb 1 k && leb k 64

-- what a call that is turned away gives: its number, zeros, and the tail as it came
unfoldable pub tail_turned_away : Format → List Float → Reflection
tail_turned_away f tail = record { answer = 11; head = zero_of f; tau = zero_of f; head_with_beta_inv = zero_of f; norm = zero_of f; tail = tail }

-- the call
unfoldable pub make_householder_in_place : Format → Float → List Float → Reflection
unfolding tail_fits make_householder tail_turned_away
make_householder_in_place f head tail = cond (tail_fits (length tail)) (make_householder f head tail) (tail_turned_away f tail)
