-- Tails of 1 to 64 numbers are answered by the one rule, all others turned away; the norm goes from left to right. Assumes nothing.
use native.Mathlib.Omega.{arith}
use mathlib.Core.Path.{◌≡◌, refl}
use mathlib.Core.Bool.{Bool, true, false, cond}
use mathlib.Core.List.{List, [], ◌∷◌, ◌++◌}
use lib.ListN.{length}
use lib.Ieee.{Float, Format, lt}
use borrow.Author.Tests.{le-leb, lt-leb}
use Rattle.model.specs.Arith.{min_positive_of, abs, hypot, norm_from, norm_l2}
use Rattle.model.specs.Householder.{Reflection, reflect_nothing, reflect_tail, make_householder, tail_fits, tail_turned_away, make_householder_in_place}
use Rattle.laws.specs.Reflections.{base_reflection, Taken, LongerReflections}

taken-fits : (tail : List Float) → Taken tail → tail_fits (length tail) ≡ true
unfolding tail_fits
taken-fits tail t = rw (le-leb 1 (length tail) t.least, le-leb (length tail) 64 t.most)

-- what holds of both holds of the one that is taken
either : (P : Reflection → Type 0) (b : Bool) (x y : Reflection) → P x → P y → P (cond b x y)
either P true x y p q = p
either P false x y p q = q

-- the rule gives 0 on either side of its test
answered : (f : Format) (head : Float) (tail : List Float) → (make_householder f head tail).answer ≡ 0
unfolding make_householder reflect_nothing reflect_tail
answered f head tail = either (λ (r : Reflection). r.answer ≡ 0) (lt (norm_l2 f tail) (min_positive_of f)) _ _ refl refl

-- one more number at the end of a list is taken last
taken-last : (f : Format) (a : Float) (xs : List Float) (y : Float) → norm_from f a (xs ++ (y ∷ [])) ≡ hypot f (norm_from f a xs) y
unfolding norm_from
taken-last f a [] y = refl
taken-last f a (x ∷ xs) y = taken-last f (hypot f a x) xs y

pub longer_reflections : LongerReflections
unfolding make_householder_in_place make_householder reflect_nothing reflect_tail tail_fits tail_turned_away base_reflection norm_l2 norm_from
longer_reflections =
    record {
      rule = λ f head tail t. rw (taken-fits tail t);
      done = λ f head tail t. rw (taken-fits tail t) (answered f head tail);
      empty = λ f head. refl;
      too_long = λ f head tail h. rw (le-leb 1 (length tail) (omega (arith, h)), lt-leb (length tail) 64 h);
      as_before = λ f head tail h. rw (le-leb (length tail) 64 (omega (arith, h)), le-leb (length tail) 3 h);
      stays = λ f head tail h. rw h (either (λ (r : Reflection). r.tail ≡ tail) (tail_fits (length tail)) _ _ refl refl);
      scaled = λ f head tail t h. rw (taken-fits tail t, h);
      norm_of_one = λ f x. refl;
      norm_of_one_more = λ f x xs y. taken-last f (abs x) xs y;
    }
