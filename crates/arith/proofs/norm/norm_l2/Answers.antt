-- `arith::norm::norm_l2` meets its contract: the definition is a fold. Assumes nothing.
use Rattle.std.proofs.Common.{◌≡◌, List, [], ◌∷◌, length, refl, ◌∙◌, arith}
use Rattle.std.specs.List.{fold}
use lib.Ieee.{Float, binary64, of_bits}
use Rattle.model.specs.Arith.{abs, hypot, norm_from, norm_l2}
use Rattle.arith.proofs.norm.norm_l2.Goals as goal

folded : (a : Float) (xs : List Float) → fold (λ (n y : Float). hypot binary64 n y) a xs ≡ norm_from binary64 a xs
unfolding norm_from
folded a [] = refl
folded a (x ∷ xs) = folded (hypot binary64 a x) xs

whole : (x : Float) (xs ys : List Float) → ys ≡ x ∷ xs → fold (λ (n y : Float). hypot binary64 n y) (abs x) xs ≡ norm_l2 binary64 ys
unfolding norm_l2
whole x xs ys e = rw e (folded (abs x) xs)

nothing : (xs : List Float) → length xs ≡ 0 → of_bits binary64 0 ≡ norm_l2 binary64 xs
unfolding norm_l2
nothing [] h = refl
nothing (x ∷ xs) h = absurd (omega arith)

pub returns-in-Some : goal.returns-in-Some
returns-in-Some c =
    c.norm_from.ensures ∙ rw c.abs.ensures (whole _ _ _ c.in-Some.ensures.cases.0)

pub returns-in-None : goal.returns-in-None
returns-in-None c = nothing c.args.x.now c.in-None.ensures.cases
