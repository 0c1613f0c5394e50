-- A product with a negated number is the product negated, in every bit. Assumes nothing.
use mathlib.Core.Path.{◌≡◌, refl, ap, ◌∙◌}
use Prim.Native.Nat.{ℕ, zero, suc, ◌+◌, ◌*◌, ◌^◌}
use mathlib.Core.Bool.{Bool, true, false, not, cond}
use mathlib.Core.List.{List, [], ◌∷◌}
use lib.Dec.{eqb, ltb}
use lib.Ieee.{Float, nan, inf, fin, Format, binary64, neg, add, sub, mul, round, units, odd, unlike, low, emax, prec}

odd_neg : (d : ℕ) (s : Bool) (q k l : ℕ) → odd d (not s) q k l ≡ neg (odd d s q k l)
unfolding odd neg
odd_neg d s zero k l = refl
odd_neg d s (suc q) k l = refl

either : (b : Bool) (x y : Float) → cond b (neg x) (neg y) ≡ neg (cond b x y)
either true x y = refl
either false x y = refl

units_neg : (f : Format) (s : Bool) (q k : ℕ) → units f (not s) q k ≡ neg (units f s q k)
unfolding units neg
units_neg f s q k =
    let small = ltb (q * 2 ^ k) (2 ^ (low f + suc (emax f))) in
    let x = odd (suc (prec f)) s q k (low f) in
    ap (λ (z : Float). cond small z (inf (not s))) (odd_neg (suc (prec f)) s q k (low f)) ∙ either small x (inf s)

round_neg : (f : Format) (s : Bool) (a b : ℕ) → round f (not s) a b ≡ neg (round f s a b)
unfolding round
round_neg f s a b = units_neg f s _ _

unlike_not : (s t : Bool) → unlike (not s) t ≡ not (unlike s t)
unlike_not true true = refl
unlike_not true false = refl
unlike_not false true = refl
unlike_not false false = refl

pub mul_neg : (f : Format) (x y : Float) → mul f (neg x) y ≡ neg (mul f x y)
unfolding mul neg
mul_neg f nan y = refl
mul_neg f (inf s) nan = refl
mul_neg f (inf s) (inf t) = ap inf (unlike_not s t)
mul_neg f (inf s) (fin t n d) = rw (unlike_not s t) (either (eqb n 0) nan (inf (unlike s t)))
mul_neg f (fin s m e) nan = refl
mul_neg f (fin s m e) (inf t) = rw (unlike_not s t) (either (eqb m 0) nan (inf (unlike s t)))
mul_neg f (fin s m e) (fin t n d) = rw (unlike_not s t) (round_neg f (unlike s t) _ _)
