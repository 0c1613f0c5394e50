-- A NaN goes through rotg. Assumes nothing.
use mathlib.Core.Path.{◌≡◌, refl, sym}
use mathlib.Core.Bool.{Bool, true, false, cond, ◌||◌, true≢false}
use lib.Ieee.{Float, Format, nan, inf, fin, add, mul, div, neg, eq, lt, is_nan}
use Rattle.model.specs.Root.{sqrt}
use Rattle.model.specs.Arith.{zero_of, abs, fmax}
use Rattle.model.specs.Jacobi.{rotg_scale, rotg_norm, rotg_signed, rotg_larger, rotg}

add_nan : (f : Format) (x : Float) → add f x nan ≡ nan
unfolding add
add_nan f nan = refl
add_nan f (inf s) = refl
add_nan f (fin s m e) = refl

mul_nan : (f : Format) (x : Float) → mul f x nan ≡ nan
unfolding mul
mul_nan f nan = refl
mul_nan f (inf s) = refl
mul_nan f (fin s m e) = refl

div_nan : (f : Format) (x : Float) → div f x nan ≡ nan
unfolding div
div_nan f nan = refl
div_nan f (inf s) = refl
div_nan f (fin s m e) = refl

nan_div : (f : Format) (x : Float) → div f nan x ≡ nan
unfolding div
nan_div f x = refl

sqrt_nan : (f : Format) → sqrt f nan ≡ nan
unfolding sqrt
sqrt_nan f = refl

norm_nan : (f : Format) (p : Float) → rotg_norm f p nan ≡ nan
unfolding rotg_norm
norm_nan f p =
    let k = rotg_scale f p nan in
    rw (nan_div f k, mul_nan f nan, add_nan f (mul f (div f p k) (div f p k)), sqrt_nan f, mul_nan f k)

either : (b : Bool) → cond b nan nan ≡ nan
either true = refl
either false = refl

signed_nan : (f : Format) (p : Float) → rotg_signed f p nan ≡ nan
unfolding rotg_signed neg
signed_nan f p = rw (norm_nan f p) (either (lt (zero_of f) (rotg_larger p nan)))

pub nan_only : (x : Float) → is_nan x ≡ true → x ≡ nan
unfolding is_nan
nan_only nan e = refl
nan_only (inf s) e = absurd (true≢false (sym e))
nan_only (fin s m d) e = absurd (true≢false (sym e))

number : (x : Float) → is_nan x ≡ false → is_nan (abs x) ≡ false
unfolding abs is_nan
number nan e = e
number (inf s) e = refl
number (fin s m e) h = refl

either_way : (b : Bool) (x y : Float) → cond b x y ≡ cond (b || false) x y
either_way true x y = refl
either_way false x y = refl

-- with no NaN for q, fmax is one comparison
pub one_test : (p q : Float) → is_nan q ≡ false → cond (lt (abs q) (abs p)) (abs p) (abs q) ≡ fmax (abs p) (abs q)
unfolding fmax
one_test p q h = rw (number q h) (either_way (lt (abs q) (abs p)) (abs p) (abs q))

-- a NaN for q, p not zero: all three are NaN
pub rotg_nan : (f : Format) (p : Float) → eq p (zero_of f) ≡ false → rotg f p nan ≡ record { rot = record { c = nan; s = nan }; r = nan }
unfolding rotg eq neg
rotg_nan f p h = rw (h, signed_nan f p, div_nan f p, div_nan f (neg nan))

-- a NaN for p, and q not zero
nan_add : (f : Format) (x : Float) → add f nan x ≡ nan
unfolding add
nan_add f x = refl

nan-norm : (f : Format) (q : Float) → rotg_norm f nan q ≡ nan
unfolding rotg_norm
nan-norm f q =
    let k = rotg_scale f nan q in
    rw (nan_div f k, mul_nan f nan, nan_add f (mul f (div f q k) (div f q k)), sqrt_nan f, mul_nan f k)

nan_signed : (f : Format) (q : Float) → rotg_signed f nan q ≡ nan
unfolding rotg_signed neg
nan_signed f q = rw (nan-norm f q) (either (lt (zero_of f) (rotg_larger nan q)))

pub nan_rotg : (f : Format) (q : Float) → eq q (zero_of f) ≡ false → rotg f nan q ≡ record { rot = record { c = nan; s = nan }; r = nan }
unfolding rotg eq neg
nan_rotg f q h = rw (h, nan_signed f q, nan_div f nan, div_nan f (neg q))
