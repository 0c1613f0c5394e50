-- A product has no order, and two numbers that are equal have the same bits or are zeros of unlike signs. Assumes nothing.
use mathlib.Core.Path.{◌≡◌, refl, sym, ap, ◌∙◌}
use mathlib.Core.Bool.{Bool, true, false, ◌&&◌, ◌||◌, beq, true≢false}
use mathlib.Core.Logic.{◌⊎◌, inl, inr}
use Prim.Native.Nat.{ℕ, zero, suc, ◌*◌, ◌%◌, ◌^◌, ◌<◌}
use native.Mathlib.Nat.{mul_comm, mul_left_comm, mul-one, zero-mul, mul-pos, zero-lt-suc, pow-succ'}
use native.Mathlib.Omega.{arith}
use lib.Dec.{T, eqb, ltb, leb, eqb→eq}
use lib.IntN.{ℤ, pos, negsuc}
use lib.Ieee.{Float, nan, inf, fin, Format, binary32, binary64, prec, emax, low, up, down, unlike, neg, mul, eq, ne, fits, of_bits}
use lib.Ieee.Fits.{up_pos, down_pos, and_l}
use lib.Pow.{pow_pos}
use borrow.Author.Tests.{eqb-true, ne_eqb}
use Rattle.model.specs.Arith.{zero_of}
use Rattle.laws_exchange.proofs.Parts.{both_true}
use Rattle.laws_values.specs.Blocks.{UnlikeZeros}

-- ---- a product has no order

unlike_sym : (s t : Bool) → unlike s t ≡ unlike t s
unlike_sym true true = refl
unlike_sym true false = refl
unlike_sym false true = refl
unlike_sym false false = refl

pub mul_sym : (f : Format) (x y : Float) → mul f x y ≡ mul f y x
unfolding mul
mul_sym f nan nan = refl
mul_sym f nan (inf t) = refl
mul_sym f nan (fin t n d) = refl
mul_sym f (inf s) nan = refl
mul_sym f (inf s) (inf t) = rw (unlike_sym s t)
mul_sym f (inf s) (fin t n d) = rw (unlike_sym s t)
mul_sym f (fin s m e) nan = refl
mul_sym f (fin s m e) (inf t) = rw (unlike_sym s t)
mul_sym f (fin s m e) (fin t n d) = rw (unlike_sym s t, mul_comm (m * up e) (n * up d), mul_comm (down e) (down d))

-- ---- +0 is zero, and so is a zero of either sign

pub zero-equal : (f : Format) (s : Bool) → eq (fin s 0 (pos 0)) (zero_of f) ≡ true
unfolding eq of_bits
zero-equal binary32 true = refl
zero-equal binary32 false = refl
zero-equal binary64 true = refl
zero-equal binary64 false = refl

pub zero-is_zero : (f : Format) → ne (zero_of f) (zero_of f) ≡ false
unfolding ne eq of_bits
zero-is_zero binary32 = refl
zero-is_zero binary64 = refl

-- ---- a value is written in one way: with an odd number of units, or as 0 with the exponent 0

not_even : (m t : ℕ) → m % 2 ≡ 1 → m ≡ 2 * t → ⊥
not_even m t o h = omega arith

-- an odd number times a power of two
twice : (x b : ℕ) → x * 2 ^ suc b ≡ 2 * (x * 2 ^ b)
twice x b = ap (λ (y : ℕ). x * y) (pow-succ' 2 b) ∙ mul_left_comm x 2 (2 ^ b)

odd_powers : (m n a b : ℕ) → m % 2 ≡ 1 → n % 2 ≡ 1 → m * 2 ^ a ≡ n * 2 ^ b → (m ≡ n) × (a ≡ b)
odd_powers m n zero zero o p h = (sym (mul-one m) ∙ h ∙ mul-one n, refl)
odd_powers m n zero (suc b) o p h = absurd (not_even m (n * 2 ^ b) o (sym (mul-one m) ∙ h ∙ twice n b))
odd_powers m n (suc a) zero o p h = absurd (not_even n (m * 2 ^ a) p (sym (mul-one n) ∙ sym h ∙ twice m a))
odd_powers m n (suc a) (suc b) o p h =
    let k : 2 * (m * 2 ^ a) ≡ 2 * (n * 2 ^ b) = sym (twice m a) ∙ h ∙ twice n b in
    let r = odd_powers m n a b o p (omega arith) in
    (r.0, ap suc r.1)

one_way : (m n : ℕ) (e d : ℤ) → m % 2 ≡ 1 → n % 2 ≡ 1 → m * up e * down d ≡ n * up d * down e → (m ≡ n) × (e ≡ d)
one_way m n (pos a) (pos b) o p h = let r = odd_powers m n a b o p (sym (mul-one (m * 2 ^ a)) ∙ h ∙ mul-one (n * 2 ^ b)) in (r.0, ap pos r.1)
one_way m n (pos a) (negsuc b) o p h = absurd (not_even n (m * 2 ^ a * 2 ^ b) p (sym (mul-one n) ∙ sym (mul-one (n * 1)) ∙ sym h ∙ twice (m * 2 ^ a) b))
one_way m n (negsuc a) (pos b) o p h = absurd (not_even m (n * 2 ^ b * 2 ^ a) o (sym (mul-one m) ∙ sym (mul-one (m * 1)) ∙ h ∙ twice (n * 2 ^ b) a))
one_way m n (negsuc a) (negsuc b) o p h =
    let r = odd_powers m n (suc b) (suc a) o p (ap (λ (x : ℕ). x * 2 ^ suc b) (sym (mul-one m)) ∙ h ∙ ap (λ (x : ℕ). x * 2 ^ suc a) (mul-one n)) in
    let g = r.1 in
    let k : a ≡ b = omega arith in
    (r.0, ap negsuc k)

is_odd : (f : Format) (s : Bool) (m : ℕ) (e : ℤ) → T (fits f (fin s (suc m) e)) → suc m % 2 ≡ 1
unfolding fits
is_odd f s m e t =
    eqb→eq (suc m % 2) 1 (and_l (eqb (suc m % 2) 1) (ltb (suc m) (2 ^ prec f)) (and_l (eqb (suc m % 2) 1 && ltb (suc m) (2 ^ prec f)) (leb (down e) (2 ^ low f))
    (and_l (eqb (suc m % 2) 1 && ltb (suc m) (2 ^ prec f) && leb (down e) (2 ^ low f)) (ltb (suc m * up e) (2 ^ suc (emax f) * down e)) t)))

not_one : (p : ℕ) → 0 < p → 2 * p ≡ 1 → ⊥
not_one p h e = omega arith

no_exponent : (f : Format) (s : Bool) (e : ℤ) → T (fits f (fin s zero e)) → e ≡ pos 0
unfolding fits
no_exponent f s (pos zero) t = refl
no_exponent f s (pos (suc k)) t = absurd (not_one (2 ^ k) (pow_pos k) (sym (pow-succ' 2 k) ∙ sym (mul-one (2 ^ suc k)) ∙ eqb→eq (2 ^ suc k * 1) 1 t))
no_exponent f s (negsuc k) t = absurd (not_one (2 ^ k) (pow_pos k) (sym (pow-succ' 2 k) ∙ sym (mul_comm 1 (2 ^ suc k) ∙ mul-one (2 ^ suc k)) ∙ eqb→eq (1 * 2 ^ suc k) 1 t))

-- ---- equal numbers

above_zero : (n : ℕ) (d e : ℤ) → 0 < suc n * up d * down e
above_zero n d e = mul-pos (mul-pos (zero-lt-suc n) (up_pos d)) (down_pos e)

nothing : (e d : ℤ) → zero * up e * down d ≡ 0
nothing e d = ap (λ (y : ℕ). y * down d) (zero-mul (up e)) ∙ zero-mul (down d)

same_sign : (s t : Bool) → beq s t ≡ true → s ≡ t
same_sign true true h = refl
same_sign true false h = absurd (true≢false (sym h))
same_sign false true h = absurd (true≢false (sym h))
same_sign false false h = refl

first-of : (a b : Bool) → b ≡ false → (a || b) ≡ true → a ≡ true
first-of true b e h = refl
first-of false b e h = absurd (true≢false (sym h ∙ e))

pub equal_bits : (f : Format) (a d : Float) → T (fits f a) → T (fits f d) → eq a d ≡ true → (a ≡ d) ⊎ UnlikeZeros f a d
unfolding eq neg
equal_bits f nan y p q h = absurd (true≢false (sym h))
equal_bits f (inf s) nan p q h = absurd (true≢false (sym h))
equal_bits f (inf s) (inf t) p q h = inl (ap inf (same_sign s t h))
equal_bits f (inf s) (fin t n d) p q h = absurd (true≢false (sym h))
equal_bits f (fin s m e) nan p q h = absurd (true≢false (sym h))
equal_bits f (fin s m e) (inf t) p q h = absurd (true≢false (sym h))
equal_bits f (fin true zero e) (fin true zero d) p q h = inl (rw (no_exponent f true e p, no_exponent f true d q))
equal_bits f (fin false zero e) (fin false zero d) p q h = inl (rw (no_exponent f false e p, no_exponent f false d q))
equal_bits f (fin true zero e) (fin false zero d) p q h =
    inr (record { is_zero = rw (no_exponent f true e p) (zero-equal f true); other = rw (no_exponent f true e p, no_exponent f false d q) })
equal_bits f (fin false zero e) (fin true zero d) p q h =
    inr (record { is_zero = rw (no_exponent f false e p) (zero-equal f false); other = rw (no_exponent f false e p, no_exponent f true d q) })
equal_bits f (fin s zero e) (fin t (suc n) d) p q h =
    let k = both_true (eqb (zero * up e * down d) (suc n * up d * down e)) _ h in
    let z : 0 ≡ suc n * up d * down e = sym (nothing e d) ∙ eqb-true (zero * up e * down d) (suc n * up d * down e) k.0 in
    let l = above_zero n d e in
    absurd (omega arith)
equal_bits f (fin s (suc m) e) (fin t zero d) p q h =
    let k = both_true (eqb (suc m * up e * down d) (zero * up d * down e)) _ h in
    let z : suc m * up e * down d ≡ 0 = eqb-true (suc m * up e * down d) (zero * up d * down e) k.0 ∙ nothing d e in
    let l = above_zero m e d in
    absurd (omega arith)
equal_bits f (fin s (suc m) e) (fin t (suc n) d) p q h =
    let k = both_true (eqb (suc m * up e * down d) (suc n * up d * down e)) _ h in
    let l = above_zero m e d in
    let g = same_sign s t (first-of (beq s t) (eqb (suc m * up e * down d) 0) (ne_eqb (suc m * up e * down d) 0 (λ z. omega (arith, l, z))) k.1) in
    let r = one_way (suc m) (suc n) e d (is_odd f s m e p) (is_odd f t n d q) (eqb-true _ _ k.0) in
    inl (λ i. fin (g i) (r.0 i) (r.1 i))
