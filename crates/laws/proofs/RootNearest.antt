-- The claim of specs/RootNearest.antt, proved: `root_nearest`. Assumes nothing.
-- With n the argument in squares of the smallest value, R the whole part of its root, and Q that part without its last h digits, one digit more than the format keeps, the result is
-- q = (Q + 1) / 2 with h + 1 zeros after it. Twice R lies between the two sums of the result and its neighbours, and no such sum is twice the root itself.
use mathlib.Core.Path.{◌≡◌, refl, sym, ap, ◌∙◌}
use mathlib.Core.Logic.{◌⊎◌, inl, inr}
use Prim.Native.Nat.{ℕ, suc, ◌+◌, ◌-◌, ◌*◌, ◌/◌, ◌^◌, ◌≤◌, ◌<◌}
use native.Mathlib.Nat.{le_trans, le_refl, lt_of_lt_of_le, lt_of_le_of_lt, one-mul, mul-le-mul_right, mul-lt-mul_of_pos_right, le-mul_of_pos_right, div-mul-le_self, lt-div-mul-add, le-div_iff_mul-le, eq-or-lt_of_le, pow-succ'}
use native.Mathlib.Omega.{arith}
use mathlib.Core.Bool.{false}
use lib.Dec.{T, lit≤}
use lib.Arith.{lt_of_le-ne}
use lib.Pow.{pow-add, pow_pos, pow_mono, shr_lt}
use lib.Ieee.{Float, Format, binary32, binary64, prec, emax, low, size, round, units, fits, hid, ones, to_bits}
use lib.Ieee.Digits.{size-lt, size_reaches}
use lib.Ieee.Fits.{two}
use lib.Ieee.Scale.{overflow}
use lib.Ieee.Positive.{positive}
use Rattle.model.specs.Root.{amount, root, sqrt}
use Rattle.laws.specs.RootNearest.{IsRoot, square, infinite, pattern_value, in_squares, twice_middle, NearestRoot, NearestOfAll, RootNearest}
use Rattle.laws.proofs.Digits.{pow_lt_back, odd_le}
use Rattle.laws.proofs.WholeRoot.{root_is, le_root, root_lt}
use Rattle.laws.proofs.Neighbours.{square_mono, any_smaller, any_larger, any_negative}
use Rattle.laws.proofs.RootCases.{sqrt-below, sqrt-fits}
use Rattle.laws.proofs.Halfway.{round_halfway}
use Rattle.laws.proofs.Patterns.{Written, at, here, there, pattern_bits, pattern-value, pattern_positive, in_order, twice_hid, hid_pos}
use Rattle.laws.proofs.Values.{own_value, positive_form, amount_under, finite_below, amount_pos}

-- ---- the root's whole part has more digits than the format keeps
-- h of its digits are too many for one more than the format's, and the exponent's field has room for them
record Long (f : Format) (R : ℕ) : Type 0 where
  h : ℕ
  lo : 2 ^ prec f ≤ R / 2 ^ h
  hi : R / 2 ^ h < 2 ^ suc (prec f)
  room : h + 5 ≤ ones f

-- what is used of a format here
wide : (f : Format) → prec f + prec f ≤ low f
wide binary32 = lit≤ tt
wide binary64 = lit≤ tt

deep : (f : Format) → 3 ≤ emax f
deep binary32 = lit≤ tt
deep binary64 = lit≤ tt

long_root : (f : Format) (a R : ℕ) → 0 < a → a < overflow f → IsRoot (a * 2 ^ low f) R → Long f R
long_root f a R some most r =
    let p = prec f in
    let e = low f + emax f - 1 in
    let d = deep f in
    let m : 2 ^ low f ≤ a * 2 ^ low f = rw one-mul at (mul-le-mul_right (2 ^ low f) some) in
    let least : 2 ^ p ≤ R = le_root (a * 2 ^ low f) R r (2 ^ p) (le_trans (rw pow-add at (pow_mono (wide f))) m) in
    let top : 2 ^ (low f + suc (emax f)) * 2 ^ low f ≤ 2 ^ e * 2 ^ e = rw (← pow-add 2 (low f + suc (emax f)) (low f), ← pow-add 2 e e) (pow_mono (omega arith)) in
    let less : R < 2 ^ e = root_lt (a * 2 ^ low f) R r (2 ^ e) (lt_of_lt_of_le (mul-lt-mul_of_pos_right most (pow_pos (low f))) top) in
    let h = size R - suc p in
    let g : p < size R = pow_lt_back p (size R) (lt_of_le_of_lt least (size-lt R)) in
    let z : size R ≡ suc p + h = omega arith in
    let b : 2 ^ (p + h) ≤ R = size_reaches R (p + h) (omega arith) in
    let k : p + h < e = pow_lt_back (p + h) e (lt_of_le_of_lt b less) in
    let t = two f in
    record {
      h = h;
      lo = (le-div_iff_mul-le (pow_pos h)).1 (rw pow-add at b);
      hi = shr_lt (suc p) h (rw z at (size-lt R));
      room = omega arith;
    }

-- ---- the result's pattern, (h + 1) * hid + q, and its neighbours
-- s is an odd number 2 * t + 1 of more digits than the format keeps, with zeros after it, and no more than twice Q with h zeros after it
record OddSum (f : Format) (Q h s : ℕ) : Type 0 where
  t : ℕ
  k : ℕ
  long : hid f ≤ t
  is : s ≡ (2 * t + 1) * 2 ^ k
  most : s ≤ 2 * (Q * 2 ^ h)

module _ (f : Format) (q h : ℕ) (lo : hid f ≤ q) (hi : q ≤ 2 ^ prec f) (room : h + 5 ≤ ones f) where
  twice : 2 ^ prec f ≡ 2 * hid f
  twice = twice_hid f

  some : 0 < hid f
  some = hid_pos f

  within : suc h * hid f + q + 1 < infinite f
  within = let x : (h + 5) * hid f ≤ infinite f = mul-le-mul_right (hid f) room in omega (arith, twice, some)

  written : Written f q (suc h)
  written = record { lead = λ z. lo; short = hi; inside = omega (arith, within) }

  own : pattern_value f (suc h * hid f + q) ≡ 2 * q * 2 ^ h
  own = pattern-value f q (suc h) written ∙ rw (pow-succ' 2 h) (omega arith)

  next : 2 * (q + 1) * 2 ^ h ≤ pattern_value f (suc h * hid f + q + 1)
  next = go (eq-or-lt_of_le hi)
    where
      go : (q ≡ 2 ^ prec f) ⊎ (q < 2 ^ prec f) → 2 * (q + 1) * 2 ^ h ≤ pattern_value f (suc h * hid f + q + 1)
      go (inl e) =
          let s : suc (suc h) * hid f + hid f + 1 ≡ suc h * hid f + q + 1 = omega (arith, twice) in
          let b : 2 * (q + 1) * 2 ^ h ≤ 4 * (hid f + 1) * 2 ^ h = mul-le-mul_right (2 ^ h) (omega (arith, twice)) in
          rw (← s, there f (hid f) (suc (suc h)) (λ z. le_refl (hid f)) (omega (arith, twice, some)) (omega (arith, within)), pow-succ' 2 (suc h), pow-succ' 2 h) (omega arith)
      go (inr l) = rw (there f q (suc h) (λ z. lo) l within, pow-succ' 2 h) (omega arith)

  prev : (Q : ℕ) → 2 ^ prec f ≤ Q → 2 * q ≤ Q + 1 → OddSum f Q h (twice_middle f (suc h * hid f + q - 1) (suc h * hid f + q))
  prev Q a b = go (eq-or-lt_of_le lo)
    where
      is_odd : (t k : ℕ) → k * hid f + t + 1 ≡ suc h * hid f + q → hid f ≤ t → t < 2 ^ prec f → (2 * t + 1) * 2 ^ k ≤ 2 * (Q * 2 ^ h) → OddSum f Q h (twice_middle f (suc h * hid f + q - 1) (suc h * hid f + q))
      is_odd t k e l s m =
          let i : k * hid f + t + 1 < infinite f = omega (arith, within) in
          let c : k * hid f + t ≡ suc h * hid f + q - 1 = omega arith in
          let z : twice_middle f (suc h * hid f + q - 1) (suc h * hid f + q) ≡ (2 * t + 1) * 2 ^ k = rw (← c, here f t k (λ z. l) s i, ← e, there f t k (λ z. l) s i) (omega arith) in
          record { t = t; k = k; long = l; is = z; most = rw z m }

      go : (hid f ≡ q) ⊎ (hid f < q) → OddSum f Q h (twice_middle f (suc h * hid f + q - 1) (suc h * hid f + q))
      go (inl e) =
          let t = 2 ^ prec f - 1 in
          let x : 2 * t + 1 ≤ 2 * Q = omega (arith, twice, some) in
          is_odd t h (omega (arith, twice, some)) (omega (arith, twice, some)) (omega (arith, twice, some)) (omega (arith, mul-le-mul_right (2 ^ h) x))
      go (inr l) =
          let t = q - 1 in
          let x : 2 * (2 * t + 1) ≤ 2 * Q = omega arith in
          is_odd t (suc h) (omega arith) (omega arith) (omega arith) (rw (pow-succ' 2 h) (omega (arith, mul-le-mul_right (2 ^ h) x)))

-- ---- no such sum is twice a value's root: its odd number, squared, has more digits than a value has
no_tie : (f : Format) (q k t j : ℕ) → q < 2 ^ prec f → hid f ≤ t → square ((2 * t + 1) * 2 ^ j) ≡ 4 * (q * 2 ^ k * 2 ^ low f) → ⊥
no_tie f q k t j short long e =
    let o = 2 * t + 1 in
    let x : o * o * 2 ^ (j + j) ≡ square (o * 2 ^ j) = rw (pow-add 2 j j) (omega arith) in
    let y : 4 * (q * 2 ^ k * 2 ^ low f) ≡ q * 2 ^ (k + low f + 2) = rw (pow-add 2 (k + low f) 2, pow-add 2 k (low f)) (omega arith) in
    let s : o * o ≤ q = odd_le (o * o) q (j + j) (k + low f + 2) (omega arith) (x ∙ e ∙ y) in
    let c : o ≤ o * o = le-mul_of_pos_right o (omega arith) in
    omega (arith, twice_hid f)

-- ---- from twice R to four times n
below_sum : (n R s : ℕ) → IsRoot n R → 2 * (R + 1) ≤ s → 4 * n < square s
below_sum n R s r y = let z = square_mono (2 * (R + 1)) s y in omega (arith, r.1)

above_sum : (n R s : ℕ) → IsRoot n R → s ≤ 2 * R → (square s ≡ 4 * n → ⊥) → square s < 4 * n
above_sum n R s r h e = let z = square_mono s (2 * R) h in lt_of_le-ne (omega (arith, r.0)) e

-- ---- the theorem, of patterns
module _ (f : Format) (b R h Q q : ℕ) (finite : b < infinite f) (r : IsRoot (in_squares f b) R) (from : Q * 2 ^ h ≤ R) (to : R < Q * 2 ^ h + 2 ^ h) (up : Q ≤ 2 * q) (down : 2 * q ≤ Q + 1)
    (lo : hid f ≤ q) (hi : q ≤ 2 ^ prec f) (long : 2 ^ prec f ≤ Q) (room : h + 5 ≤ ones f) where
  above : square (twice_middle f (suc h * hid f + q - 1) (suc h * hid f + q)) < 4 * in_squares f b
  above =
      let d = prev f q h lo hi room Q long down in
      let a = at f b in
      let v = rw a.is at (pattern-value f a.q a.k (record { lead = a.lead; short = omega arith; inside = omega arith })) in
      above_sum (in_squares f b) R (twice_middle f (suc h * hid f + q - 1) (suc h * hid f + q)) r (omega (arith, d.most))
      (λ z. no_tie f a.q a.k d.t d.k a.short d.long (ap square (sym d.is) ∙ z ∙ ap (λ (x : ℕ). 4 * (x * 2 ^ low f)) v))

  below : 4 * in_squares f b < square (twice_middle f (suc h * hid f + q) (suc h * hid f + q + 1))
  below =
      below_sum (in_squares f b) R (twice_middle f (suc h * hid f + q) (suc h * hid f + q + 1)) r
      (rw (own f q h lo hi room) (omega (arith, next f q h lo hi room, mul-le-mul_right (2 ^ h) up)))

  nearest : NearestRoot f b (suc h * hid f + q)
  nearest = record { least = omega (arith, hid_pos f); most = within f q h lo hi room; above = above; below = below }

-- ---- and of floats
pub sqrt_positive : (f : Format) (x : Float) → T (positive x) → sqrt f x ≡ round f false (2 * root (amount f x * 2 ^ low f) + 1) (2 * 2 ^ low f)
unfolding sqrt
sqrt_positive f x p = positive_form (λ (y : Float). sqrt f y ≡ round f false (2 * root (amount f y * 2 ^ low f) + 1) (2 * 2 ^ low f)) (λ m e. refl) x p

-- what the result is, and that it is the nearest
record Result (f : Format) (x : Float) : Type 0 where
  h : ℕ
  q : ℕ
  some : 0 < q
  written : Written f q (suc h)
  is : sqrt f x ≡ units f false q (suc h)
  nearest : NearestRoot f (to_bits f x) (suc h * hid f + q)

result : (f : Format) (x : Float) → T (fits f x) → T (positive x) → Result f x
result f x fit pos =
    let b = to_bits f x in
    let e = own_value f x fit in
    let i = finite_below f x fit pos in
    let R = root (amount f x * 2 ^ low f) in
    let r = root_is (amount f x * 2 ^ low f) in
    let g = long_root f (amount f x) R (amount_pos f x fit pos) (amount_under f x fit pos) r in
    let h = g.h in
    let Q = R / 2 ^ h in
    let q = (Q + 1) / 2 in
    let lo : hid f ≤ q = omega (arith, g.lo, twice_hid f) in
    let hi : q ≤ 2 ^ prec f = omega (arith, g.hi) in
    record {
      h = h;
      q = q;
      some = omega (arith, hid_pos f);
      written = written f q h lo hi g.room;
      is = sqrt_positive f x pos ∙ round_halfway f R h g.lo g.hi;
      nearest = nearest f b R h Q q i (rw e r) (div-mul-le_self R (2 ^ h)) (lt-div-mul-add (pow_pos h)) (omega arith) (omega arith) lo hi g.lo g.room;
    }

of_positive : (f : Format) (x : Float) → T (fits f x) → T (positive x) → NearestRoot f (to_bits f x) (to_bits f (sqrt f x))
of_positive f x fit pos = let r = result f x fit pos in rw (r.is, pattern_bits f r.q (suc r.h) r.written) r.nearest

stays_positive : (f : Format) (x : Float) → T (fits f x) → T (positive x) → T (positive (sqrt f x))
stays_positive f x fit pos = let r = result f x fit pos in rw r.is (pattern_positive f r.q (suc r.h) r.written r.some)

-- ---- against all: the neighbours are the nearest of the others
against_all : (f : Format) (b r : ℕ) → NearestRoot f b r → NearestOfAll f b r
against_all f b r n =
    let v = pattern_value f in
    let top = infinite f in
    record {
      smaller = λ c l. lt_of_le_of_lt (any_smaller v top (in_order f) c r l (omega (arith, n.most))) n.above;
      larger = λ c l i. lt_of_lt_of_le n.below (any_larger v top (in_order f) c r l i);
      negative = λ c. lt_of_le_of_lt (any_negative v top (in_order f) (v c) r) n.above;
    }

-- ---- the claim
pub root_nearest : (f : Format) → RootNearest f
unfolding sqrt
root_nearest f =
    record {
      of_nan = refl;
      of-below = sqrt-below f;
      of_zero = λ s. refl;
      of_infinity = refl;
      of_positive = of_positive f;
      of-all = λ x fit pos. against_all f (to_bits f x) (to_bits f (sqrt f x)) (of_positive f x fit pos);
      in_format = sqrt-fits f;
      stays_positive = stays_positive f;
      own_value = own_value f;
      finite_below = finite_below f;
      in_order = in_order f;
    }
