-- The claim of specs/ModulusNearest.antt, proved: `modulus_nearest`. Assumes nothing.
-- The digits c of half the root of n, with h zeros after them, make the pattern p = h * hid + c. Twice the middle of any two neighbouring patterns is an odd number with zeros after it, and it lies on
-- that side of the root on which they lie of p: p is the result's, or from that of plus infinity on the result is plus infinity.
use mathlib.Core.Path.{◌≡◌, refl, sym, ap, ◌∙◌}
use mathlib.Core.Logic.{◌⊎◌, inl, inr}
use Prim.Native.Nat.{ℕ, suc, ◌+◌, ◌-◌, ◌*◌, ◌%◌, ◌^◌, ◌≤◌, ◌<◌}
use native.Mathlib.Nat.{le_of_suc-le-suc, lt_of_not-le, mul-le-mul_left, mul-lt-mul_of_pos_right, le_trans, le_antisymm, le_refl, le_of_eq, le_of_lt, lt_of_lt_of_le, lt_of_le_of_lt, lt_irrefl, zero-add, eq-zero-or-pos, mul-le-mul_right, eq-or-lt_of_le, pow-succ'}
use native.Mathlib.Omega.{arith}
use mathlib.Core.Bool.{Bool, true, false, not, ◌||◌, cond}
use lib.IntN.{pos}
use lib.Dec.{T, ltb, ltb→lt, nltb→le}
use lib.Pow.{pow_pos, pow_mono}
use lib.Ieee.{Float, nan, inf, fin, Format, binary32, binary64, prec, is_nan, round, fits, hid, ones, to_bits}
use lib.Ieee.Fits.{cond-fits, nan-fits, inf-fits, round-fits}
use lib.Ieee.Scale.{finite}
use Rattle.model.specs.Root.{amount, root}
use Rattle.model.specs.Arith.{half_root, four_squares, modulus, is_inf, hypot}
use Rattle.laws.specs.RootNearest.{square, infinite, pattern_value}
use Rattle.laws.specs.HalfDigits.{HalfDigits}
use Rattle.laws.specs.ModulusNearest.{sum_of_squares, reach_value, twice_reach, twice_edge, UpTo, NearestModulus, NearestOfFinite, ModulusNearest}
use Rattle.laws.proofs.Patterns.{at, pattern_bits, twice_hid}
use Rattle.laws.proofs.Values.{own_value}
use Rattle.laws.proofs.Neighbours.{square_mono, square_lt, any_smaller, any_larger, any_negative}
use Rattle.laws.proofs.HalfRoot.{half_lead, half_short, half_root_units, half_root-infinite}
use Rattle.laws.proofs.HalfDigits.{half_digits}
use Rattle.laws.proofs.Reach.{infinite_pos, own_reach, middle, reach_zero, reach_order, parity, field_le}

-- ---- what is further off is compared alike
further_down : (r a b n : ℕ) → UpTo r b n → a ≤ b → UpTo r a n
further_down r a b n u l = (le_trans l u.0, λ e. u.1 (le_antisymm u.0 (le_trans (le_of_eq (sym e)) l)))

further_up : (r a b n : ℕ) → UpTo r n a → a ≤ b → UpTo r n b
further_up r a b n u l = (le_trans u.0 l, λ e. u.1 (le_antisymm u.0 (le_trans l (le_of_eq (sym e)))))

strictly : (r a b : ℕ) → a < b → UpTo r a b
strictly r a b l = (le_of_lt l, λ e. absurd (omega arith))

doubled : (y k h : ℕ) → k < h → 2 * y * 2 ^ k ≤ y * 2 ^ h
doubled y k h l = let x : y * 2 ^ suc k ≤ y * 2 ^ h = mul-le-mul_left y (pow_mono l) in let z = rw (pow-succ' 2 k) at x in omega arith

-- ---- the root of n against an odd number with zeros after it: twice the middle of the patterns k * hid + q and the next
module _ (f : Format) (n h c q k : ℕ) (d : HalfDigits f n h c) (lead : 0 < k → hid f ≤ q) (short : q < 2 ^ prec f) where
  abbrev s : ℕ
  s = (2 * q + 1) * 2 ^ k

  above_digits : k * hid f + q < h * hid f + c → UpTo c (square s) n
  above_digits l = go (eq-or-lt_of_le (field_le (hid f) k q h c lead (omega (arith, half_short f n h c d, twice_hid f)) l))
    where
      go : (k ≡ h) ⊎ (k < h) → UpTo c (square s) n
      go (inl e) =
          let x : q + 1 ≤ c = omega (arith, ap (λ (z : ℕ). z * hid f) e) in
          let y : s ≤ (2 * c - 1) * 2 ^ h = rw e (mul-le-mul_right (2 ^ h) (omega arith)) in
          further_down c (square s) (square ((2 * c - 1) * 2 ^ h)) n (d.from, d.even_from) (square_mono s ((2 * c - 1) * 2 ^ h) y)
      go (inr g) =
          let x : s < 2 * 2 ^ prec f * 2 ^ k = mul-lt-mul_of_pos_right (omega arith) (pow_pos k) in
          let y : s < 2 ^ prec f * 2 ^ h = lt_of_lt_of_le x (doubled (2 ^ prec f) k h g) in
          strictly c (square s) n (lt_of_lt_of_le (square_lt s (2 ^ prec f * 2 ^ h) y) (d.lead (omega arith)))

  below_digits : h * hid f + c ≤ k * hid f + q → UpTo c n (square s)
  below_digits l = go (eq-or-lt_of_le (field_le (hid f) h c k (q + 1) (half_lead f n h c d) (omega (arith, twice_hid f)) (omega arith)))
    where
      go : (h ≡ k) ⊎ (h < k) → UpTo c n (square s)
      go (inl e) =
          let x : c ≤ q = omega (arith, ap (λ (z : ℕ). z * hid f) e) in
          let y : (2 * c + 1) * 2 ^ h ≤ s = rw e (mul-le-mul_right (2 ^ k) (omega arith)) in
          further_up c (square ((2 * c + 1) * 2 ^ h)) (square s) n (d.to, d.even_to) (square_mono ((2 * c + 1) * 2 ^ h) s y)
      go (inr g) =
          let x : 2 ^ prec f * 2 ^ k ≤ s = mul-le-mul_right (2 ^ k) (omega (arith, lead (omega arith), twice_hid f)) in
          let y : 2 * 2 ^ prec f * 2 ^ h ≤ s = le_trans (doubled (2 ^ prec f) h k g) x in
          strictly c n (square s) (lt_of_lt_of_le d.short (square_mono (2 * 2 ^ prec f * 2 ^ h) s y))

infinite_bits : (f : Format) → to_bits f (inf false) ≡ infinite f
unfolding to_bits
infinite_bits f = zero-add (infinite f)

module _ (f : Format) (n h c : ℕ) (d : HalfDigits f n h c) where
  above_at : (b : ℕ) → b < infinite f → b + 1 ≤ h * hid f + c → UpTo c (square (twice_reach f b (b + 1))) n
  above_at b i l = let a = at f b in rw (middle f b a i) (above_digits f n h c a.q a.k d a.lead a.short (omega arith))

  below_at : (b : ℕ) → b < infinite f → h * hid f + c ≤ b → UpTo c n (square (twice_reach f b (b + 1)))
  below_at b i l = let a = at f b in rw (middle f b a i) (below_digits f n h c a.q a.k d a.lead a.short (omega arith))

  -- ---- the result's pattern
  inside_bits : h * hid f + c < infinite f → to_bits f (half_root f n) ≡ h * hid f + c
  inside_bits i = rw (half_root_units f n h c d) (pattern_bits f c h (record { lead = half_lead f n h c d; short = half_short f n h c d; inside = i }))

  -- r is the pattern of c and h zeros, or that of plus infinity where this is past it
  nearest_at : (m r : ℕ) → n ≡ 4 * m → r ≤ infinite f → r ≤ h * hid f + c → (r < infinite f → r ≡ h * hid f + c) → NearestModulus f m r
  nearest_at m r e most within inside = record { most = most; above = above; below = below }
    where
      even : c % 2 ≡ 0 → r % 2 ≡ 0
      even z = go (eq-or-lt_of_le most)
        where
          go : (r ≡ infinite f) ⊎ (r < infinite f) → r % 2 ≡ 0
          go (inl s) = omega (arith, parity f (ones f) 0 refl)
          go (inr l) = omega (arith, inside l, parity f h c z)

      above : 0 < r → UpTo r (square (twice_reach f (r - 1) r)) (4 * m)
      above p =
          let s : r - 1 + 1 ≡ r = omega arith in
          let u = rw (s, e) at (above_at (r - 1) (omega arith) (omega arith)) in
          (u.0, λ x. even (u.1 x))

      below : r < infinite f → UpTo r (4 * m) (square (twice_reach f r (r + 1)))
      below l = let s = inside l in let u = rw e at (below_at r l (omega arith)) in (u.0, λ x. even (u.1 x))

  nearest : (m : ℕ) → n ≡ 4 * m → NearestModulus f m (to_bits f (half_root f n))
  nearest m e = go (ltb p (infinite f)) (ltb→lt p (infinite f)) (nltb→le p (infinite f))
    where
      p : ℕ
      p = h * hid f + c

      go : (t : Bool) → (T t → h * hid f + c < infinite f) → (T (not t) → infinite f ≤ h * hid f + c) → NearestModulus f m (to_bits f (half_root f n))
      go true l g = rw (inside_bits (l tt)) (nearest_at m (h * hid f + c) e (le_of_lt (l tt)) (le_refl (h * hid f + c)) (λ x. refl))
      go false l g = rw (half_root-infinite f n h c d (g tt), infinite_bits f) (nearest_at m (infinite f) e (le_refl (infinite f)) (g tt) (λ x. absurd (lt_irrefl (infinite f) x)))

  -- below the edge's pattern, n is below the edge
  under_edge : h * hid f + c < infinite f → square (twice_edge f) ≤ n → ⊥
  under_edge i l = go (eq-or-lt_of_le (omega arith))
    where
      go : (h * hid f + c + 1 ≡ infinite f) ⊎ (h * hid f + c + 1 < infinite f) → ⊥
      go (inl e) =
          let p = h * hid f + c in
          let u = below_at p i (le_refl p) in
          let z : infinite f - 1 ≡ p = omega arith in
          let x : n ≡ square (twice_reach f p (p + 1)) = le_antisymm u.0 (rw (z, ← e) at l) in
          omega (arith, parity f h c (u.1 x), parity f (ones f) 0 refl)
      go (inr g) =
          let p = h * hid f + c in
          let u = below_at p i (le_refl p) in
          let x = reach_order f p (infinite f - 1) (omega arith) (omega arith) in
          let y = reach_order f (p + 1) (infinite f) g (le_refl (infinite f)) in
          lt_irrefl n (lt_of_le_of_lt u.0 (lt_of_lt_of_le (square_lt (twice_reach f p (p + 1)) (twice_edge f) (omega arith)) l))

  overflows : square (twice_edge f) ≤ n → half_root f n ≡ inf false
  overflows l = half_root-infinite f n h c d (le_of_suc-le-suc (lt_of_not-le (λ (g : suc (h * hid f + c) ≤ infinite f). under_edge g l)))

-- ---- against all: the neighbours are the nearest of the others
against_all : (f : Format) (n r : ℕ) → NearestModulus f n r → NearestOfFinite f n r
against_all f n r m = record { smaller = smaller; larger = larger; negative = λ c. negative c (eq-zero-or-pos r) }
  where
    v : ℕ → ℕ
    v = reach_value f

    order : (b c : ℕ) → b < c → c < infinite f → v b < v c
    order b c l i = reach_order f b c l (le_of_lt i)

    smaller : (c : ℕ) → c < r → UpTo r (square (twice_reach f c r)) (4 * n)
    smaller c l = further_down r (square (twice_reach f c r)) (square (twice_reach f (r - 1) r)) (4 * n) (m.above (omega arith)) (any_smaller v (infinite f) order c r l m.most)

    larger : (c : ℕ) → r < c → c < infinite f → UpTo r (4 * n) (square (twice_reach f r c))
    larger c l i = further_up r (square (twice_reach f r (r + 1))) (square (twice_reach f r c)) (4 * n) (m.below (omega arith)) (any_larger v (infinite f) order c r l i)

    negative : (c : ℕ) → (r ≡ 0) ⊎ (0 < r) → square (reach_value f r - pattern_value f c) ≤ 4 * n
    negative c (inl e) = let z : reach_value f r - pattern_value f c ≡ 0 = omega (arith, ap v e, reach_zero f) in rw z (omega arith)
    negative c (inr p) = le_trans (any_negative v (infinite f) order (pattern_value f c) r) (m.above p).0

-- ---- and of floats
hypot_finite : (f : Format) (x y : Float) → T (finite x) → T (finite y) → hypot f x y ≡ half_root f (4 * sum_of_squares f x y)
unfolding hypot is_inf is_nan modulus four_squares
hypot_finite f nan y p q = absurd p
hypot_finite f (inf s) y p q = absurd p
hypot_finite f (fin s m e) nan p q = absurd q
hypot_finite f (fin s m e) (inf t) p q = absurd q
hypot_finite f (fin s m e) (fin t n d) p q = refl

module _ (f : Format) (x y : Float) (p : T (finite x)) (q : T (finite y)) where
  of_finite : NearestModulus f (sum_of_squares f x y) (to_bits f (hypot f x y))
  of_finite = let n = sum_of_squares f x y in let d = half_digits f (4 * n) in rw (hypot_finite f x y p q) (nearest f (4 * n) d.h d.c d.are n refl)

  past_edge : square (twice_edge f) ≤ 4 * sum_of_squares f x y → hypot f x y ≡ inf false
  past_edge l = let n = sum_of_squares f x y in let d = half_digits f (4 * n) in hypot_finite f x y p q ∙ overflows f (4 * n) d.h d.c d.are l

  only_there : to_bits f (hypot f x y) ≡ infinite f → square (twice_edge f) ≤ 4 * sum_of_squares f x y
  only_there e = let n : NearestModulus f (sum_of_squares f x y) (infinite f) = rw e at of_finite in (n.above (infinite_pos f)).0

of_infinity : (f : Format) (s : Bool) (y : Float) → hypot f (inf s) y ≡ inf false
unfolding hypot is_inf
of_infinity f s y = refl

with_infinity : (f : Format) (s : Bool) (x : Float) → hypot f x (inf s) ≡ inf false
unfolding hypot is_inf
with_infinity f s nan = refl
with_infinity f s (inf t) = refl
with_infinity f s (fin t m e) = refl

of_nan : (f : Format) (y : Float) → T (not (is_inf y)) → hypot f nan y ≡ nan
unfolding hypot is_inf is_nan
of_nan f nan h = refl
of_nan f (inf t) h = absurd h
of_nan f (fin t m e) h = refl

with_nan : (f : Format) (x : Float) → T (not (is_inf x)) → hypot f x nan ≡ nan
unfolding hypot is_inf is_nan
with_nan f nan h = refl
with_nan f (inf t) h = absurd h
with_nan f (fin t m e) h = refl

of-zeros : (f : Format) (s t : Bool) → hypot f (fin s 0 (pos 0)) (fin t 0 (pos 0)) ≡ fin false 0 (pos 0)
unfolding hypot is_inf is_nan modulus four_squares amount half_root root round
of-zeros binary32 s t = refl
of-zeros binary64 s t = refl

hypot-fits : (f : Format) (x y : Float) → T (fits f (hypot f x y))
unfolding hypot modulus half_root
hypot-fits f x y =
    cond-fits f (is_inf x || is_inf y) (inf false) (cond (is_nan x || is_nan y) nan (modulus f x y)) (inf-fits f false)
    (cond-fits f (is_nan x || is_nan y) nan (modulus f x y) (nan-fits f) (round-fits f false _ _))

-- ---- the claim
pub modulus_nearest : (f : Format) → ModulusNearest f
modulus_nearest f =
    record {
      of_infinity = of_infinity f;
      with_infinity = with_infinity f;
      of_nan = of_nan f;
      with_nan = with_nan f;
      of-zeros = of-zeros f;
      of_finite = of_finite f;
      of-all = λ x y p q. against_all f (sum_of_squares f x y) (to_bits f (hypot f x y)) (of_finite f x y p q);
      overflows = past_edge f;
      only_there = only_there f;
      in_format = hypot-fits f;
      own_value = own_value f;
      own_reach = own_reach f;
      in_order = reach_order f;
    }
