-- From the digits that code works with to the digits of a modulus, for either format: what is cut off, and where the smaller of two numbers does not reach half a unit of the larger. Assumes nothing.
use mathlib.Core.Path.{◌≡◌, refl, sym, ap, ◌∙◌}
use mathlib.Core.Logic.{◌⊎◌, inl, inr}
use Prim.Native.Nat.{ℕ, suc, ◌+◌, ◌-◌, ◌*◌, ◌/◌, ◌%◌, ◌^◌, ◌≤◌, ◌<◌}
use native.Mathlib.Nat.{le_of_eq, le_of_lt, le_trans, lt_of_lt_of_le, lt_of_le_of_lt, eq-or-lt_of_le, eq-zero-or-pos, mul-one, mul-pos, mul-le-mul, mul-le-mul_right, mul-lt-mul_of_pos_right, lt_of_mul-lt-mul_right, div-add-mod', mod-lt, pow-succ'}
use native.Mathlib.Omega.{arith}
use lib.Pow.{pow-add, pow_pos, pow_mono}
use lib.Ieee.{Format, prec, hid}
use Rattle.laws.specs.RootNearest.{square}
use Rattle.laws.specs.HalfDigits.{HalfDigits}
use Rattle.laws.specs.Cut.{Cut, NearestHalf}
use Rattle.laws.proofs.Patterns.{twice_hid, hid_pos}
use Rattle.laws.proofs.Neighbours.{square_lt}

-- a square with zeros after its root's digits
square-scale : (a w : ℕ) → square (a * w) ≡ square a * (w * w)
square-scale a w = omega arith

cancel_le : (a b w : ℕ) → 0 < w → a * w ≤ b * w → a ≤ b
cancel_le a b w W h =
    let l : b * w < (b + 1) * w = mul-lt-mul_of_pos_right (omega arith) W in
    let z : a < b + 1 = lt_of_mul-lt-mul_right w (lt_of_le_of_lt h l) in
    omega arith

-- ---- the digits of half the root, from those of what is cut
module _ (f : Format) (n h F rest c : ℕ) (cut : Cut n h F rest) (k : NearestHalf F rest 0 c) (lo : square (2 ^ prec f) ≤ F) (hi : F < square (2 * 2 ^ prec f)) where
  within : (a : ℕ) → square a ≤ F → square (a * 2 ^ h) ≤ n
  within a l = rw (square-scale a (2 ^ h)) (le_trans (mul-le-mul_right (2 ^ h * 2 ^ h) l) cut.from)

  past : (a : ℕ) → F < square a → n < square (a * 2 ^ h)
  past a l = rw (square-scale a (2 ^ h)) (lt_of_lt_of_le cut.to (mul-le-mul_right (2 ^ h * 2 ^ h) (omega arith)))

  -- where n is a square of that kind, nothing is cut off
  only : (a : ℕ) → square a ≤ F → square (a * 2 ^ h) ≡ n → (square a ≡ F) × (rest ≡ 0)
  only a l e = (is (eq-or-lt_of_le l), none (eq-zero-or-pos rest))
    where
      e' : square a * (2 ^ h * 2 ^ h) ≡ n
      e' = sym (square-scale a (2 ^ h)) ∙ e

      is : (square a ≡ F) ⊎ (square a < F) → square a ≡ F
      is (inl q) = q
      is (inr q) = let z = mul-lt-mul_of_pos_right q (mul-pos (pow_pos h) (pow_pos h)) in absurd (omega (arith, e', cut.from, z))

      none : (rest ≡ 0) ⊎ (0 < rest) → rest ≡ 0
      none (inl q) = q
      none (inr q) = let z = cut.more q in let y : square a * (2 ^ h * 2 ^ h) ≤ F * (2 ^ h * 2 ^ h) = mul-le-mul_right (2 ^ h * 2 ^ h) l in absurd (omega (arith, e', z, y))

  to : (F ≡ square (2 * c + 1)) ⊎ (F < square (2 * c + 1)) → n ≤ square ((2 * c + 1) * 2 ^ h)
  to (inl e) = rw (square-scale (2 * c + 1) (2 ^ h)) (le_of_eq (cut.exact (k.even_to (rw mul-one e)).0 ∙ ap (λ (x : ℕ). x * (2 ^ h * 2 ^ h)) e))
  to (inr l) = le_of_lt (past (2 * c + 1) l)

  even_to : n ≡ square ((2 * c + 1) * 2 ^ h) → (F ≡ square (2 * c + 1)) ⊎ (F < square (2 * c + 1)) → c % 2 ≡ 0
  even_to q (inl e) = (k.even_to (rw mul-one e)).1
  even_to q (inr l) = let z = past (2 * c + 1) l in absurd (omega arith)

  pub cut_digits : HalfDigits f n h c
  cut_digits =
      let t = eq-or-lt_of_le (rw mul-one at k.to) in
      record {
        lead = λ z. within (2 ^ prec f) lo;
        short = past (2 * 2 ^ prec f) hi;
        from = within (2 * c - 1) (rw mul-one at k.from);
        to = to t;
        even_from = λ e. let o = only (2 * c - 1) (rw mul-one at k.from) e in k.even_from (rw mul-one o.0) o.1;
        even_to = λ e. even_to e t;
      }

-- the same, of digits that were moved up by s places before
pub scaled_digits : (f : Format) (n s c : ℕ) → NearestHalf (n * (2 ^ s * 2 ^ s)) 0 s c → n < square (2 * 2 ^ prec f) → HalfDigits f n 0 c
scaled_digits f n s c k hi =
    let w = 2 ^ s * 2 ^ s in
    let p : 0 < w = mul-pos (pow_pos s) (pow_pos s) in
    record {
      lead = λ z. absurd (omega arith);
      short = rw mul-one hi;
      from = rw mul-one (cancel_le (square (2 * c - 1)) n w p (rw (square-scale (2 * c - 1) (2 ^ s)) at k.from));
      to = rw mul-one (cancel_le n (square (2 * c + 1)) w p (rw (square-scale (2 * c + 1) (2 ^ s)) at k.to));
      even_from = λ e. k.even_from (square-scale (2 * c - 1) (2 ^ s) ∙ ap (λ (x : ℕ). x * w) (rw mul-one at e)) refl;
      even_to = λ e. (k.even_to (ap (λ (x : ℕ). x * w) (rw mul-one at e) ∙ sym (square-scale (2 * c + 1) (2 ^ s)))).1;
    }

-- ---- one pair of digits more
pub cut_quarter : (n h F rest : ℕ) → Cut n h F rest → Cut n (suc h) (F / 4) (rest + F % 4)
cut_quarter n h F rest cut =
    record {
      from = rw e (omega (arith, cut.from, q));
      to = rw e (omega (arith, cut.to, r));
      exact = λ z. let g : F ≡ F / 4 * 4 = omega arith in let y : F * w ≡ F / 4 * 4 * w = ap (λ (x : ℕ). x * w) g in rw e (omega (arith, cut.exact (omega arith), y));
      more = λ z. rw e (go (eq-zero-or-pos rest) z);
    }
  where
    w : ℕ
    w = 2 ^ h * 2 ^ h

    e : 2 ^ suc h * 2 ^ suc h ≡ 4 * w
    e = rw (pow-succ' 2 h) (omega arith)

    q : F / 4 * 4 * w ≤ F * w
    q = mul-le-mul_right w (omega arith)

    r : (F + 1) * w ≤ (F / 4 + 1) * 4 * w
    r = mul-le-mul_right w (omega arith)

    go : (rest ≡ 0) ⊎ (0 < rest) → 0 < rest + F % 4 → F / 4 * (4 * w) < n
    go (inl a) z =
        let l : F / 4 * 4 * w < F * w = mul-lt-mul_of_pos_right (omega arith) (mul-pos (pow_pos h) (pow_pos h)) in
        omega (arith, cut.from, l)
    go (inr a) z = omega (arith, cut.more a, q)

-- ---- the square of q with k zeros after it: the digits are those of q
pub exact_digits : (f : Format) (q k : ℕ) → (0 < k → hid f ≤ q) → q < 2 ^ prec f → HalfDigits f (4 * square (q * 2 ^ k)) k q
exact_digits f q k lead short =
    record {
      lead = λ z. rw twice (mul-le-mul (mul-le-mul_right (2 ^ k) (let l = lead z in omega (arith, twice_hid f))) (mul-le-mul_right (2 ^ k) (let l = lead z in omega (arith, twice_hid f))));
      short = rw (twice, square-scale (2 * q) (2 ^ k), square-scale (2 * 2 ^ prec f) (2 ^ k)) (mul-lt-mul_of_pos_right (lt_of_lt_of_le (square_lt (2 * q) (2 * q + 1) (omega arith)) (let g : 2 * q + 1 ≤ 2 * 2 ^ prec f = omega arith in mul-le-mul g g)) (mul-pos (pow_pos k) (pow_pos k)));
      from = rw twice (let g : (2 * q - 1) * 2 ^ k ≤ 2 * q * 2 ^ k = mul-le-mul_right (2 ^ k) (omega arith) in mul-le-mul g g);
      to = rw twice (let g : 2 * q * 2 ^ k ≤ (2 * q + 1) * 2 ^ k = mul-le-mul_right (2 ^ k) (omega arith) in mul-le-mul g g);
      even_from = λ e. go (eq-zero-or-pos q) e;
      even_to = λ e. absurd (past (2 * q) (2 * q + 1) (omega arith) (sym twice ∙ e));
    }
  where
    twice : 4 * square (q * 2 ^ k) ≡ square (2 * q * 2 ^ k)
    twice = omega arith

    past : (a b : ℕ) → a < b → square (a * 2 ^ k) ≡ square (b * 2 ^ k) → ⊥
    past a b h e =
        let l : square a * (2 ^ k * 2 ^ k) < square b * (2 ^ k * 2 ^ k) = mul-lt-mul_of_pos_right (square_lt a b h) (mul-pos (pow_pos k) (pow_pos k)) in
        omega (arith, l, sym (square-scale a (2 ^ k)) ∙ e ∙ square-scale b (2 ^ k))

    go : (q ≡ 0) ⊎ (0 < q) → square ((2 * q - 1) * 2 ^ k) ≡ 4 * square (q * 2 ^ k) → q % 2 ≡ 0
    go (inl z) e = rw z
    go (inr p) e = absurd (past (2 * q - 1) (2 * q) (omega arith) (e ∙ twice))

-- ---- four times the sum of two squares, of x with k + d zeros after it and of y with k
module _ (x y k d : ℕ) where
  abbrev n : ℕ
  n = 4 * (square (x * 2 ^ (k + d)) + square (y * 2 ^ k))

  abbrev K : ℕ
  K = 2 ^ k * 2 ^ k

  abbrev D : ℕ
  D = 2 ^ d * 2 ^ d

  abbrev Y : ℕ
  Y = square (2 * y)

  K-pos : 0 < K
  K-pos = mul-pos (pow_pos k) (pow_pos k)

  D-pos : 0 < D
  D-pos = mul-pos (pow_pos d) (pow_pos d)

  scale : 2 ^ (k + d) * 2 ^ (k + d) ≡ D * K
  scale = rw (pow-add 2 k d) (omega arith)

  parts : n ≡ square (2 * x) * (D * K) + Y * K
  parts = rw (pow-add 2 k d) (omega arith)

  left : Y * K ≡ Y / D * (D * K) + Y % D * K
  left = let g = ap (λ (z : ℕ). z * K) (div-add-mod' Y D) in omega (arith, g)

  under : Y % D * K < D * K
  under = mul-lt-mul_of_pos_right (mod-lt Y D-pos) K-pos

  pub cut_sum : Cut n (k + d) (square (2 * x) + Y / D) (Y % D)
  cut_sum =
      record {
        from = rw scale (omega (arith, parts, left));
        to = rw scale (omega (arith, parts, left, under));
        exact = λ z. rw scale (let g : Y % D * K ≡ 0 * K = ap (λ (r : ℕ). r * K) z in omega (arith, parts, left, g));
        more = λ z. rw scale (let g : 0 < Y % D * K = mul-pos z K-pos in omega (arith, parts, left, g));
      }

  -- Where d is at least half of one more than the format's digits, y adds less than half a unit to x: the digits are those of x.
  module _ (f : Format) (lead : hid f ≤ x) (short : x < 2 ^ prec f) (little : y < 2 ^ prec f) (gap : suc (prec f) ≤ d + d) where
    far : 2 * 2 ^ prec f ≤ D
    far = rw (← pow-succ' 2 (prec f), ← pow-add 2 d d) (pow_mono gap)

    less : Y < 4 * x * D
    less =
        let a : (y + 1) * (y + 1) ≤ 2 ^ prec f * 2 ^ prec f = mul-le-mul (omega arith) (omega arith) in
        let b : 2 * 2 ^ prec f * (2 * 2 ^ prec f) ≤ 4 * x * D = mul-le-mul (omega (arith, twice_hid f)) far in
        omega (arith, a, b)

    reach : n < square ((2 * x + 1) * 2 ^ (k + d))
    reach =
        let g : Y * K < 4 * x * D * K = mul-lt-mul_of_pos_right less K-pos in
        rw (square-scale (2 * x + 1) (2 ^ (k + d)), scale) (omega (arith, parts, g))

    at_least : (a : ℕ) → a ≤ 2 * x → square (a * 2 ^ (k + d)) ≤ square (2 * x) * (D * K)
    at_least a l = rw (square-scale a (2 ^ (k + d)), scale) (mul-le-mul_right (D * K) (mul-le-mul l l))

    below : square ((2 * x - 1) * 2 ^ (k + d)) < square (2 * x) * (D * K)
    below =
        let l : square (2 * x - 1) < square (2 * x) = square_lt (2 * x - 1) (2 * x) (omega (arith, hid_pos f)) in
        rw (square-scale (2 * x - 1) (2 ^ (k + d)), scale) (mul-lt-mul_of_pos_right l (mul-pos D-pos K-pos))

    pub gap_digits : HalfDigits f n (k + d) x
    gap_digits =
        record {
          lead = λ z. let g = at_least (2 ^ prec f) (omega (arith, twice_hid f)) in omega (arith, parts, g);
          short = lt_of_lt_of_le reach (let g : (2 * x + 1) * 2 ^ (k + d) ≤ 2 * 2 ^ prec f * 2 ^ (k + d) = mul-le-mul_right (2 ^ (k + d)) (omega arith) in mul-le-mul g g);
          from = let g = at_least (2 * x - 1) (omega arith) in omega (arith, parts, g);
          to = le_of_lt reach;
          even_from = λ e. absurd (omega (arith, below, parts, e));
          even_to = λ e. absurd (omega (arith, reach, e));
        }
