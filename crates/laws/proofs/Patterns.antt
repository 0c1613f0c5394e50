-- The patterns of the finite values that are not negative: the pattern k * hid + q stands for q * 2 ^ k smallest values, and a larger pattern for a larger value. Assumes nothing.
use mathlib.Core.Path.{◌≡◌, refl, sym, ap, ◌∙◌}
use mathlib.Core.Logic.{◌⊎◌, inl, inr}
use Prim.Native.Nat.{ℕ, zero, suc, ◌+◌, ◌-◌, ◌*◌, ◌/◌, ◌%◌, ◌^◌, ◌≤◌, ◌<◌}
use native.Mathlib.Nat.{le_refl, le_of_suc-le-suc, lt_of_lt_of_le, lt_of_le_of_lt, zero-lt-suc, mul-pos, mul-le-mul, mul-le-mul_right, mul-lt-mul_of_pos_right, lt_of_mul-lt-mul_right, mul-div_cancel, div-add-mod', mod-lt, zero-add, eq-or-lt_of_le, pow-succ'}
use native.Mathlib.Numerals.{add-one}
use native.Mathlib.Omega.{arith}
use mathlib.Core.Bool.{Bool, true, false, not, cond, true≢false}
use lib.IntN.{ℤ}
use lib.Dec.{T, ltb}
use lib.Arith.{le→nltb}
use lib.Pow.{pow-add, pow_pos, pow_mono, pow-lt, shl_lt}
use lib.Ieee.{Float, nan, inf, fin, Format, prec, emax, low, down, size, odd, units, fits, hid, ones, of_bits, to_bits}
use lib.Ieee.Fits.{two, two-le_pos, reach, down_pos, odd-fits, cond-fits, inf-fits}
use lib.Ieee.Exact.{HasValue, units_val}
use lib.Ieee.Bits.{of_bits-to_bits}
use lib.Ieee.Scale.{overflow}
use lib.Ieee.Positive.{positive, positive_of_value}
use Rattle.model.specs.Root.{amount}
use Rattle.laws.specs.RootNearest.{pattern_value, infinite}
use Rattle.laws.proofs.Digits.{too_many}

pub hid_pos : (f : Format) → 0 < hid f
hid_pos f = pow_pos (prec f - 1)

pub twice_hid : (f : Format) → 2 ^ prec f ≡ 2 * hid f
twice_hid f = let h = two f in let e : suc (prec f - 1) ≡ prec f = omega arith in ap (λ (x : ℕ). 2 ^ x) (sym e) ∙ pow-succ' 2 (prec f - 1)

-- ---- a value that is a smallest values, and its pattern
pub amount-is : (f : Format) (y : Float) (s : Bool) (a : ℕ) → HasValue y s a (2 ^ low f) → amount f y ≡ a
unfolding amount
amount-is f nan s a h = absurd h
amount-is f (inf t) s a h = absurd h
amount-is f (fin t m e) s a h = ap (λ (x : ℕ). x / down e) h.1 ∙ mul-div_cancel a (down_pos e)

-- the pattern of a smallest values: the digits past the format's are dropped, and the exponent's field says how many
abbrev bits_of : Format → ℕ → ℕ
bits_of f a = (size a - prec f) * hid f + a / 2 ^ (size a - prec f)

pub to_bits_amount : (f : Format) (m : ℕ) (e : ℤ) → to_bits f (fin false m e) ≡ bits_of f (amount f (fin false m e))
unfolding to_bits amount
to_bits_amount f m e = let a = amount f (fin false m e) in ap (λ (x : ℕ). x + a / 2 ^ (size a - prec f)) (zero-add ((size a - prec f) * hid f))

to_bits_is : (f : Format) (y : Float) (a : ℕ) → HasValue y false a (2 ^ low f) → to_bits f y ≡ bits_of f a
to_bits_is f nan a h = absurd h
to_bits_is f (inf t) a h = absurd h
to_bits_is f (fin true m e) a h = absurd (true≢false h.0)
to_bits_is f (fin false m e) a h = to_bits_amount f m e ∙ ap (bits_of f) (amount-is f (fin false m e) false a h)

-- ---- k * hid + q is the pattern of q * 2 ^ k smallest values
-- q has the leading digit, or k is 0. It may be 2 ^ prec, one more than the format's digits can say: that carries into the exponent's field.
pub record Written (f : Format) (q k : ℕ) : Type 0 where
  pub lead : 0 < k → hid f ≤ q
  pub short : q ≤ 2 ^ prec f
  pub inside : k * hid f + q < infinite f

module _ (f : Format) (q k : ℕ) (w : Written f q k) where
  pub field_lt : k + 1 < ones f
  field_lt = go k w.lead w.inside
    where
      go : (k : ℕ) → (0 < k → hid f ≤ q) → k * hid f + q < ones f * hid f → k + 1 < ones f
      go zero l i = let t = two f in let r = reach f in omega arith
      go (suc k) l i = let h = l (zero-lt-suc k) in lt_of_mul-lt-mul_right (hid f) (omega arith)

  pub under : q * 2 ^ k < overflow f
  under = go (eq-or-lt_of_le w.short)
    where
      go : (q ≡ 2 ^ prec f) ⊎ (q < 2 ^ prec f) → q * 2 ^ k < overflow f
      go (inl e) =
          let b : k + 2 < ones f = lt_of_mul-lt-mul_right (hid f) (omega (arith, twice_hid f, w.inside)) in
          let t = two f in
          rw (e, ← pow-add 2 (prec f) k) (pow-lt (omega arith))
      go (inr l) = let b = field_lt in let t = two f in lt_of_lt_of_le (shl_lt (prec f) k l) (pow_mono (omega arith))

  value : HasValue (units f false q k) false (q * 2 ^ k) (2 ^ low f)
  value = units_val f false q k under

  in_format : T (fits f (units f false q k))
  unfolding units
  in_format =
      cond-fits f (ltb (q * 2 ^ k) (overflow f)) (odd (suc (prec f)) false q k (low f)) (inf false)
      (odd-fits f (suc (prec f)) false q k (lt_of_le_of_lt w.short (pow-lt (le_refl (suc (prec f))))) w.short under)
      (inf-fits f false)

-- the next power of two after the largest value
pub edge : (f : Format) → overflow f ≡ hid f * 2 ^ (ones f - 1)
edge f = let t = two f in let e : low f + suc (emax f) ≡ prec f - 1 + (ones f - 1) = omega arith in ap (λ (x : ℕ). 2 ^ x) e ∙ pow-add 2 (prec f - 1) (ones f - 1)

-- from the pattern of plus infinity on, it is an infinity
module _ (f : Format) (q k : ℕ) (lead : 0 < k → hid f ≤ q) (short : q ≤ 2 ^ prec f) (outside : infinite f ≤ k * hid f + q) where
  pub over : overflow f ≤ q * 2 ^ k
  over = rw (edge f) (go (eq-or-lt_of_le far))
    where
      far : ones f - 1 ≤ k + 1
      far = let x : ones f < k + 3 = lt_of_mul-lt-mul_right (hid f) (omega (arith, twice_hid f, hid_pos f)) in omega arith

      go : (ones f - 1 ≡ k + 1) ⊎ (ones f - 1 < k + 1) → hid f * 2 ^ (ones f - 1) ≤ q * 2 ^ k
      go (inl e) =
          let o : ones f ≡ k + 2 = omega arith in
          let x : 2 * hid f ≤ q = omega (arith, ap (λ (z : ℕ). z * hid f) o) in
          rw (e, pow-add 2 k 1) (omega (arith, mul-le-mul_right (2 ^ k) x))
      go (inr l) = let t = two f in let r = reach f in mul-le-mul (lead (omega arith)) (pow_mono (omega arith))

  pub infinite_units : units f false q k ≡ inf false
  unfolding units
  infinite_units = go (ltb (q * 2 ^ k) (overflow f)) (le→nltb (q * 2 ^ k) (overflow f) over)
    where
      go : (b : Bool) → T (not b) → cond b (odd (suc (prec f)) false q k (low f)) (inf false) ≡ inf false
      go true h = absurd h
      go false h = refl

-- with the leading digit in its place, exactly k digits are dropped
dropped : (p k q : ℕ) → 0 < p → (0 < k → 2 ^ (p - 1) ≤ q) → q < 2 ^ p → size (q * 2 ^ k) - p ≡ k
dropped p k q P lead hi = too_many p k (q * 2 ^ k) P (λ z. rw (pow-add 2 (p - 1) k) (mul-le-mul_right (2 ^ k) (lead z))) (shl_lt p k hi)

bits_short : (f : Format) (q k : ℕ) → (0 < k → hid f ≤ q) → q < 2 ^ prec f → bits_of f (q * 2 ^ k) ≡ k * hid f + q
bits_short f q k lead hi =
    ap (λ (x : ℕ). x * hid f + q * 2 ^ k / 2 ^ x) (dropped (prec f) k q (two-le_pos (prec f) (two f)) lead hi) ∙ ap (λ (x : ℕ). k * hid f + x) (mul-div_cancel q (pow_pos k))

bits_written : (f : Format) (q k : ℕ) → Written f q k → bits_of f (q * 2 ^ k) ≡ k * hid f + q
bits_written f q k w = go (eq-or-lt_of_le w.short)
  where
    go : (q ≡ 2 ^ prec f) ⊎ (q < 2 ^ prec f) → bits_of f (q * 2 ^ k) ≡ k * hid f + q
    go (inr l) = bits_short f q k w.lead l
    go (inl e) =
        let t = twice_hid f in
        let p = hid_pos f in
        let c : q * 2 ^ k ≡ hid f * 2 ^ suc k = rw (e ∙ t, pow-succ' 2 k) (omega arith) in
        ap (bits_of f) c ∙ bits_short f (hid f) (suc k) (λ z. le_refl (hid f)) (omega arith) ∙ omega arith

module _ (f : Format) (q k : ℕ) (w : Written f q k) where
  pub pattern_bits : to_bits f (units f false q k) ≡ k * hid f + q
  pattern_bits = to_bits_is f (units f false q k) (q * 2 ^ k) (value f q k w) ∙ bits_written f q k w

  pub pattern : of_bits f (k * hid f + q) ≡ units f false q k
  pattern = ap (of_bits f) (sym pattern_bits) ∙ of_bits-to_bits f (units f false q k) (in_format f q k w)

  pub pattern-value : pattern_value f (k * hid f + q) ≡ q * 2 ^ k
  unfolding pattern_value
  pattern-value = ap (amount f) pattern ∙ amount-is f (units f false q k) false (q * 2 ^ k) (value f q k w)

  pub pattern_positive : 0 < q → T (positive (units f false q k))
  pattern_positive p = positive_of_value (units f false q k) (q * 2 ^ k) (2 ^ low f) (value f q k w) (mul-pos p (pow_pos k))

-- ---- patterns are in the order of their values
-- a pattern and the next one, at the same k
module _ (f : Format) (q k : ℕ) (lead : 0 < k → hid f ≤ q) (short : q < 2 ^ prec f) (inside : k * hid f + q + 1 < infinite f) where
  pub here : pattern_value f (k * hid f + q) ≡ q * 2 ^ k
  here = pattern-value f q k (record { lead = lead; short = omega arith; inside = omega arith })

  pub there : pattern_value f (k * hid f + q + 1) ≡ (q + 1) * 2 ^ k
  there =
      let e : k * hid f + (q + 1) ≡ k * hid f + q + 1 = omega arith in
      rw e at (pattern-value f (q + 1) k (record { lead = λ z. let l = lead z in omega arith; short = omega arith; inside = omega arith }))

-- any pattern in that form
pub record At (f : Format) (b : ℕ) : Type 0 where
  pub q : ℕ
  pub k : ℕ
  pub is : k * hid f + q ≡ b
  pub lead : 0 < k → hid f ≤ q
  pub short : q < 2 ^ prec f

pub at : (f : Format) (b : ℕ) → At f b
at f b = go (b / hid f) (b % hid f) (div-add-mod' b (hid f)) (mod-lt b (hid_pos f))
  where
    go : (x t : ℕ) → x * hid f + t ≡ b → t < hid f → At f b
    go zero t e l = record { q = t; k = 0; is = e; lead = λ z. absurd (omega arith); short = omega (arith, twice_hid f) }
    go (suc x) t e l = record { q = hid f + t; k = x; is = omega arith; lead = λ z. omega arith; short = omega (arith, twice_hid f) }

pub finite_positive : (f : Format) (b : ℕ) → 0 < b → b < infinite f → T (positive (of_bits f b))
finite_positive f b p i = go (at f b)
  where
    some : (q k : ℕ) → k * hid f + q ≡ b → (0 < k → hid f ≤ q) → 0 < q
    some q zero e l = omega arith
    some q (suc k) e l = let h = l (zero-lt-suc k) in omega (arith, hid_pos f)

    go : At f b → T (positive (of_bits f b))
    go a =
        let w : Written f a.q a.k = record { lead = a.lead; short = omega arith; inside = omega arith } in
        rw (← a.is, pattern f a.q a.k w) (pattern_positive f a.q a.k w (some a.q a.k a.is a.lead))

next : (f : Format) (b : ℕ) → b + 1 < infinite f → pattern_value f b < pattern_value f (b + 1)
next f b h = go (at f b)
  where
    go : At f b → pattern_value f b < pattern_value f (b + 1)
    go a =
        let i : a.k * hid f + a.q + 1 < infinite f = omega arith in
        rw (← a.is, here f a.q a.k a.lead a.short i, there f a.q a.k a.lead a.short i) (mul-lt-mul_of_pos_right (omega arith) (pow_pos a.k))

pub in_order : (f : Format) (b c : ℕ) → b < c → c < infinite f → pattern_value f b < pattern_value f c
in_order f b zero l h = absurd (omega arith)
in_order f b (suc c) l h = go (eq-or-lt_of_le (le_of_suc-le-suc l)) (λ g. in_order f b c g (omega arith)) (rw add-one at (next f c (omega arith)))
  where
    go : (b ≡ c) ⊎ (b < c) → (b < c → pattern_value f b < pattern_value f c) → pattern_value f c < pattern_value f (suc c) → pattern_value f b < pattern_value f (suc c)
    go (inl e) r n = rw e n
    go (inr g) r n = let m = r g in omega arith
