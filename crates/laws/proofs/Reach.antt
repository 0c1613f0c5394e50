-- The patterns up to that of plus infinity, and the magnitudes of specs/ModulusNearest.antt: neighbours, order and parity. Assumes nothing.
use mathlib.Core.Path.{◌≡◌, refl, ap, ◌∙◌}
use mathlib.Core.Logic.{◌⊎◌, inl, inr}
use Prim.Native.Nat.{ℕ, zero, suc, ◌+◌, ◌-◌, ◌*◌, ◌%◌, ◌^◌, ◌≤◌, ◌<◌}
use native.Mathlib.Nat.{mul-pos, le_of_suc-le-suc, lt_of_mul-lt-mul_right, zero-lt-suc, eq-or-lt_of_le, pow-succ'}
use native.Mathlib.Omega.{arith}
use mathlib.Core.Bool.{Bool, true, false, cond}
use lib.Dec.{T, eqb, eqb→eq, eqb_refl}
use lib.Pow.{pow-add}
use lib.Ieee.{Format, prec, hid, ones}
use lib.Ieee.Fits.{two}
use lib.Ieee.Scale.{overflow}
use Rattle.laws.specs.RootNearest.{infinite, pattern_value}
use Rattle.laws.specs.ModulusNearest.{reach_value, twice_reach}
use Rattle.laws.proofs.Patterns.{Written, At, at, under, field_lt, edge, there, pattern-value, in_order, twice_hid, hid_pos}

-- ---- the value of each
pub own_reach : (f : Format) (b : ℕ) → b < infinite f → reach_value f b ≡ pattern_value f b
unfolding reach_value
own_reach f b i = go (eqb b (infinite f)) (eqb→eq b (infinite f))
  where
    go : (t : Bool) → (T t → b ≡ infinite f) → cond t (overflow f) (pattern_value f b) ≡ pattern_value f b
    go true e = let z = e tt in absurd (omega arith)
    go false e = refl

pub edge_reach : (f : Format) → reach_value f (infinite f) ≡ overflow f
unfolding reach_value
edge_reach f = go (eqb (infinite f) (infinite f)) (eqb_refl (infinite f))
  where
    go : (t : Bool) → T t → cond t (overflow f) (pattern_value f (infinite f)) ≡ overflow f
    go true e = refl
    go false e = absurd e

-- ---- a pattern below that of plus infinity, and the next
module _ (f : Format) (b : ℕ) (a : At f b) (i : b < infinite f) where
  written : Written f a.q a.k
  written = record { lead = a.lead; short = omega arith; inside = omega arith }

  pub reach_here : reach_value f b ≡ a.q * 2 ^ a.k
  reach_here = own_reach f b i ∙ rw a.is at (pattern-value f a.q a.k written)

  -- the next is a pattern of a finite value, or that of plus infinity
  last : b + 1 ≡ infinite f → (a.q + 1) * 2 ^ a.k ≡ overflow f
  last e =
      let t = twice_hid f in
      let l = field_lt f a.q a.k written in
      let o : ones f < a.k + 3 = lt_of_mul-lt-mul_right (hid f) (omega (arith, hid_pos f)) in
      let s : ones f ≡ a.k + 2 = omega arith in
      let x : a.q + 1 ≡ 2 * hid f = omega (arith, ap (λ (z : ℕ). z * hid f) s) in
      let p : ones f - 1 ≡ a.k + 1 = omega arith in
      rw (edge f, p, x, pow-add 2 a.k 1) (omega arith)

  pub reach_there : reach_value f (b + 1) ≡ (a.q + 1) * 2 ^ a.k
  reach_there = go (eq-or-lt_of_le (omega arith))
    where
      go : (b + 1 ≡ infinite f) ⊎ (b + 1 < infinite f) → reach_value f (b + 1) ≡ (a.q + 1) * 2 ^ a.k
      go (inl e) = rw (last e, e) (edge_reach f)
      go (inr l) = own_reach f (b + 1) l ∙ rw a.is at (there f a.q a.k a.lead a.short (omega arith))

  pub middle : twice_reach f b (b + 1) ≡ (2 * a.q + 1) * 2 ^ a.k
  middle = rw (reach_here, reach_there) (omega arith)

  pub reach_under : reach_value f b < overflow f
  reach_under = rw reach_here (under f a.q a.k written)

pub infinite_pos : (f : Format) → 0 < infinite f
infinite_pos f = mul-pos (omega arith) (hid_pos f)

pub reach_zero : (f : Format) → reach_value f 0 ≡ 0
reach_zero f =
    let i = infinite_pos f in
    let e : 0 * hid f + 0 ≡ 0 = omega arith in
    own_reach f 0 i ∙ rw e at (pattern-value f 0 0 (record { lead = λ z. absurd (omega arith); short = omega arith; inside = omega arith }))

-- ---- in the order of their values
pub reach_order : (f : Format) (b c : ℕ) → b < c → c ≤ infinite f → reach_value f b < reach_value f c
reach_order f b c l m = go (eq-or-lt_of_le m)
  where
    go : (c ≡ infinite f) ⊎ (c < infinite f) → reach_value f b < reach_value f c
    go (inl e) = rw (e, edge_reach f) (reach_under f b (at f b) (omega arith))
    go (inr i) = rw (own_reach f b (omega arith), own_reach f c i) (in_order f b c l i)

-- ---- k * hid + q is even where q is
pub parity : (f : Format) (k q : ℕ) → q % 2 ≡ 0 → (k * hid f + q) % 2 ≡ 0
parity f k q e =
    let t = two f in
    let p : prec f - 1 ≡ suc (prec f - 2) = omega arith in
    let x : hid f ≡ 2 * 2 ^ (prec f - 2) = ap (λ (z : ℕ). 2 ^ z) p ∙ pow-succ' 2 (prec f - 2) in
    omega (arith, ap (λ (z : ℕ). k * z) x)

-- a smaller pattern has no larger field
pub field_le : (g k q h c : ℕ) → (0 < k → g ≤ q) → c ≤ 2 * g → k * g + q < h * g + c → k ≤ h
field_le g zero q h c lead short l = omega arith
field_le g (suc k) q h c lead short l = let x = lead (zero-lt-suc k) in le_of_suc-le-suc (lt_of_mul-lt-mul_right g (omega arith))
