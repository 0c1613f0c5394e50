-- One change and then another, and the cases of an exchange: two rows with a zero inside go one by one, and else it is one swap with the blocks standardised. Assumes nothing.
use mathlib.Core.Path.{◌≡◌, refl, sym}
use Prim.Native.Nat.{ℕ, suc, ◌+◌, ◌-◌, ◌≤◌}
use native.Mathlib.Omega.{arith}
use mathlib.Core.Bool.{Bool, true, false, ◌&&◌, true≢false}
use mathlib.Core.List.{List, append-nil, append_assoc}
use lib.Dec.{eqb}
use lib.Ieee.{Float, Format}
use borrow.Author.Tests.{eqb-true}
use Rattle.model.specs.Form.{zero_below}
use Rattle.model.specs.Swaps.{Change, unchanged, and_then}
use Rattle.model.specs.Exchange.{exchange_whole, exchange_by, exchange}

-- ---- one change and then another

pub then_nothing : (c : Change) → and_then c unchanged ≡ c
unfolding and_then
then_nothing c = simp append-nil

pub then_then : (c : Change) (g h : List Float → Change) → and_then (and_then c g) h ≡ and_then c (λ (t : List Float). and_then (g t) h)
unfolding and_then
then_then c g h = simp append_assoc

-- what comes after is looked at only at the form as it then is
pub then_same : (c : Change) (g h : List Float → Change) → g c.form ≡ h c.form → and_then c g ≡ and_then c h
unfolding and_then
then_same c g h e = rw e

-- ---- the tests

pub both_true : (a b : Bool) → (a && b) ≡ true → (a ≡ true) × (b ≡ true)
both_true true b h = (refl, h)
both_true false b h = absurd (true≢false (sym h))

pub is-two : (f : Format) (ld size j : ℕ) (t : List Float) → (eqb size 2 && zero_below f ld t j) ≡ true → size ≡ 2
is-two f ld size j t h = eqb-true size 2 (both_true (eqb size 2) (zero_below f ld t j) h).0

-- ---- the cases

module _ (f : Format) (ld n j n1 n2 : ℕ) (t : List Float) where
  pub upper-apart : (eqb n1 2 && zero_below f ld t j) ≡ true → exchange f ld n j n1 n2 t ≡ and_then (exchange f ld n (j + 1) 1 n2 t) (exchange f ld n j 1 n2)
  unfolding exchange exchange_by
  upper-apart h =
      let e = is-two f ld n1 j t h in
      let k : n1 + n2 ≡ suc (1 + n2) = omega arith in
      rw (k, h)

  pub lower-apart : (eqb n1 2 && zero_below f ld t j) ≡ false → (eqb n2 2 && zero_below f ld t (j + n1)) ≡ true
      → exchange f ld n j n1 n2 t ≡ and_then (exchange f ld n j n1 1 t) (exchange f ld n (j + 1) n1 1)
  unfolding exchange exchange_by
  lower-apart g h =
      let e = is-two f ld n2 (j + n1) t h in
      let k : n1 + n2 ≡ suc (n1 + 1) = omega arith in
      rw (k, g, h)

  pub none_apart : 1 ≤ n1 → (eqb n1 2 && zero_below f ld t j) ≡ false → (eqb n2 2 && zero_below f ld t (j + n1)) ≡ false
      → exchange f ld n j n1 n2 t ≡ exchange_whole f ld n j n1 n2 t
  unfolding exchange exchange_by
  none_apart o g h =
      let k : n1 + n2 ≡ suc (n1 + n2 - 1) = omega arith in
      rw (k, g, h)
