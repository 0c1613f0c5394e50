-- One step of going through the blocks from the last, as the code takes it. Assumes nothing.
use mathlib.Core.Path.{◌≡◌, refl, sym, ap, ◌∙◌}
use mathlib.Core.Bool.{Bool, true, false, not, cond}
use mathlib.Core.List.{List}
use Prim.Native.Nat.{ℕ, suc, ◌+◌, ◌-◌, ◌<◌, ◌≤◌}
use native.Mathlib.Numerals.{add-one}
use native.Mathlib.Decide.{ℕ_discrete}
use native.Mathlib.Omega.{arith}
use borrow.Author.Tests.{le-leb}
use lib.Ieee.{Float, Format, ne}
use Rattle.model.specs.Form.{zero_below}
use Rattle.model.specs.Move.{size_above}
use Rattle.model.specs.Vectors.{blocks_down}

-- what a block's size says of the entry inside it
one-is : (b : Bool) → ◌≡◌ {A = ℕ} (cond (not b) 2 1) 1 → b ≡ true
one-is true e = refl
one-is false e = absurd (omega arith)

two_is : (b : Bool) → (◌≡◌ {A = ℕ} (cond (not b) 2 1) 1 → ⊥) → b ≡ false
two_is true e = absurd (e refl)
two_is false e = refl

module _ (f : Format) (ld : ℕ) (a : List Float) (one two : ℕ → List Float → List Float) (x : List Float) where
  abbrev down : ℕ → List Float → List Float
  down = blocks_down f ld a one two

  from-two : (rows : ℕ) → 2 ≤ rows → down (suc (suc (rows - 2))) x ≡ down rows x
  from-two rows h = ap (λ (k : ℕ). down k x) (omega arith)

  one_more : (j : ℕ) → zero_below f ld a j ≡ true → down (j + 1) (one (j + 1) x) ≡ down (suc (suc j)) x
  unfolding blocks_down
  one_more j z = rw (z, add-one)

  two-more : (j : ℕ) → zero_below f ld a j ≡ false → down j (two j x) ≡ down (suc (suc j)) x
  unfolding blocks_down
  two-more j z = rw z

  above : (rows : ℕ) → 2 ≤ rows → size_above f ld a rows ≡ cond (not (zero_below f ld a (rows - 2))) 2 1
  unfolding size_above ne
  above rows h = rw (le-leb 2 rows h)

  single : (rows : ℕ) → rows ≡ 1 → size_above f ld a rows ≡ 1
  unfolding size_above
  single rows e = rw e

  -- the last of so many rows is a 1-block
  last_one : (rows : ℕ) → 0 < rows → size_above f ld a rows ≡ 1 → down (rows - 1) (one (rows - 1) x) ≡ down rows x
  unfolding blocks_down
  last_one rows h e =
      elim (ℕ_discrete rows 1) [
        | yes p ↦ rw p
        | no p ↦ many (omega arith)
      ]
    where
      many : 2 ≤ rows → down (rows - 1) (one (rows - 1) x) ≡ down rows x
      many l = let e₁ : rows - 1 ≡ rows - 2 + 1 = omega arith in ap (λ (k : ℕ). down k (one k x)) e₁ ∙ one_more (rows - 2) (one-is _ (sym (above rows l) ∙ e)) ∙ from-two rows l

  -- the last two are a 2-block
  last-two : (rows : ℕ) → 0 < rows → (size_above f ld a rows ≡ 1 → ⊥) → down (rows - 2) (two (rows - 2) x) ≡ down rows x
  last-two rows h e =
      elim (ℕ_discrete rows 1) [
        | yes p ↦ absurd (e (single rows p))
        | no p ↦ many (omega arith)
      ]
    where
      many : 2 ≤ rows → down (rows - 2) (two (rows - 2) x) ≡ down rows x
      many l = two-more (rows - 2) (two_is _ (λ q. e (above rows l ∙ q))) ∙ from-two rows l

  -- of so many rows the last block, by the size that the code finds, and what the rest then gives
  module _ (rows size : ℕ) (h : 0 < rows) (e : size ≡ size_above f ld a rows) (y z : List Float) (r : down rows x ≡ z) where
    pub step_one : size ≡ 1 → y ≡ one (rows - size) x → down (rows - size) y ≡ z
    step_one o k = rw (k, o) (last_one rows h (sym e ∙ o) ∙ r)

    pub step_two : (size ≡ 1 → ⊥) → 1 ≤ size → size ≤ 2 → y ≡ two (rows - size) x → down (rows - size) y ≡ z
    step_two o l m k = let d : size ≡ 2 = omega arith in rw (k, d) (last-two rows h (λ q. o (e ∙ q)) ∙ r)
