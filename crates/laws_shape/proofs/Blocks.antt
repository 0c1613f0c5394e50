-- Where blocks begin and end, by the edges that no 2-block lies across; and an exchange between such edges is accepted as a call. Assumes nothing.
use mathlib.Core.Path.{◌≡◌, refl, sym, ◌∙◌}
use mathlib.Core.Logic.{inl, inr}
use Prim.Native.Nat.{ℕ, zero, suc, ◌+◌, ◌-◌, ◌≤◌, ◌<◌}
use native.Mathlib.Decide.{dec_lt}
use native.Mathlib.Omega.{arith}
use mathlib.Core.Bool.{Bool, true, false, ◌&&◌, cond, true≢false}
use mathlib.Core.List.{List, []}
use lib.Dec.{leb}
use lib.Ieee.{Float, Format}
use borrow.Author.Tests.{lt-ltb, le-ltb, leb-true, leb-false}
use Rattle.model.specs.Form.{nonzero_below, two_block, line7}
use Rattle.model.specs.Swaps.{Swap}
use Rattle.model.specs.Exchange.{crosses, exchange_line}
use Rattle.model.specs.Move.{first_row, size_at, size_above}
use Rattle.laws_stride.proofs.Lines.{empty}
use Rattle.laws_shape.proofs.Shape.{Cut, Shape, cut_first, cut_last, no_line3, no_line5, no_line6}
use Rattle.laws_shape.proofs.Steps.{Edges, run_fits}

module _ (f : Format) (ld n : ℕ) (t : List Float) where
  -- the edge above a row below n is crossed exactly where the entry just below the diagonal there is not zero
  crossed : (e c : ℕ) → e ≡ c + 1 → e < n → crosses f ld n t e ≡ nonzero_below f ld t c
  unfolding crosses two_block
  crossed e c q l =
      let p : e - 1 ≡ c = omega arith in
      let o : c + 1 ≡ e = sym q in
      rw (p, o, lt-ltb 0 e (omega arith), lt-ltb e n l)

  module _ (s : Shape f ld n t) where
    -- where an edge is crossed, neither of its neighbours is
    above_crossed : (e : ℕ) → crosses f ld n t (e + 1) ≡ true → Cut f ld n t e
    above_crossed e h = elim (s.touching e) [ inl z ↦ z | inr z ↦ absurd (true≢false (sym h ∙ z)) ]

    below_crossed : (e : ℕ) → crosses f ld n t e ≡ true → Cut f ld n t (e + 1)
    below_crossed e h = elim (s.touching e) [ inl z ↦ absurd (true≢false (sym h ∙ z)) | inr z ↦ z ]

    -- below the block that begins in row p
    pub size_cut : (p : ℕ) → Cut f ld n t (p + size_at f ld n t p)
    unfolding size_at two_block
    size_cut p = elim (dec_lt (p + 1) n) [ yes l ↦ rw (lt-ltb (p + 1) n l) (go l (nonzero_below f ld t p) refl) | no l ↦ rw (le-ltb (p + 1) n (omega arith)) (cut_last f ld n t (p + 1) (omega arith)) ]
      where
        go : p + 1 < n → (b : Bool) → nonzero_below f ld t p ≡ b → Cut f ld n t (p + cond b 2 1)
        go l true e = let q : p + 2 ≡ p + 1 + 1 = omega arith in rw q (below_crossed (p + 1) (crossed (p + 1) p refl l ∙ e))
        go l false e = crossed (p + 1) p refl l ∙ e

    -- above the block that ends above row p
    pub above_cut : (p : ℕ) → 0 < p → p ≤ n → Cut f ld n t (p - size_above f ld t p)
    unfolding size_above
    above_cut p h g = go (leb 2 p) refl (nonzero_below f ld t (p - 2)) refl
      where
        go : (a : Bool) → leb 2 p ≡ a → (b : Bool) → nonzero_below f ld t (p - 2) ≡ b → Cut f ld n t (p - cond (a && b) 2 1)
        go true d true e =
            let l = leb-true 2 p d in
            above_crossed (p - 2) (crossed (p - 2 + 1) (p - 2) refl (omega arith) ∙ e)
        go true d false e =
            let l = leb-true 2 p d in
            let q : p - 1 ≡ p - 2 + 1 = omega arith in
            rw q (crossed (p - 2 + 1) (p - 2) refl (omega arith) ∙ e)
        go false d b e =
            let l = leb-false 2 p d in
            let q : p - 1 ≡ 0 = omega arith in
            rw q (cut_first f ld n t)

    -- above the block that row p is in
    pub first_cut : (p : ℕ) → p < n → Cut f ld n t (first_row f ld t p)
    unfolding first_row
    first_cut zero g = cut_first f ld n t
    first_cut (suc p) g = rw (lt-ltb 0 (suc p) (omega arith)) (go (nonzero_below f ld t (suc p - 1)) refl)
      where
        q : suc p - 1 ≡ p
        q = omega arith

        go : (b : Bool) → nonzero_below f ld t (suc p - 1) ≡ b → Cut f ld n t (cond b (suc p - 1) (suc p))
        go true e = rw q (above_crossed p (crossed (p + 1) p refl (omega arith) ∙ (rw q at e)))
        go false e = crossed (suc p) p (omega arith) g ∙ (rw q at e)

    -- no line turns an exchange between such edges away
    pub exchange-accepted : (j n1 n2 : ℕ) → Edges f ld n t j n1 n2 → exchange_line f ld n t [] j n1 n2 ≡ 0
    unfolding exchange_line line7
    exchange-accepted j n1 n2 e =
        let k = e.room in
        let r : Swap = record { row = j; n1 = n1; n2 = n2; declined = false } in
        let x = run_fits f ld n t r e in
        rw (s.rows, s.wide, no_line3 f ld n t s, empty ld n [] refl, no_line5 f ld n t s, no_line6 f ld n t s, lt-ltb j n (omega arith), x.sizes, x.rows, x.edges)
