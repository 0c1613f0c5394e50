-- The shape of a form that no line turns away, by its entries and by the edges that no 2-block lies across; and what a change of a square on the diagonal leaves of it. Assumes nothing.
use mathlib.Core.Path.{◌≡◌, refl, sym, ap, ◌∙◌}
use mathlib.Core.Logic.{◌⊎◌, inl, inr}
use Prim.Native.Nat.{ℕ, zero, suc, ◌+◌, ◌-◌, ◌*◌, ◌≤◌, ◌<◌}
use native.Mathlib.Decide.{dec_lt, dec_le, ℕ_discrete}
use native.Mathlib.Omega.{arith}
use mathlib.Core.Bool.{Bool, true, false, not, ◌&&◌}
use mathlib.Core.List.{List}
use lib.Dec.{ltb}
use lib.ListN.{length}
use lib.Ieee.{Float, Format, eq, ne}
use borrow.Author.Tests.{ltb-true, lt-ltb, le-ltb, eqb-true, eq-eqb, not-false}
use Rattle.model.specs.Arith.{zero_of}
use Rattle.model.specs.Form.{place, at, entry, nonzero_below, two_block, line2, line17, line3, deep_in, line5, touching_in, line6, form_line}
use Rattle.model.specs.Exchange.{crosses}
use Rattle.laws.proofs.InOrder.{passed}
use Rattle.laws_moves.proofs.Upper.{at_least, none, none-at}
use Rattle.laws_shape.proofs.Within.{Within}

-- ---- edges

-- the number in row r, column c is zero
abbrev pub Zero : Format → ℕ → List Float → ℕ → ℕ → Type 0
Zero f ld t r c = eq (entry ld t r c) (zero_of f) ≡ true

-- no 2-block lies across the edge above row e
abbrev pub Cut : Format → ℕ → ℕ → List Float → ℕ → Type 0
Cut f ld n t e = crosses f ld n t e ≡ false

guarded_false : (a b c : Bool) → (a ≡ true → b ≡ true → c ≡ false) → a && (b && c) ≡ false
guarded_false true true c h = h refl refl
guarded_false true false c h = refl
guarded_false false b c h = refl

module _ (f : Format) (ld n : ℕ) where
  pub cut_at : (t : List Float) (e c : ℕ) → e ≡ c + 1 → (e < n → Zero f ld t e c) → Cut f ld n t e
  unfolding crosses two_block ne
  cut_at t e c q h =
      let p : e - 1 ≡ c = omega arith in
      let o : c + 1 ≡ e = sym q in
      rw (p, o) (guarded_false (ltb 0 e) (ltb e n) _ (λ x y. ap not (h (ltb-true e n y))))

  pub cut_zero : (t : List Float) (e c : ℕ) → e ≡ c + 1 → e < n → Cut f ld n t e → Zero f ld t e c
  unfolding crosses two_block ne
  cut_zero t e c q l h =
      let p : e - 1 ≡ c = omega arith in
      let o : c + 1 ≡ e = sym q in
      not-false _ (rw (p, o, lt-ltb 0 e (omega arith), lt-ltb e n l) at h)

  -- above the first row, and below the last
  pub cut_first : (t : List Float) → Cut f ld n t 0
  unfolding crosses
  cut_first t = refl

  pub cut_last : (t : List Float) (e : ℕ) → n ≤ e → Cut f ld n t e
  cut_last t zero h = cut_first t
  cut_last t (suc e) h = cut_at t (suc e) e (omega arith) (λ l. absurd (omega arith))

  -- an edge outside of a square that was worked in
  pub edge_same : {a b : ℕ} {t t' : List Float} (e : ℕ) → Within ld n a b t t' → (a < e → e < b → ⊥) → crosses f ld n t' e ≡ crosses f ld n t e
  unfolding crosses two_block
  edge_same zero w d = refl
  edge_same {t = t} {t'} (suc e) w d =
      let p : suc e - 1 ≡ e = omega arith in
      let o : e + 1 ≡ suc e = omega arith in
      rw (p, o) (go (dec_lt (suc e) n))
    where
      go : Dec (suc e < n) → (ltb 0 (suc e) && (ltb (suc e) n && ne (entry ld t' (suc e) e) (zero_of f))) ≡ (ltb 0 (suc e) && (ltb (suc e) n && ne (entry ld t (suc e) e) (zero_of f)))
      go (yes l) = rw (w.else (suc e) e (omega arith) l (λ x y. d (omega arith) y))
      go (no l) = rw (le-ltb (suc e) n (omega arith))

-- ---- the shape

pub record Shape (f : Format) (ld n : ℕ) (t : List Float) : Type 0 where
  pub rows : line2 n ≡ false
  pub wide : line17 ld n ≡ false
  pub fits : n ≤ ld
  pub size : length t ≡ ld * n
  pub deep : (r c : ℕ) → c + 1 < r → r < n → Zero f ld t r c
  pub touching : (e : ℕ) → Cut f ld n t e ⊎ Cut f ld n t (e + 1)

module _ (f : Format) (ld n : ℕ) (t : List Float) where
  -- of two neighbouring entries one is zero
  one-zero : (a b : Bool) → a && b ≡ false → (a ≡ false) ⊎ (b ≡ false)
  one-zero true b h = inr h
  one-zero false b h = inl refl

  pub shape : form_line f ld n t ≡ 0 → Shape f ld n t
  unfolding form_line line3 line5 deep_in line6 touching_in ne
  shape h =
      let p2 = passed (line2 n) 1 _ h in
      let p17 = passed (line17 ld n) 16 _ p2.1 in
      let p3 = passed (line3 ld n t) 2 _ p17.1 in
      let p5 = passed (line5 f ld n t) 4 _ p3.1 in
      let p6 = passed (line6 f ld n t) 5 0 p5.1 in
      record {
        rows = p2.0;
        wide = p17.0;
        fits = at_least ld n p17.0;
        size = eqb-true _ _ (not-false _ p3.0);
        deep = deep p5.0;
        touching = touch p6.0;
      }
    where
      below : line5 f ld n t ≡ false → (r c : ℕ) → c + 1 < r → r < n → eq (at t (place ld (c + 2) c + (r - (c + 2)))) (zero_of f) ≡ true
      below g r c l h = not-false _ (none-at (n - (c + 2)) (λ (k : ℕ). ne (at t (place ld (c + 2) c + k)) (zero_of f)) (none-at (n - 2) (deep_in f ld n t) g c (omega arith)) (r - (c + 2)) (omega arith))

      deep : line5 f ld n t ≡ false → (r c : ℕ) → c + 1 < r → r < n → Zero f ld t r c
      deep g r c l h = let s : place ld (c + 2) c + (r - (c + 2)) ≡ place ld r c = omega arith in rw s at (below g r c l h)

      touch : line6 f ld n t ≡ false → (e : ℕ) → Cut f ld n t e ⊎ Cut f ld n t (e + 1)
      touch g zero = inl (cut_first f ld n t)
      touch g (suc j) = go (dec_lt (j + 2) n)
        where
          go : Dec (j + 2 < n) → Cut f ld n t (suc j) ⊎ Cut f ld n t (suc j + 1)
          go (no l) = inr (cut_last f ld n t (suc j + 1) (omega arith))
          go (yes l) =
              elim (one-zero (nonzero_below f ld t j) (nonzero_below f ld t (j + 1)) (none-at (n - 2) (touching_in f ld t) g j (omega arith))) [
                | inl z ↦ inl (cut_at f ld n t (suc j) j (omega arith) (λ _. let s : suc j ≡ j + 1 = omega arith in rw s (not-false _ z)))
                | inr z ↦ inr (cut_at f ld n t (suc j + 1) (j + 1) (omega arith) (λ _. let s : suc j + 1 ≡ j + 1 + 1 = omega arith in rw s (not-false _ z)))
              ]

  pub no_line3 : Shape f ld n t → line3 ld n t ≡ false
  unfolding line3
  no_line3 s = ap not (eq-eqb (length t) (ld * n) s.size)

  pub no_line5 : Shape f ld n t → line5 f ld n t ≡ false
  unfolding line5 deep_in ne
  no_line5 s = none (n - 2) (deep_in f ld n t) λ j h. none (n - (j + 2)) (λ (k : ℕ). ne (at t (place ld (j + 2) j + k)) (zero_of f)) λ k g. at_row j k g
    where
      at_row : (j k : ℕ) → k < n - (j + 2) → ne (at t (place ld (j + 2) j + k)) (zero_of f) ≡ false
      at_row j k g = let q : place ld (j + 2 + k) j ≡ place ld (j + 2) j + k = omega arith in rw q at (ap not (s.deep (j + 2 + k) j (omega arith) (omega arith)))

  pub no_line6 : Shape f ld n t → line6 f ld n t ≡ false
  unfolding line6 touching_in ne
  no_line6 s = none (n - 2) (touching_in f ld t) λ j h. go j (omega arith) (s.touching (j + 1))
    where
      and_right : (a b : Bool) → b ≡ false → a && b ≡ false
      and_right true b h = h
      and_right false b h = refl

      go : (j : ℕ) → j + 2 < n → Cut f ld n t (j + 1) ⊎ Cut f ld n t (j + 1 + 1) → touching_in f ld t j ≡ false
      go j l (inl z) = rw (cut_zero f ld n t (j + 1) j refl (omega arith) z)
      go j l (inr z) = and_right (nonzero_below f ld t j) (nonzero_below f ld t (j + 1)) (ap not (cut_zero f ld n t (j + 1 + 1) (j + 1) refl (omega arith) z))

  pub accepted : Shape f ld n t → form_line f ld n t ≡ 0
  unfolding form_line
  accepted s = rw (s.rows, s.wide, no_line3 s, no_line5 s, no_line6 s)

-- ---- a square of rows from j to b, worked in, with a cut at m and no more than two rows on each side of it

-- what is then known of the form: its shape, and that the edges outside are as they were
pub record Kept (f : Format) (ld n j b : ℕ) (t t' : List Float) : Type 0 where
  pub shape : Shape f ld n t'
  pub outside : (e : ℕ) → (j < e → e < b → ⊥) → crosses f ld n t' e ≡ crosses f ld n t e

pub worked : (f : Format) (ld n j m b : ℕ) (t t' : List Float) → j ≤ m → m ≤ j + 2 → m ≤ b → b ≤ m + 2 → b ≤ n
    → Shape f ld n t → Cut f ld n t j → Cut f ld n t b → Within ld n j b t t'
    → ((r c : ℕ) → j ≤ c → c + 1 < r → r < b → Zero f ld t' r c) → Cut f ld n t' m → Kept f ld n j b t t'
worked f ld n j m b t t' jm mj mb bm bn s cj cb w zeros cm =
    record {
      shape = record { rows = s.rows; wide = s.wide; fits = s.fits; size = w.size ∙ s.size; deep = deep; touching = touching };
      outside = same;
    }
  where
    same : (e : ℕ) → (j < e → e < b → ⊥) → crosses f ld n t' e ≡ crosses f ld n t e
    same e d = edge_same f ld n e w d

    deep : (r c : ℕ) → c + 1 < r → r < n → Zero f ld t' r c
    deep r c l h = elim (dec_le j c) [ yes p ↦ elim (dec_lt r b) [ yes q ↦ zeros r c p l q | no q ↦ old (λ x y. q y) ] | no p ↦ old (λ x y. p x) ]
      where
        old : (j ≤ c → r < b → ⊥) → Zero f ld t' r c
        old d = ap (λ (x : Float). eq x (zero_of f)) (w.else r c (omega arith) h d) ∙ s.deep r c l h

    cut : (e : ℕ) → (e ≡ j) ⊎ ((e ≡ m) ⊎ (e ≡ b)) → Cut f ld n t' e
    cut e (inl q) = same e (λ x y. omega arith) ∙ rw q cj
    cut e (inr (inl q)) = rw q cm
    cut e (inr (inr q)) = same e (λ x y. omega arith) ∙ rw q cb

    -- both edges are outside
    beside : (e : ℕ) → (j < e → e < b → ⊥) → (j < e + 1 → e + 1 < b → ⊥) → Cut f ld n t' e ⊎ Cut f ld n t' (e + 1)
    beside e x y = elim (s.touching e) [ inl z ↦ inl (same e x ∙ z) | inr z ↦ inr (same (e + 1) y ∙ z) ]

    touching : (e : ℕ) → Cut f ld n t' e ⊎ Cut f ld n t' (e + 1)
    touching e =
        elim (ℕ_discrete e j) [
          | yes q ↦ inl (cut e (inl q))
          | no q ↦ elim (ℕ_discrete e m) [
            | yes p ↦ inl (cut e (inr (inl p)))
            | no p ↦ elim (ℕ_discrete (e + 1) m) [
              | yes o ↦ inr (cut (e + 1) (inr (inl o)))
              | no o ↦ elim (ℕ_discrete (e + 1) b) [
                | yes i ↦ inr (cut (e + 1) (inr (inr i)))
                | no i ↦ beside e (λ x y. omega arith) (λ x y. omega arith)
              ]
            ]
          ]
        ]
