-- Triangular forms: every entry below the diagonal is a zero of either sign, so that every block is one row and a move is refused for line 4 or line 7 alone. The exchange of two rows leaves such a form. Assumes nothing.
use mathlib.Core.Path.{◌≡◌, refl, ap, ◌∙◌}
use mathlib.Core.Logic.{◌⊎◌, inl, inr}
use Prim.Native.Nat.{ℕ, zero, suc, ◌+◌, ◌-◌, ◌*◌, ◌≤◌, ◌<◌}
use native.Mathlib.Nat.{eq-or-lt_of_le, le_of_suc-le-suc}
use native.Mathlib.Omega.{arith}
use mathlib.Core.Bool.{Bool, true, false, not, ◌&&◌, ◌||◌, cond, true≢false}
use mathlib.Core.List.{List}
use lib.Dec.{ltb, leb}
use lib.ListN.{length}
use lib.Ieee.{Float, Format, eq, ne}
use borrow.Author.Tests.{ltb-true, ltb-false, leb-true, eqb-true, not-false, eq-eqb}
use Rattle.model.specs.Arith.{zero_of}
use Rattle.model.specs.Form.{place, at, entry, nonzero_below, two_block, some, line2, line17, line3, line4, line5, line6, line7, deep_in, touching_in, form_line}
use Rattle.model.specs.Move.{first_row, size_at, size_above, move_line}
use Rattle.laws_moves.specs.Lists.{Triangular}
use Rattle.laws_moves.proofs.Swap.{after, after_length, after_else}

-- n is allowed, the form has its length, and every entry below the diagonal is zero
pub record Upper (f : Format) (ld n : ℕ) (t : List Float) : Type 0 where
  pub rows : line2 n ≡ false
  pub wide : line17 ld n ≡ false
  pub fits : n ≤ ld
  pub size : length t ≡ ld * n
  pub below : (i j : ℕ) → j < i → i < n → eq (entry ld t i j) (zero_of f) ≡ true

-- ---- tests

pub or_left : (a b : Bool) → a || b ≡ false → a ≡ false
or_left true b e = e
or_left false b e = refl

pub or_right : (a b : Bool) → a || b ≡ false → b ≡ false
or_right true b e = absurd (true≢false e)
or_right false b e = e

-- no number below n passes
pub none-at : (n : ℕ) (p : ℕ → Bool) → some n p ≡ false → (i : ℕ) → i < n → p i ≡ false
unfolding some
none-at zero p e i h = absurd (omega arith)
none-at (suc n) p e i h = go (eq-or-lt_of_le (le_of_suc-le-suc h)) (none-at n p (or_left (some n p) (p n) e))
  where
    go : (i ≡ n) ⊎ (i < n) → ((k : ℕ) → k < n → p k ≡ false) → p i ≡ false
    go (inl q) r = ap p q ∙ or_right (some n p) (p n) e
    go (inr l) r = r i l

pub none : (n : ℕ) (p : ℕ → Bool) → ((i : ℕ) → i < n → p i ≡ false) → some n p ≡ false
unfolding some
none zero p h = refl
none (suc n) p h = rw (none n p (λ i l. h i (omega arith)), h n (omega arith))

-- ---- an accepted form with zeros just below the diagonal

-- which lines do not apply, if none does
first-line : (a e b c d : Bool) → ◌≡◌ {A = ℕ} (cond a 2 (cond e 17 (cond b 3 (cond c 5 (cond d 6 0))))) 0 → (a ≡ false) × (e ≡ false) × (b ≡ false) × (c ≡ false)
first-line true e b c d h = absurd (omega arith)
first-line false true b c d h = absurd (omega arith)
first-line false false true c d h = absurd (omega arith)
first-line false false false true d h = absurd (omega arith)
first-line false false false false d h = (refl, refl, refl, refl)

-- a stride that line 17 does not turn away has room for the n rows
pub at_least : (ld n : ℕ) → line17 ld n ≡ false → n ≤ ld
unfolding line17
at_least ld n h = ltb-false ld n (or_left (ltb ld n) (ltb 128 ld) h)

pub upper : (f : Format) (ld n : ℕ) (t : List Float) → Triangular f ld n t → Upper f ld n t
unfolding form_line line3 line5 deep_in ne
upper f ld n t h = record { rows = l.0; wide = l.1; fits = at_least ld n l.1; size = eqb-true _ _ (not-false _ l.2); below = λ i j c r. go i j r (eq-or-lt_of_le c) }
  where
    l : (line2 n ≡ false) × (line17 ld n ≡ false) × (line3 ld n t ≡ false) × (line5 f ld n t ≡ false)
    l = first-line (line2 n) (line17 ld n) (line3 ld n t) (line5 f ld n t) (line6 f ld n t) h.accepted

    deep : (i j : ℕ) → suc j < i → i < n → eq (at t (place ld (j + 2) j + (i - (j + 2)))) (zero_of f) ≡ true
    deep i j c r = not-false _ (none-at (n - (j + 2)) (λ (k : ℕ). ne (at t (place ld (j + 2) j + k)) (zero_of f)) (none-at (n - 2) (deep_in f ld n t) l.3 j (omega arith)) (i - (j + 2)) (omega arith))

    go : (i j : ℕ) → i < n → (suc j ≡ i) ⊎ (suc j < i) → eq (entry ld t i j) (zero_of f) ≡ true
    go i j r (inl e) = let s : j + 1 ≡ i = omega arith in rw s at (h.zeros j (omega arith))
    go i j r (inr c) = let s : place ld (j + 2) j + (i - (j + 2)) ≡ place ld i j = omega arith in rw s at (deep i j c r)

-- ---- the exchange of two rows

pub upper_after : (f : Format) (ld n j : ℕ) (t : List Float) → j + 1 < n → Upper f ld n t → Upper f ld n (after f ld n j t)
upper_after f ld n j t g u =
    record { rows = u.rows; wide = u.wide; fits = u.fits; size = after_length f ld n j t ∙ u.size; below = λ i k c r. ap (λ (x : Float). eq x (zero_of f)) (after_else f ld n j t (omega arith) g i k (omega arith) r (λ p q. omega arith) (λ p q. omega arith)) ∙ u.below i k c r }

-- ---- every block is one row

pub none_below : (f : Format) (ld n j : ℕ) (t : List Float) → Upper f ld n t → j + 1 < n → nonzero_below f ld t j ≡ false
unfolding ne
none_below f ld n j t u h = ap not (u.below (j + 1) j (omega arith) h)

-- the second test fails where the first passes
and_false : (a b : Bool) → (a ≡ true → b ≡ false) → a && b ≡ false
and_false true b h = h refl
and_false false b h = refl

pub size-at : (f : Format) (ld n p : ℕ) (t : List Float) → Upper f ld n t → size_at f ld n t p ≡ 1
unfolding size_at two_block
size-at f ld n p t u = rw (and_false (ltb (p + 1) n) (nonzero_below f ld t p) (λ e. none_below f ld n p t u (ltb-true (p + 1) n e)))

pub size_above_lem : (f : Format) (ld n p : ℕ) (t : List Float) → Upper f ld n t → p < n → size_above f ld t p ≡ 1
unfolding size_above
size_above_lem f ld n p t u h = rw (and_false (leb 2 p) (nonzero_below f ld t (p - 2)) (λ e. let l = leb-true 2 p e in none_below f ld n (p - 2) t u (omega arith)))

pub first-row : (f : Format) (ld n p : ℕ) (t : List Float) → Upper f ld n t → p < n → first_row f ld t p ≡ p
unfolding first_row
first-row f ld n p t u h = rw (and_false (ltb 0 p) (nonzero_below f ld t (p - 1)) (λ e. let l = ltb-true 0 p e in none_below f ld n (p - 1) t u (omega arith)))

-- ---- a move is refused for line 4 or line 7 alone

no_line3 : (f : Format) (ld n : ℕ) (t : List Float) → Upper f ld n t → line3 ld n t ≡ false
unfolding line3
no_line3 f ld n t u = ap not (eq-eqb (length t) (ld * n) u.size)

no_line5 : (f : Format) (ld n : ℕ) (t : List Float) → Upper f ld n t → line5 f ld n t ≡ false
unfolding line5 deep_in ne
no_line5 f ld n t u = none (n - 2) (deep_in f ld n t) λ j h. none (n - (j + 2)) (λ (k : ℕ). ne (at t (place ld (j + 2) j + k)) (zero_of f)) λ k g. at_row j k g
  where
    at_row : (j k : ℕ) → k < n - (j + 2) → ne (at t (place ld (j + 2) j + k)) (zero_of f) ≡ false
    at_row j k g = let s : place ld (j + 2 + k) j ≡ place ld (j + 2) j + k = omega arith in rw s at (ap not (u.below (j + 2 + k) j (omega arith) (omega arith)))

no_line6 : (f : Format) (ld n : ℕ) (t : List Float) → Upper f ld n t → line6 f ld n t ≡ false
unfolding line6 touching_in
no_line6 f ld n t u = none (n - 2) (touching_in f ld t) λ j h. rw (none_below f ld n j t u (omega arith))

pub move-line : (f : Format) (ld n from to : ℕ) (t v : List Float) → Upper f ld n t → move_line f ld n t v from to ≡ cond (line4 ld n v) 4 (cond (line7 n from) 7 (cond (line7 n to) 7 0))
unfolding move_line
move-line f ld n from to t v u = rw (u.rows, u.wide, no_line3 f ld n t u, no_line5 f ld n t u, no_line6 f ld n t u)
