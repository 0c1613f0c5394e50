-- The exchange of two single rows: their diagonal numbers change places, and nothing else on or below the diagonal changes. Assumes nothing.
use mathlib.Core.Path.{◌≡◌, refl, ap, ◌∙◌}
use Prim.Native.Nat.{ℕ, suc, ◌+◌, ◌-◌, ◌*◌, ◌≤◌, ◌<◌}
use native.Mathlib.Nat.{mul-le-mul_left}
use native.Mathlib.Omega.{arith}
use mathlib.Core.List.{List}
use lib.ListN.{length, length-set}
use lib.Seq.{get_or-set_same, get_or-set_other}
use lib.Ieee.{Float, nan, Format}
use Rattle.model.specs.Form.{place, entry}
use Rattle.model.specs.Jacobi.{Rotation}
use Rattle.model.specs.Columns.{rotates, on_form, on_columns, on_rows}
use Rattle.model.specs.Swaps.{and_then, put, rotation11, swap11, swap_of}
use Rattle.model.specs.Exchange.{exchange, exchange_by, exchange_whole, standardise_if}
use Rattle.laws_moves.proofs.Places.{apart, not_above, rotate_run-length, rotate_run_else}

-- ---- what is rotated lies above the diagonal

on_form-length : (f : Format) (ld n j : ℕ) (v : Rotation) (t : List Float) → length (on_form f ld n (j + 2) j (rotates v j (j + 1)) t) ≡ length t
unfolding on_form on_columns on_rows
on_form-length f ld n j v t = rotate_run-length _ _ _ _ _ _ _ ∙ rotate_run-length _ _ _ _ _ _ _

on_form_else : (f : Format) (ld n j r c : ℕ) (v : Rotation) (t : List Float) → n ≤ ld → c ≤ r → r < n → j + 1 < n
    → entry ld (on_form f ld n (j + 2) j (rotates v j (j + 1)) t) r c ≡ entry ld t r c
unfolding on_form on_columns on_rows
on_form_else f ld n j r c v t w b h g =
    rotate_run_else f v 1 j (place ld 0 j) (place ld 0 (j + 1)) (place ld r c) _
    (λ i a e. not_above ld r c i j b (omega arith) a (omega arith) (omega arith))
    (λ i a e. not_above ld r c i (j + 1) b (omega arith) (omega arith) (omega arith) (omega arith))
    ∙ rotate_run_else f v ld (n - (j + 2)) (place ld j (j + 2)) (place ld (j + 1) (j + 2)) (place ld r c) t
    (λ i a e. not_above ld r c j (j + 2 + i) b (omega arith) (omega arith) (omega arith) (omega arith))
    (λ i a e. not_above ld r c (j + 1) (j + 2 + i) b (omega arith) (omega arith) (omega arith) (omega arith))

-- ---- the exchange

abbrev pub after : Format → ℕ → ℕ → ℕ → List Float → List Float
after f ld n j t = (exchange f ld n j 1 1 t).form

-- the two numbers put down
abbrev crossed : ℕ → ℕ → List Float → List Float
crossed ld j t = put ld j j (entry ld t (j + 1) (j + 1)) (put ld (j + 1) (j + 1) (entry ld t j j) t)

after_is : (f : Format) (ld n j : ℕ) (t : List Float) → after f ld n j t ≡ on_form f ld n (j + 2) j (rotates (rotation11 f ld t j) j (j + 1)) (crossed ld j t)
unfolding exchange exchange_by exchange_whole standardise_if and_then swap_of swap11
after_is f ld n j t = refl

pub after_length : (f : Format) (ld n j : ℕ) (t : List Float) → length (after f ld n j t) ≡ length t
after_length f ld n j t = ap length (after_is f ld n j t) ∙ on_form-length f ld n j (rotation11 f ld t j) (crossed ld j t) ∙ simp length-set

inside : (ld n i : ℕ) (t : List Float) → length t ≡ ld * n → n ≤ ld → i < n → place ld i i < length t
inside ld n i t l w h = let m : ld * suc i ≤ ld * n = mul-le-mul_left ld h in omega arith

-- on and below the diagonal
module _ (f : Format) (ld n j : ℕ) (t : List Float) (w : n ≤ ld) (g : j + 1 < n) where
  after_crossed : (r c : ℕ) → c ≤ r → r < n → entry ld (after f ld n j t) r c ≡ entry ld (crossed ld j t) r c
  after_crossed r c b h = ap (λ (s : List Float). entry ld s r c) (after_is f ld n j t) ∙ on_form_else f ld n j r c (rotation11 f ld t j) (crossed ld j t) w b h g

  pub after_else : (r c : ℕ) → c ≤ r → r < n → (r ≡ j → c ≡ j → ⊥) → (r ≡ j + 1 → c ≡ j + 1 → ⊥) → entry ld (after f ld n j t) r c ≡ entry ld t r c
  after_else r c b h u v =
      let x = apart ld r c j j (omega arith) (omega arith) u in
      let y = apart ld r c (j + 1) (j + 1) (omega arith) (omega arith) v in
      after_crossed r c b h ∙ rw (get_or-set_other, get_or-set_other)

  pub after_upper : length t ≡ ld * n → entry ld (after f ld n j t) j j ≡ entry ld t (j + 1) (j + 1)
  after_upper l =
      let s = put ld (j + 1) (j + 1) (entry ld t j j) t in
      after_crossed j j (omega arith) (omega arith)
      ∙ get_or-set_same s (place ld j j) (entry ld t (j + 1) (j + 1)) nan (inside ld n j s (simp length-set l) w (omega arith))

  pub after_lower : length t ≡ ld * n → entry ld (after f ld n j t) (j + 1) (j + 1) ≡ entry ld t j j
  after_lower l =
      let x = apart ld (j + 1) (j + 1) j j (omega arith) (omega arith) (λ e. omega arith) in
      after_crossed (j + 1) (j + 1) (omega arith) g
      ∙ rw get_or-set_other (get_or-set_same t (place ld (j + 1) (j + 1)) (entry ld t j j) nan (inside ld n (j + 1) t l w g))
