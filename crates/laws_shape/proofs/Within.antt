-- Where an operation on rows and columns from a to b writes: below the diagonal only in the square of these rows and columns. Assumes nothing.
use mathlib.Core.Path.{◌≡◌, refl, ◌∙◌}
use mathlib.Core.Logic.{◌≢◌}
use Prim.Native.Nat.{ℕ, zero, suc, ◌+◌, ◌-◌, ◌*◌, ◌≤◌, ◌<◌}
use native.Mathlib.Omega.{arith}
use mathlib.Core.List.{List}
use lib.ListN.{length, length-set}
use lib.Seq.{get_or-set_other}
use lib.Ieee.{Float, Format}
use Rattle.model.specs.Form.{place, at, entry}
use Rattle.model.specs.Columns.{Reflect3, Reflect4, reflect3_at, reflect4_at, reflect3_run, reflect4_run, Operation, rotates, reflects3, reflects4, on_columns, on_rows, on_form}
use Rattle.model.specs.Swaps.{put}
use Rattle.laws_moves.proofs.Places.{apart, rotate_run-length, rotate_run_else}
use Rattle.laws_stride.proofs.Put.{put_else}

-- ---- reflections keep the length, and all places but those that they name

module _ (f : Format) (v : Reflect3) where
  at3_length : (p q r : ℕ) (t : List Float) → length (reflect3_at f v p q r t) ≡ length t
  unfolding reflect3_at
  at3_length p q r t = simp length-set

  at3_else : (p q r x : ℕ) (t : List Float) → x ≢ p → x ≢ q → x ≢ r → at (reflect3_at f v p q r t) x ≡ at t x
  unfolding reflect3_at
  at3_else p q r x t hp hq hr = rw (get_or-set_other, get_or-set_other, get_or-set_other)

  run3_length : (step k p q r : ℕ) (t : List Float) → length (reflect3_run f v step k p q r t) ≡ length t
  unfolding reflect3_run
  run3_length step zero p q r t = refl
  run3_length step (suc k) p q r t = run3_length step k (p + step) (q + step) (r + step) (reflect3_at f v p q r t) ∙ at3_length p q r t

  run3_else : (step k p q r x : ℕ) (t : List Float)
      → ((i : ℕ) → i < k → x ≢ p + step * i) → ((i : ℕ) → i < k → x ≢ q + step * i) → ((i : ℕ) → i < k → x ≢ r + step * i)
      → at (reflect3_run f v step k p q r t) x ≡ at t x
  unfolding reflect3_run
  run3_else step zero p q r x t hp hq hr = refl
  run3_else step (suc k) p q r x t hp hq hr =
      run3_else step k (p + step) (q + step) (r + step) x (reflect3_at f v p q r t)
      (λ i h e. hp (suc i) (omega arith) (omega arith)) (λ i h e. hq (suc i) (omega arith) (omega arith)) (λ i h e. hr (suc i) (omega arith) (omega arith))
      ∙ at3_else p q r x t (λ e. hp 0 (omega arith) (omega arith)) (λ e. hq 0 (omega arith) (omega arith)) (λ e. hr 0 (omega arith) (omega arith))

module _ (f : Format) (v : Reflect4) where
  at4_length : (p q r s : ℕ) (t : List Float) → length (reflect4_at f v p q r s t) ≡ length t
  unfolding reflect4_at
  at4_length p q r s t = simp length-set

  at4_else : (p q r s x : ℕ) (t : List Float) → x ≢ p → x ≢ q → x ≢ r → x ≢ s → at (reflect4_at f v p q r s t) x ≡ at t x
  unfolding reflect4_at
  at4_else p q r s x t hp hq hr hs = rw (get_or-set_other, get_or-set_other, get_or-set_other, get_or-set_other)

  run4_length : (step k p q r s : ℕ) (t : List Float) → length (reflect4_run f v step k p q r s t) ≡ length t
  unfolding reflect4_run
  run4_length step zero p q r s t = refl
  run4_length step (suc k) p q r s t = run4_length step k (p + step) (q + step) (r + step) (s + step) (reflect4_at f v p q r s t) ∙ at4_length p q r s t

  run4_else : (step k p q r s x : ℕ) (t : List Float)
      → ((i : ℕ) → i < k → x ≢ p + step * i) → ((i : ℕ) → i < k → x ≢ q + step * i) → ((i : ℕ) → i < k → x ≢ r + step * i) → ((i : ℕ) → i < k → x ≢ s + step * i)
      → at (reflect4_run f v step k p q r s t) x ≡ at t x
  unfolding reflect4_run
  run4_else step zero p q r s x t hp hq hr hs = refl
  run4_else step (suc k) p q r s x t hp hq hr hs =
      run4_else step k (p + step) (q + step) (r + step) (s + step) x (reflect4_at f v p q r s t)
      (λ i h e. hp (suc i) (omega arith) (omega arith)) (λ i h e. hq (suc i) (omega arith) (omega arith)) (λ i h e. hr (suc i) (omega arith) (omega arith)) (λ i h e. hs (suc i) (omega arith) (omega arith))
      ∙ at4_else p q r s x t (λ e. hp 0 (omega arith) (omega arith)) (λ e. hq 0 (omega arith) (omega arith)) (λ e. hr 0 (omega arith) (omega arith)) (λ e. hs 0 (omega arith) (omega arith))

-- ---- an operation on rows, or columns, from a on and below b

abbrev In : ℕ → ℕ → ℕ → Type 0
In a b x = (a ≤ x) × (x < b)

abbrev pub Between : ℕ → ℕ → Operation → Type 0
Between a b (rotates v x y) = In a b x × In a b y
Between a b (reflects3 v x y z) = In a b x × In a b y × In a b z
Between a b (reflects4 v x y z w) = In a b x × In a b y × In a b z × In a b w

module _ (f : Format) (ld a b : ℕ) (w : b ≤ ld) where
  pub columns_length : (count : ℕ) (o : Operation) (t : List Float) → length (on_columns f ld count o t) ≡ length t
  unfolding on_columns
  columns_length count (rotates v x y) t = rotate_run-length _ _ _ _ _ _ _
  columns_length count (reflects3 v x y z) t = run3_length f v _ _ _ _ _ _
  columns_length count (reflects4 v x y z u) t = run4_length f v _ _ _ _ _ _ _

  pub rows-length : (j count : ℕ) (o : Operation) (t : List Float) → length (on_rows f ld j count o t) ≡ length t
  unfolding on_rows
  rows-length j count (rotates v x y) t = rotate_run-length _ _ _ _ _ _ _
  rows-length j count (reflects3 v x y z) t = run3_length f v _ _ _ _ _ _
  rows-length j count (reflects4 v x y z u) t = run4_length f v _ _ _ _ _ _ _

  -- row r, column c is none of those that are written
  module _ (r c : ℕ) (h : r < ld) where
    off_column : (count x : ℕ) → count ≤ ld → In a b x → (In a b c → r < count → ⊥) → (i : ℕ) → i < count → place ld r c ≢ place ld 0 x + 1 * i
    off_column count x g k d i l e = apart ld r c i x h (omega arith) (λ p q. d (omega arith) (omega arith)) (omega arith)

    off_row : (j count x : ℕ) → In a b x → (In a b r → j ≤ c → ⊥) → (i : ℕ) → i < count → place ld r c ≢ place ld x j + ld * i
    off_row j count x k d i l e = apart ld r c x (j + i) h (omega arith) (λ p q. d (omega arith) (omega arith)) (omega arith)

    columns_else : (count : ℕ) (o : Operation) (t : List Float) → count ≤ ld → Between a b o → (In a b c → r < count → ⊥) → entry ld (on_columns f ld count o t) r c ≡ entry ld t r c
    unfolding on_columns
    columns_else count (rotates v x y) t g k d = rotate_run_else f v 1 count _ _ _ t (off_column count x g k.0 d) (off_column count y g k.1 d)
    columns_else count (reflects3 v x y z) t g k d = run3_else f v 1 count _ _ _ _ t (off_column count x g k.0 d) (off_column count y g k.1 d) (off_column count z g k.2 d)
    columns_else count (reflects4 v x y z u) t g k d =
        run4_else f v 1 count _ _ _ _ _ t (off_column count x g k.0 d) (off_column count y g k.1 d) (off_column count z g k.2 d) (off_column count u g k.3 d)

    rows_else : (j count : ℕ) (o : Operation) (t : List Float) → Between a b o → (In a b r → j ≤ c → ⊥) → entry ld (on_rows f ld j count o t) r c ≡ entry ld t r c
    unfolding on_rows
    rows_else j count (rotates v x y) t k d = rotate_run_else f v ld count _ _ _ t (off_row j count x k.0 d) (off_row j count y k.1 d)
    rows_else j count (reflects3 v x y z) t k d = run3_else f v ld count _ _ _ _ t (off_row j count x k.0 d) (off_row j count y k.1 d) (off_row j count z k.2 d)
    rows_else j count (reflects4 v x y z u) t k d =
        run4_else f v ld count _ _ _ _ _ t (off_row j count x k.0 d) (off_row j count y k.1 d) (off_row j count z k.2 d) (off_row j count u k.3 d)

-- ---- what is written below the diagonal

-- t' is as long as t, and strictly below the diagonal differs from it only in rows and columns from a on and below b
pub record Within (ld n a b : ℕ) (t t' : List Float) : Type 0 where
  pub size : length t' ≡ length t
  pub else : (r c : ℕ) → c < r → r < n → (a ≤ c → r < b → ⊥) → entry ld t' r c ≡ entry ld t r c

pub within_none : (ld n a b : ℕ) (t : List Float) → Within ld n a b t t
within_none ld n a b t = record { size = refl; else = λ r c l h d. refl }

pub within_then : {ld n a b : ℕ} {t t' t'' : List Float} → Within ld n a b t t' → Within ld n a b t' t'' → Within ld n a b t t''
within_then x y = record { size = y.size ∙ x.size; else = λ r c l h d. y.else r c l h d ∙ x.else r c l h d }

-- rows from column j on and columns above row i: no more than the square if these are its rows or lie beyond
pub within_form : (f : Format) (ld n a b j i : ℕ) (o : Operation) (t : List Float) → n ≤ ld → b ≤ n → a ≤ j → i ≤ b → Between a b o → Within ld n a b t (on_form f ld n j i o t)
unfolding on_form
within_form f ld n a b j i o t w g l k h =
    record {
      size = columns_length f ld a b (omega arith) i o _ ∙ rows-length f ld a b (omega arith) j (n - j) o t;
      else = λ r c p q d. columns_else f ld a b (omega arith) r c (omega arith) i o _ (omega arith) h (λ e x. d e.0 (omega arith))
          ∙ rows_else f ld a b (omega arith) r c (omega arith) j (n - j) o t h (λ e x. d (omega arith) e.1);
    }

pub within_put : (ld n a b i j : ℕ) (v : Float) (t : List Float) → n ≤ ld → b ≤ n → a ≤ j → i < b → Within ld n a b t (put ld i j v t)
within_put ld n a b i j v t w g l k =
    record { size = length-set t (place ld i j) v; else = λ r c p q d. put_else ld i j r c v t (omega arith) (omega arith) (λ e x. d (omega arith) (omega arith)) }

-- on or above the diagonal nothing below it is written
pub within_above : (ld n a b i j : ℕ) (v : Float) (t : List Float) → n ≤ ld → i < n → i ≤ j → Within ld n a b t (put ld i j v t)
within_above ld n a b i j v t w g l =
    record { size = length-set t (place ld i j) v; else = λ r c p q d. put_else ld i j r c v t (omega arith) (omega arith) (λ e x. omega arith) }

-- rows from their own last column on, and columns above their own first row: nothing below the diagonal
pub within_beside : (f : Format) (ld n a b x y j i : ℕ) (o : Operation) (t : List Float) → n ≤ ld → b ≤ n → a ≤ b → b ≤ j → i ≤ a → Between a b o → Within ld n x y t (on_form f ld n j i o t)
unfolding on_form
within_beside f ld n a b x y j i o t w g m l k h =
    record {
      size = columns_length f ld a b (omega arith) i o _ ∙ rows-length f ld a b (omega arith) j (n - j) o t;
      else = λ r c p q d. columns_else f ld a b (omega arith) r c (omega arith) i o _ (omega arith) h (λ e z. omega arith)
          ∙ rows_else f ld a b (omega arith) r c (omega arith) j (n - j) o t h (λ e z. omega arith);
    }
