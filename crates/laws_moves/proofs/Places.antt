-- Places of a form, and which of them a run of rotations writes. Assumes nothing.
use mathlib.Core.Path.{◌≡◌, refl, sym, ap, ◌∙◌}
use mathlib.Core.Logic.{◌≢◌}
use Prim.Native.Nat.{ℕ, zero, suc, ◌+◌, ◌*◌, ◌≤◌, ◌<◌}
use native.Mathlib.Nat.{mul-le-mul_left}
use native.Mathlib.Decide.{dec_lt}
use native.Mathlib.Omega.{arith}
use mathlib.Core.List.{List}
use lib.ListN.{length, length-set}
use lib.Seq.{get_or-set_other}
use lib.Ieee.{Float, Format}
use Rattle.model.specs.Form.{place, at}
use Rattle.model.specs.Jacobi.{Rotation}
use Rattle.model.specs.Columns.{rotate_at, rotate_run}

-- ---- a place tells its row and its column

columns_apart : (n i j k l : ℕ) → i < n → j < l → place n i j ≢ place n k l
columns_apart n i j k l h c e = let m : n * suc j ≤ n * l = mul-le-mul_left n c in omega arith

pub apart : (n i j k l : ℕ) → i < n → k < n → (i ≡ k → j ≡ l → ⊥) → place n i j ≢ place n k l
apart n i j k l h g d e = elim (dec_lt j l) [ yes c ↦ columns_apart n i j k l h c e | no c ↦ elim (dec_lt l j) [ yes b ↦ columns_apart n k l i j g b (sym e) | no b ↦ same (omega arith) ] ]
  where
    same : j ≡ l → ⊥
    same s = let m : n * j ≡ n * l = ap (λ (x : ℕ). n * x) s in d (omega arith) s

-- a place on or below the diagonal is none above it
pub not_above : (n i j k l : ℕ) → j ≤ i → i < n → k < l → k < n → place n i j ≢ place n k l
not_above n i j k l b h a g = apart n i j k l h g (λ r c. omega arith)

-- ---- rotations keep the length, and all places but those that they name

rotate_at-length : (f : Format) (r : Rotation) (p q : ℕ) (t : List Float) → length (rotate_at f r p q t) ≡ length t
unfolding rotate_at
rotate_at-length f r p q t = simp length-set

rotate_at_else : (f : Format) (r : Rotation) (p q x : ℕ) (t : List Float) → x ≢ p → x ≢ q → at (rotate_at f r p q t) x ≡ at t x
unfolding rotate_at
rotate_at_else f r p q x t hp hq = rw (get_or-set_other, get_or-set_other)

pub rotate_run-length : (f : Format) (r : Rotation) (step k p q : ℕ) (t : List Float) → length (rotate_run f r step k p q t) ≡ length t
unfolding rotate_run
rotate_run-length f r step zero p q t = refl
rotate_run-length f r step (suc k) p q t = rotate_run-length f r step k (p + step) (q + step) (rotate_at f r p q t) ∙ rotate_at-length f r p q t

pub rotate_run_else : (f : Format) (r : Rotation) (step k p q x : ℕ) (t : List Float)
    → ((i : ℕ) → i < k → x ≢ p + step * i) → ((i : ℕ) → i < k → x ≢ q + step * i) → at (rotate_run f r step k p q t) x ≡ at t x
unfolding rotate_run
rotate_run_else f r step zero p q x t hp hq = refl
rotate_run_else f r step (suc k) p q x t hp hq =
    rotate_run_else f r step k (p + step) (q + step) x (rotate_at f r p q t)
    (λ i h e. hp (suc i) (omega arith) (omega arith)) (λ i h e. hq (suc i) (omega arith) (omega arith))
    ∙ rotate_at_else f r p q x t (λ e. hp 0 (omega arith) (omega arith)) (λ e. hq 0 (omega arith) (omega arith))
