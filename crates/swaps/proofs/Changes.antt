-- One place more of a run, and places that are the same. Assumes nothing.
use mathlib.Core.Path.{◌≡◌, refl, sym, ap, ◌∙◌}
use mathlib.Core.List.{List}
use Prim.Native.Nat.{ℕ, zero, suc, ◌+◌, ◌-◌, ◌*◌, ◌<◌, ◌≤◌}
use native.Mathlib.Omega.{arith}
use lib.Ieee.{Float, nan}
use Rattle.std.proofs.lemmas.List.FromFn.{fill_by_all, length-map-range_with_len, get_or-map-range_with_len}
use Rattle.model.specs.Form.{at}
use Rattle.swaps.specs.Lines.{each, put_at, change_at, change_run}

-- from column j on to column c
pub columns_on : (x ld j c : ℕ) → j ≤ c → x + ld * c ≡ x + ld * j + ld * (c - j)
columns_on x ld j c h = let e : c ≡ j + (c - j) = omega arith in ap (λ (k : ℕ). x + ld * k) e ∙ omega arith

module _ (n : ℕ) (f : List Float → List Float) where
  same_put : (m : ℕ) (p q : ℕ → ℕ) (xs t : List Float) → ((k : ℕ) → k < m → p k ≡ q k) → put_at m p xs t ≡ put_at m q xs t
  same_put zero p q xs t h = refl
  same_put (suc m) p q xs t h = rw (h m (omega arith), same_put m p q xs t (λ k l. h k (omega arith))) refl

  -- places that are the same
  pub same_at : (p q : ℕ → ℕ) (t : List Float) → ((k : ℕ) → k < n → p k ≡ q k) → change_at n f p t ≡ change_at n f q t
  same_at p q t h =
      ap (λ (xs : List Float). put_at n p (f xs) t)
      (fill_by_all (λ (k : ℕ). at t (q k)) (each n (λ (k : ℕ). at t (p k))) n nan (length-map-range_with_len _ 0 n) (λ k l. get_or-map-range_with_len _ 0 n k k nan l (omega arith) ∙ ap (at t) (h k l)))
      ∙ same_put n p q _ t h

  more : (step k from : ℕ) (p : ℕ → ℕ) (t : List Float) → change_run n f step (suc k) from p t ≡ change_at n f (λ (m : ℕ). p m + (from + step * k)) (change_run n f step k from p t)
  unfolding change_run
  more step zero from p t = same_at (λ (m : ℕ). p m + from) (λ (m : ℕ). p m + (from + step * 0)) t (λ k l. omega arith)
  more step (suc k) from p t =
      more step k (from + step) p (change_at n f (λ (m : ℕ). p m + from) t)
      ∙ same_at (λ (m : ℕ). p m + (from + step + step * k)) (λ (m : ℕ). p m + (from + step * suc k)) _ (λ m l. omega arith)

  -- a run with one place more
  pub one_more : (step k : ℕ) {k₁ : ℕ} (p q : ℕ → ℕ) (t : List Float) {t₁ t₂ : List Float}
      → t₁ ≡ change_run n f step k 0 p t
      → t₂ ≡ change_at n f q t₁
      → ((m : ℕ) → m < n → q m ≡ p m + step * k)
      → k₁ ≡ suc k
      → t₂ ≡ change_run n f step k₁ 0 p t
  one_more step k {k₁} p q t {t₁} a b h e =
      b
      ∙ same_at q (λ (m : ℕ). p m + (0 + step * k)) t₁ (λ m l. omega (arith, h m l))
      ∙ ap (change_at n f (λ (m : ℕ). p m + (0 + step * k))) a
      ∙ sym (more step k 0 p t)
      ∙ ap (λ (i : ℕ). change_run n f step i 0 p t) (sym e)
