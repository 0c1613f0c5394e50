-- What an operation on n numbers does at places of n lines of a form, and along the lines. Definitions only. Assumes nothing.
use Rattle.std.specs.Prelude.{◌≡◌, ℕ, zero, suc, ◌+◌, ◌<◌, List, map, get_or, set, Float}
use Rattle.std.specs.Float.{binary64}
use Rattle.std.specs.List.{range_with_len}
use Rattle.model.specs.Form.{place, at}
use Rattle.model.specs.Columns.{Operation, on_rows, on_columns}

-- a list of n, each from its index
abbrev pub each : {A : Type 0} → ℕ → (ℕ → A) → List A
each n f = map f (range_with_len 0 n)

-- the numbers xs put at the first n places
abbrev pub put_at : ℕ → (ℕ → ℕ) → List Float → List Float → List Float
put_at zero p xs t = t
put_at (suc m) p xs t = set (put_at m p xs t) (p m) (at xs m)

-- what f makes of the numbers at n places, put there
abbrev pub change_at : ℕ → (List Float → List Float) → (ℕ → ℕ) → List Float → List Float
change_at n f p t = put_at n p (f (each n (λ m. at t (p m)))) t

-- the same k times along the lines: first `from` places further on, and each next time `step` more
unfoldable pub change_run : ℕ → (List Float → List Float) → ℕ → ℕ → ℕ → (ℕ → ℕ) → List Float → List Float
change_run n f step zero from p t = t
change_run n f step (suc k) from p t = change_run n f step k (from + step) p (change_at n f (λ m. p m + from) t)

-- each of n places, or lines, is below the end
abbrev pub Inside : ℕ → List ℕ → ℕ → Type 0
Inside n p end = (m : ℕ) → m < n → get_or p m 0 < end

-- along lines f is the operation o
pub record Lines (n : ℕ) (f : List Float → List Float) (o : List ℕ → Operation) : Type 0 where
  pub rows : (ld j count : ℕ) (xs : List ℕ) (t : List Float) → on_rows binary64 ld j count (o xs) t ≡ change_run n f ld count 0 (λ m. place ld (get_or xs m 0) j) t
  pub columns : (ld count : ℕ) (xs : List ℕ) (t : List Float) → on_columns binary64 ld count (o xs) t ≡ change_run n f 1 count 0 (λ m. place ld 0 (get_or xs m 0)) t
