-- Rows from the last one up: what is more than one row below the diagonal, by columns and corners, and line 5 by rows. Assumes nothing.
use mathlib.Core.Path.{◌≡◌, refl, sym, ◌∙◌}
use mathlib.Core.Bool.{Bool, true, false, ◌||◌, true≢false}
use mathlib.Core.List.{List}
use Prim.Native.Nat.{ℕ, ◌+◌, ◌-◌, ◌*◌, ◌≤◌, ◌<◌}
use native.Mathlib.Omega.{arith}
use lib.Dec.{ltb}
use lib.Ieee.{Float, binary64, ne, of_bits}
use borrow.Author.Tests.{ltb-true, ltb-false}
use Rattle.model.specs.Form.{at, some, deep_in, line5}
use Rattle.form.specs.Deep.{Clean}
use Rattle.std.proofs.lemmas.Bool.{or_parts, true_from_ne_false}
use Rattle.form.proofs.Some.{same, all_fail, fails}

module _ (ld : ℕ) (t : List Float) where
  abbrev nonzero : ℕ → Bool
  nonzero p = ne (at t p) (of_bits binary64 0)

  abbrev pub columns : ℕ → ℕ → ℕ → Bool
  columns p count rows = some count (λ (j : ℕ). some rows (λ (k : ℕ). nonzero (p + k + ld * j)))

  abbrev pub corner : ℕ → ℕ → Bool
  corner top rows = some (rows - 1) (λ (j : ℕ). some (rows - 1 - j) (λ (k : ℕ). nonzero (top + 1 + j + k + ld * (top - 1 + j))))

  abbrev pub deep_rows : ℕ → ℕ → Bool
  deep_rows top rows = some rows (λ (i : ℕ). some (top + i - 1) (λ (j : ℕ). nonzero (top + i + ld * j)))

  moved : {p q : ℕ} → p ≡ q → nonzero q ≡ false → nonzero p ≡ false
  moved e h = rw e h

  pub clean_rows : (top rows : ℕ) → deep_rows top rows ≡ false → Clean ld t top (top + rows)
  clean_rows top rows h i j a b d =
      moved (omega arith)
      (fails (top + (i - top) - 1) (λ (m : ℕ). nonzero (top + (i - top) + ld * m))
      (fails rows (λ (m : ℕ). some (top + m - 1) (λ (l : ℕ). nonzero (top + m + ld * l))) h (i - top) (omega arith))
      j (omega arith))

  pub rows_clean : (top rows : ℕ) → Clean ld t top (top + rows) → deep_rows top rows ≡ false
  rows_clean top rows h =
      all_fail rows (λ (m : ℕ). some (top + m - 1) (λ (l : ℕ). nonzero (top + m + ld * l)))
      (λ m a. all_fail (top + m - 1) (λ (l : ℕ). nonzero (top + m + ld * l)) (λ l b. h (top + m) l (omega arith) (omega arith) (omega arith)))

  -- whole columns and the corner
  abbrev parts : ℕ → ℕ → Bool
  parts top rows = columns top (top - 1) rows || corner top rows

  parts_clean : (top rows : ℕ) → 1 ≤ top → parts top rows ≡ false → Clean ld t top (top + rows)
  parts_clean top rows one h i j a b d = pick (ltb j (top - 1)) (ltb-true j (top - 1)) (ltb-false j (top - 1))
    where
      q : (columns top (top - 1) rows ≡ false) × (corner top rows ≡ false)
      q = or_parts (columns top (top - 1) rows) (corner top rows) h

      in_columns : j < top - 1 → nonzero (i + ld * j) ≡ false
      in_columns g =
          moved (omega arith)
          (fails rows (λ (k : ℕ). nonzero (top + k + ld * j))
          (fails (top - 1) (λ (m : ℕ). some rows (λ (k : ℕ). nonzero (top + k + ld * m))) q.0 j g)
          (i - top) (omega arith))

      in_corner : (e k : ℕ) → j ≡ top - 1 + e → i ≡ top + 1 + e + k → nonzero (i + ld * j) ≡ false
      in_corner e k x y =
          moved (rw (y, x) refl)
          (fails (rows - 1 - e) (λ (l : ℕ). nonzero (top + 1 + e + l + ld * (top - 1 + e)))
          (fails (rows - 1) (λ (m : ℕ). some (rows - 1 - m) (λ (l : ℕ). nonzero (top + 1 + m + l + ld * (top - 1 + m)))) q.1 e (omega arith))
          k (omega arith))

      pick : (x : Bool) → (x ≡ true → j < top - 1) → (x ≡ false → top - 1 ≤ j) → nonzero (i + ld * j) ≡ false
      pick true f g = in_columns (f refl)
      pick false f g = let y = g refl in in_corner (j - (top - 1)) (i - (j + 2)) (omega arith) (omega arith)

  clean_parts : (top rows : ℕ) → 1 ≤ top → Clean ld t top (top + rows) → parts top rows ≡ false
  clean_parts top rows one h = rw (first, second)
    where
      first : columns top (top - 1) rows ≡ false
      first =
          all_fail (top - 1) (λ (m : ℕ). some rows (λ (k : ℕ). nonzero (top + k + ld * m)))
          (λ m a. all_fail rows (λ (k : ℕ). nonzero (top + k + ld * m)) (λ k b. moved (omega arith) (h (top + k) m (omega arith) (omega arith) (omega arith))))

      second : corner top rows ≡ false
      second =
          all_fail (rows - 1) (λ (m : ℕ). some (rows - 1 - m) (λ (l : ℕ). nonzero (top + 1 + m + l + ld * (top - 1 + m))))
          (λ e a. all_fail (rows - 1 - e) (λ (l : ℕ). nonzero (top + 1 + e + l + ld * (top - 1 + e)))
          (λ k b. h (top + 1 + e + k) (top - 1 + e) (omega arith) (omega arith) (omega arith)))

  pub by_parts : (top rows : ℕ) → 1 ≤ top → deep_rows top rows ≡ parts top rows
  by_parts top rows one =
      same (deep_rows top rows) (parts top rows)
      (λ h. clean_parts top rows one (clean_rows top rows h))
      (λ h. rows_clean top rows (parts_clean top rows one h))

  -- ---- line 5
  pub clean_line : (n : ℕ) → Clean ld t 0 n → line5 binary64 ld n t ≡ false
  unfolding line5 deep_in
  clean_line n h =
      all_fail (n - 2) (deep_in binary64 ld n t)
      (λ j a. all_fail (n - (j + 2)) (λ (k : ℕ). nonzero (j + 2 + ld * j + k)) (λ k b. moved (omega arith) (h (j + 2 + k) j (omega arith) (omega arith) (omega arith))))

  line_clean : (n : ℕ) → line5 binary64 ld n t ≡ false → Clean ld t 0 n
  unfolding line5 deep_in
  line_clean n h i j a b d =
      moved (omega arith)
      (fails (n - (j + 2)) (λ (k : ℕ). nonzero (j + 2 + ld * j + k)) (fails (n - 2) (deep_in binary64 ld n t) h j (omega arith)) (i - (j + 2)) (omega arith))

  -- a number that is not zero in some of the rows is one of line 5
  pub line-found : (n top rows : ℕ) → top + rows ≤ n → deep_rows top rows ≡ true → line5 binary64 ld n t ≡ true
  line-found n top rows g e =
      true_from_ne_false (line5 binary64 ld n t)
      (λ z. true≢false (sym e ∙ rows_clean top rows (λ i j a b d. line_clean n z i j (omega arith) (omega arith) d)))

  -- clean rows above clean rows
  pub more : (n top rows end : ℕ) → end ≤ top + rows → deep_rows top rows ≡ false → Clean ld t end n → Clean ld t top n
  more n top rows end e h k i j a b d = pick (ltb i (top + rows)) (ltb-true i (top + rows)) (ltb-false i (top + rows))
    where
      pick : (x : Bool) → (x ≡ true → i < top + rows) → (x ≡ false → top + rows ≤ i) → nonzero (i + ld * j) ≡ false
      pick true f g = clean_rows top rows h i j a (f refl) d
      pick false f g = let y = g refl in k i j (omega arith) b d

  -- clean rows on clean rows
  pub above : (top mid end : ℕ) → Clean ld t top mid → Clean ld t mid end → Clean ld t top end
  above top mid end h k i j a b d = pick (ltb i mid) (ltb-true i mid) (ltb-false i mid)
    where
      pick : (x : Bool) → (x ≡ true → i < mid) → (x ≡ false → mid ≤ i) → nonzero (i + ld * j) ≡ false
      pick true f g = h i j a (f refl) d
      pick false f g = k i j (g refl) b d
