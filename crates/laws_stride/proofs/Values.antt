-- The block values, and a column of the vectors, hang on the n rows alone: by two strides they are the same. Assumes nothing.
use mathlib.Core.Path.{◌≡◌, refl, sym, ◌∙◌}
use Prim.Native.Nat.{ℕ, zero, suc, ◌+◌, ◌*◌, ◌≤◌, ◌<◌}
use native.Mathlib.Nat.{mul-le-mul_left}
use native.Mathlib.Omega.{arith}
use mathlib.Core.Bool.{Bool, true, false, not, cond}
use mathlib.Core.List.{List, []}
use lib.Dec.{eqb, ltb}
use lib.ListN.{length, take, drop, length-drop}
use lib.Seq.{length-take-le, get_or-take, get_or-drop, ext_get_or}
use lib.Ieee.{Float, nan, Format}
use borrow.Author.Tests.{ltb-true}
use Rattle.model.specs.Form.{at, line2, line3, line7}
use Rattle.model.specs.Values.{Reading, Parts, one_value, two_values, values_from, values_line, values_read}
use Rattle.model.specs.Vectors.{column_line, column_of}
use Rattle.laws_moves.proofs.Upper.{at_least}
use Rattle.laws_stride.specs.Strides.{Allowed, SameRows}
use Rattle.laws_stride.proofs.Rowwise.{ReadsAs, nonzero_same, cell, same_at, rows_read}
use Rattle.laws_stride.proofs.Lines.{full, line5-same, line6-same}

-- ---- the values, by any reading

module _ (f : Format) (rd : Reading) (ld md n : ℕ) {a b : List Float} (r : ReadsAs ld md n a b) where
  same-one : (j : ℕ) (s : Parts) → j < n → one_value f ld a j s ≡ one_value f md b j s
  unfolding one_value
  same-one j s h = rw (r.same j j h h)

  same-two : (j : ℕ) (s : Parts) → j + 1 < n → two_values f rd ld a j s ≡ two_values f rd md b j s
  unfolding two_values
  same-two j s h = let k : j < n = omega arith in rw (r.same j j k k, r.same j (j + 1) k h, r.same (j + 1) j h k, r.same (j + 1) (j + 1) h h)

  same_from : (k j : ℕ) (s : Parts) → j + k ≤ n → values_from f rd ld a k j s ≡ values_from f rd md b k j s
  unfolding values_from
  same_from zero j s h = refl
  same_from (suc zero) j s h = same-one j s (omega arith)
  same_from (suc (suc k)) j s h =
      rw (
        nonzero_same f j (omega arith) r,
        same-one j s (omega arith),
        same-two j s (omega arith),
        same_from k (j + 2) (two_values f rd md b j s) (omega arith),
        same_from (suc k) (j + 1) (one_value f md b j s) (omega arith),
      )

pub same-values : (f : Format) (rd : Reading) (ld md n : ℕ) (a b : List Float) (s : Parts) → Allowed ld md n → SameRows ld md n a b → values_read f rd ld n a s ≡ values_read f rd md n b s
unfolding values_read values_line line3
same-values f rd ld md n a b s w r =
    rw (w.first, w.second, full ld n a r.size, full md n b r.size', line5-same f ld md n (rows_read r), line6-same f ld md n (rows_read r), same_from f rd ld md n (rows_read r) n 0 s (omega arith))

-- ---- a column

pub same-column : (ld md n : ℕ) (v w : List Float) (col : ℕ) → Allowed ld md n → SameRows ld md n v w → column_of ld n v col ≡ column_of md n w col
unfolding column_of column_line line7
same-column ld md n v w col p r =
    rw (p.first, p.second, full ld n v r.size, full md n w r.size') (go (ltb col n) (ltb-true col n) (line2 n))
  where
    part : (ld : ℕ) (v : List Float) → n ≤ ld → length v ≡ ld * n → col < n → length (take n (drop (ld * col) v)) ≡ n
    part ld v g e h = let m : ld * suc col ≤ ld * n = mul-le-mul_left ld h in length-take-le n (drop (ld * col) v) (omega (arith, length-drop (ld * col) v))

    in_column : (ld : ℕ) (v : List Float) (i : ℕ) → i < n → at (take n (drop (ld * col) v)) i ≡ at v (ld * col + i)
    in_column ld v i h = rw (get_or-take, get_or-drop)

    same : col < n → take n (drop (ld * col) v) ≡ take n (drop (md * col) w)
    same h =
        let l = part ld v (at_least ld n p.first) r.size h in
        let k = part md w (at_least md n p.second) r.size' h in
        ext_get_or nan (take n (drop (ld * col) v)) (take n (drop (md * col) w)) (l ∙ sym k) λ i g. let c : i < n = omega arith in rw (in_column ld v i c, in_column md w i c) (same_at (rows_read r) (cell i col (omega arith)))

    go : (c : Bool) → (c ≡ true → col < n) → (d : Bool)
        → cond (eqb (cond d 2 (cond (not c) 7 0)) 0) (take n (drop (ld * col) v)) [] ≡ cond (eqb (cond d 2 (cond (not c) 7 0)) 0) (take n (drop (md * col) w)) []
    go true h true = refl
    go true h false = same (h refl)
    go false h true = refl
    go false h false = refl
