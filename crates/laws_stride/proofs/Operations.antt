-- Operations on columns and rows below n keep a relation of two forms that goes by their n rows. Assumes nothing.
use mathlib.Core.Path.{refl}
use Prim.Native.Nat.{ℕ, zero, suc, ◌+◌, ◌-◌, ◌*◌, ◌≤◌, ◌<◌}
use native.Mathlib.Omega.{arith}
use mathlib.Core.List.{List, [], ◌∷◌, ◌++◌}
use lib.Ieee.{Float, Format}
use Rattle.model.specs.Form.{place}
use Rattle.model.specs.Jacobi.{Rotation}
use Rattle.model.specs.Columns.{Reflect3, Reflect4, rotate_at, reflect3_at, reflect4_at, rotate_run, reflect3_run, reflect4_run, Operation, rotates, reflects3, reflects4, on_columns, on_rows, on_form, on_factor}
use Rattle.laws_stride.proofs.Rowwise.{Rowwise, Paired, cell, same_at, set_at}

-- ---- an operation on columns below n

unfoldable pub Inside : ℕ → Operation → Type 0
Inside n (rotates v x y) = (x < n) × (y < n)
Inside n (reflects3 v x y z) = (x < n) × (y < n) × (z < n)
Inside n (reflects4 v x y z w) = (x < n) × (y < n) × (z < n) × (w < n)

unfoldable pub AllInside : ℕ → List Operation → Type 0
AllInside n [] = Unit {0}
AllInside n (o ∷ os) = Inside n o × AllInside n os

pub inside-append : (n : ℕ) (os ps : List Operation) → AllInside n os → AllInside n ps → AllInside n (os ++ ps)
unfolding AllInside
inside-append n [] ps h k = k
inside-append n (o ∷ os) ps h k = (h.0, inside-append n os ps h.1 k)

-- ---- places

-- k pairs of places, each a step on from the one before
record Line (ld md n k s s' p q : ℕ) : Type 0 where
  pair : (m : ℕ) → m < k → Paired ld md n (p + s * m) (q + s' * m)

head : {ld md n k s s' p q : ℕ} → Line ld md n (suc k) s s' p q → Paired ld md n p q
head h =
    let w = h.pair 0 (omega arith) in
    cell w.row w.col (omega arith)

tail : {ld md n k s s' p q : ℕ} → Line ld md n (suc k) s s' p q → Line ld md n k s s' (p + s) (q + s')
tail h =
    record {
      pair =
          λ m l. let w = h.pair (suc m) (omega arith) in
          cell w.row w.col (omega arith);
    }

down-column : (ld md n count x : ℕ) → count ≤ n → x < n → Line ld md n count 1 1 (place ld 0 x) (place md 0 x)
down-column ld md n count x g h = record { pair = λ m l. cell m x (omega arith) }

along_row : (ld md n j x : ℕ) → x < n → Line ld md n (n - j) ld md (place ld x j) (place md x j)
along_row ld md n j x h = record { pair = λ m l. cell x (j + m) (omega arith) }

module _ (f : Format) (ld md n : ℕ) (R : List Float → List Float → Type 0) (K : Rowwise ld md n R) where
  -- ---- at places

  rotate_at_lem : (v : Rotation) {a b : List Float} {p q p' q' : ℕ} → Paired ld md n p p' → Paired ld md n q q' → R a b → R (rotate_at f v p q a) (rotate_at f v p' q' b)
  unfolding rotate_at
  rotate_at_lem v x y r = rw (same_at (K.reads r) x, same_at (K.reads r) y) (set_at K y refl (set_at K x refl r))

  reflect3-at : (v : Reflect3) {a b : List Float} {p q o p' q' o' : ℕ} → Paired ld md n p p' → Paired ld md n q q' → Paired ld md n o o' → R a b
      → R (reflect3_at f v p q o a) (reflect3_at f v p' q' o' b)
  unfolding reflect3_at
  reflect3-at v x y z r = rw (same_at (K.reads r) x, same_at (K.reads r) y, same_at (K.reads r) z) (set_at K z refl (set_at K y refl (set_at K x refl r)))

  reflect4-at : (v : Reflect4) {a b : List Float} {p q o s p' q' o' s' : ℕ} → Paired ld md n p p' → Paired ld md n q q' → Paired ld md n o o' → Paired ld md n s s' → R a b
      → R (reflect4_at f v p q o s a) (reflect4_at f v p' q' o' s' b)
  unfolding reflect4_at
  reflect4-at v x y z w r = rw (same_at (K.reads r) x, same_at (K.reads r) y, same_at (K.reads r) z, same_at (K.reads r) w) (set_at K w refl (set_at K z refl (set_at K y refl (set_at K x refl r))))

  -- ---- along runs

  rotate_run_lem : (v : Rotation) (k : ℕ) {a b : List Float} {i i' p q p' q' : ℕ} → Line ld md n k i i' p p' → Line ld md n k i i' q q' → R a b
      → R (rotate_run f v i k p q a) (rotate_run f v i' k p' q' b)
  unfolding rotate_run
  rotate_run_lem v zero x y r = r
  rotate_run_lem v (suc k) x y r = rotate_run_lem v k (tail x) (tail y) (rotate_at_lem v (head x) (head y) r)

  reflect3-run : (v : Reflect3) (k : ℕ) {a b : List Float} {i i' p q o p' q' o' : ℕ} → Line ld md n k i i' p p' → Line ld md n k i i' q q' → Line ld md n k i i' o o' → R a b
      → R (reflect3_run f v i k p q o a) (reflect3_run f v i' k p' q' o' b)
  unfolding reflect3_run
  reflect3-run v zero x y z r = r
  reflect3-run v (suc k) x y z r = reflect3-run v k (tail x) (tail y) (tail z) (reflect3-at v (head x) (head y) (head z) r)

  reflect4-run : (v : Reflect4) (k : ℕ) {a b : List Float} {i i' p q o s p' q' o' s' : ℕ} → Line ld md n k i i' p p' → Line ld md n k i i' q q' → Line ld md n k i i' o o' → Line ld md n k i i' s s' → R a b
      → R (reflect4_run f v i k p q o s a) (reflect4_run f v i' k p' q' o' s' b)
  unfolding reflect4_run
  reflect4-run v zero x y z w r = r
  reflect4-run v (suc k) x y z w r = reflect4-run v k (tail x) (tail y) (tail z) (tail w) (reflect4-at v (head x) (head y) (head z) (head w) r)

  -- ---- operations

  on_columns_lem : (count : ℕ) (o : Operation) {a b : List Float} → count ≤ n → Inside n o → R a b → R (on_columns f ld count o a) (on_columns f md count o b)
  unfolding on_columns Inside
  on_columns_lem count (rotates v x y) g h r = rotate_run_lem v count (down-column ld md n count x g h.0) (down-column ld md n count y g h.1) r
  on_columns_lem count (reflects3 v x y z) g h r = reflect3-run v count (down-column ld md n count x g h.0) (down-column ld md n count y g h.1) (down-column ld md n count z g h.2) r
  on_columns_lem count (reflects4 v x y z w) g h r = reflect4-run v count (down-column ld md n count x g h.0) (down-column ld md n count y g h.1) (down-column ld md n count z g h.2) (down-column ld md n count w g h.3) r

  on_rows_lem : (j : ℕ) (o : Operation) {a b : List Float} → Inside n o → R a b → R (on_rows f ld j (n - j) o a) (on_rows f md j (n - j) o b)
  unfolding on_rows Inside
  on_rows_lem j (rotates v x y) h r = rotate_run_lem v (n - j) (along_row ld md n j x h.0) (along_row ld md n j y h.1) r
  on_rows_lem j (reflects3 v x y z) h r = reflect3-run v (n - j) (along_row ld md n j x h.0) (along_row ld md n j y h.1) (along_row ld md n j z h.2) r
  on_rows_lem j (reflects4 v x y z w) h r =
      reflect4-run v (n - j) (along_row ld md n j x h.0) (along_row ld md n j y h.1) (along_row ld md n j z h.2) (along_row ld md n j w h.3) r

  pub on_form_lem : (j i : ℕ) (o : Operation) {a b : List Float} → i ≤ n → Inside n o → R a b → R (on_form f ld n j i o a) (on_form f md n j i o b)
  unfolding on_form
  on_form_lem j i o g h r = on_columns_lem i o g h (on_rows_lem j o h r)

  pub on_factor_lem : (rows : ℕ) (os : List Operation) {a b : List Float} → rows ≤ n → AllInside n os → R a b → R (on_factor f ld rows os a) (on_factor f md rows os b)
  unfolding on_factor AllInside
  on_factor_lem rows [] g h r = r
  on_factor_lem rows (o ∷ os) g h r = on_factor_lem rows os g h.1 (on_columns_lem rows o g h.0 r)
