-- Orthogonal operations on two, three or four columns, or rows, of a form: on one row's numbers, at places, and along a run of places. Definitions only. Assumes nothing.
use Rattle.std.specs.Prelude.{ℕ, zero, suc, ◌+◌, ◌-◌, List, [], ◌∷◌, set, Float}
use Rattle.std.specs.Float.{Format}
use Rattle.std.specs.Float.Ieee.{add, sub, mul}
use Rattle.model.specs.Jacobi.{Rotation, Pair, apply_right}
use Rattle.model.specs.Form.{place, at}

pub record Triple : Type 0 where
  pub x0 : Float
  pub x1 : Float
  pub x2 : Float

pub record Quad : Type 0 where
  pub x0 : Float
  pub x1 : Float
  pub x2 : Float
  pub x3 : Float

-- ---- one reflection, of the vector that begins with 1: each number less its part of the sum, times tau

unfoldable pub reflect_pair : Format → Float → Float → Float → Float → Pair
reflect_pair f tau v x y = let k = mul f (add f x (mul f v y)) tau in record { x = sub f x k; y = sub f y (mul f k v) }

unfoldable pub reflect_triple : Format → Float → Float → Float → Triple → Triple
reflect_triple f tau v1 v2 t =
    let k = mul f (add f (add f t.x0 (mul f v1 t.x1)) (mul f v2 t.x2)) tau in
    record { x0 = sub f t.x0 k; x1 = sub f t.x1 (mul f k v1); x2 = sub f t.x2 (mul f k v2) }

unfoldable pub reflect_quad : Format → Float → Float → Float → Float → Quad → Quad
reflect_quad f tau v1 v2 v3 t =
    let k = mul f (add f (add f (add f t.x0 (mul f v1 t.x1)) (mul f v2 t.x2)) (mul f v3 t.x3)) tau in
    record { x0 = sub f t.x0 k; x1 = sub f t.x1 (mul f k v1); x2 = sub f t.x2 (mul f k v2); x3 = sub f t.x3 (mul f k v3) }

-- ---- two reflections, the second of all numbers but the first

-- of three numbers
pub record Reflect3 : Type 0 where
  pub tau1 : Float
  pub v11 : Float
  pub v12 : Float
  pub tau2 : Float
  pub v21 : Float

unfoldable pub reflect3 : Format → Reflect3 → Triple → Triple
reflect3 f v t =
    let y = reflect_triple f v.tau1 v.v11 v.v12 t in
    let z = reflect_pair f v.tau2 v.v21 y.x1 y.x2 in
    record { x0 = y.x0; x1 = z.x; x2 = z.y }

-- of four numbers
pub record Reflect4 : Type 0 where
  pub tau1 : Float
  pub v11 : Float
  pub v12 : Float
  pub v13 : Float
  pub tau2 : Float
  pub v21 : Float
  pub v22 : Float

unfoldable pub reflect4 : Format → Reflect4 → Quad → Quad
reflect4 f v t =
    let y = reflect_quad f v.tau1 v.v11 v.v12 v.v13 t in
    let z = reflect_triple f v.tau2 v.v21 v.v22 (record { x0 = y.x1; x1 = y.x2; x2 = y.x3 }) in
    record { x0 = y.x0; x1 = z.x0; x2 = z.x1; x3 = z.x2 }

-- ---- at places of a list

unfoldable pub rotate_at : Format → Rotation → ℕ → ℕ → List Float → List Float
rotate_at f r p q t = let w = apply_right f r (at t p) (at t q) in set (set t p w.x) q w.y

unfoldable pub reflect3_at : Format → Reflect3 → ℕ → ℕ → ℕ → List Float → List Float
reflect3_at f v p q r t = let w = reflect3 f v (record { x0 = at t p; x1 = at t q; x2 = at t r }) in set (set (set t p w.x0) q w.x1) r w.x2

unfoldable pub reflect4_at : Format → Reflect4 → ℕ → ℕ → ℕ → ℕ → List Float → List Float
reflect4_at f v p q r s t =
    let w = reflect4 f v (record { x0 = at t p; x1 = at t q; x2 = at t r; x3 = at t s }) in set (set (set (set t p w.x0) q w.x1) r w.x2) s w.x3

-- ---- along a run of k places each, `step` apart

unfoldable pub rotate_run : Format → Rotation → ℕ → ℕ → ℕ → ℕ → List Float → List Float
rotate_run f r step zero p q t = t
rotate_run f r step (suc k) p q t = rotate_run f r step k (p + step) (q + step) (rotate_at f r p q t)

unfoldable pub reflect3_run : Format → Reflect3 → ℕ → ℕ → ℕ → ℕ → ℕ → List Float → List Float
reflect3_run f v step zero p q r t = t
reflect3_run f v step (suc k) p q r t = reflect3_run f v step k (p + step) (q + step) (r + step) (reflect3_at f v p q r t)

unfoldable pub reflect4_run : Format → Reflect4 → ℕ → ℕ → ℕ → ℕ → ℕ → ℕ → List Float → List Float
reflect4_run f v step zero p q r s t = t
reflect4_run f v step (suc k) p q r s t = reflect4_run f v step k (p + step) (q + step) (r + step) (s + step) (reflect4_at f v p q r s t)

-- ---- an operation on columns, or rows, of given numbers

pub data Operation : Type 0 where
  rotates : Rotation → ℕ → ℕ → Operation
  reflects3 : Reflect3 → ℕ → ℕ → ℕ → Operation
  reflects4 : Reflect4 → ℕ → ℕ → ℕ → ℕ → Operation

-- on columns, in the first `count` rows
unfoldable pub on_columns : Format → ℕ → ℕ → Operation → List Float → List Float
on_columns f ld count (rotates v x y) t = rotate_run f v 1 count (place ld 0 x) (place ld 0 y) t
on_columns f ld count (reflects3 v x y z) t = reflect3_run f v 1 count (place ld 0 x) (place ld 0 y) (place ld 0 z) t
on_columns f ld count (reflects4 v x y z w) t = reflect4_run f v 1 count (place ld 0 x) (place ld 0 y) (place ld 0 z) (place ld 0 w) t

-- on rows, in the `count` columns from column j on
unfoldable pub on_rows : Format → ℕ → ℕ → ℕ → Operation → List Float → List Float
on_rows f ld j count (rotates v x y) t = rotate_run f v ld count (place ld x j) (place ld y j) t
on_rows f ld j count (reflects3 v x y z) t = reflect3_run f v ld count (place ld x j) (place ld y j) (place ld z j) t
on_rows f ld j count (reflects4 v x y z w) t = reflect4_run f v ld count (place ld x j) (place ld y j) (place ld z j) (place ld w j) t

-- on rows from column j on, and then on columns in the rows above row i: what an orthogonal change of basis does to an upper form
unfoldable pub on_form : Format → ℕ → ℕ → ℕ → ℕ → Operation → List Float → List Float
on_form f ld n j i o t = on_columns f ld i o (on_rows f ld j (n - j) o t)

-- a list of operations on the columns of a factor of so many rows, in order
unfoldable pub on_factor : Format → ℕ → ℕ → List Operation → List Float → List Float
on_factor f ld rows [] u = u
on_factor f ld rows (o ∷ os) u = on_factor f ld rows os (on_columns f ld rows o u)
