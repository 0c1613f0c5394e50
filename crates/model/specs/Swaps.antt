-- The four swaps of neighbouring blocks, and standardising a 2-block, on a form. Definitions only. Assumes nothing.
use Rattle.std.specs.Prelude.{ℕ, ◌+◌, Bool, true, false, cond, List, [], ◌∷◌, ◌++◌, eqb, length, set, Float}
use Rattle.std.specs.Float.{Format}
use Rattle.std.specs.Float.Ieee.{neg, sub, mul, div, lt}
use Rattle.model.specs.Arith.{zero_of, ten_of, eps_of, min_positive_of, abs, recip, fmax}
use Rattle.model.specs.Form.{place, at, entry}
use Rattle.model.specs.Jacobi.{Rotation, rotg, adjoint}
use Rattle.model.specs.Householder.{make_householder_in_place}
use Rattle.model.specs.Schur22.{Block, lahqr_schur22}
use Rattle.model.specs.Lasy2.{Sylvester, lasy2}
use Rattle.model.specs.Columns.{Triple, Quad, Reflect3, Reflect4, reflect_triple, reflect_quad, reflect4, Operation, rotates, reflects3, reflects4, on_form}

-- ---- what is done to a form

-- one run of a swap routine: the n1 rows from a row on with the n2 below them, and whether it declined
pub record Swap : Type 0 where
  pub row : ℕ
  pub n1 : ℕ
  pub n2 : ℕ
  pub declined : Bool

-- how the form then is, the operations that the factor's columns take too, and the runs of the four swap routines, in order
pub record Change : Type 0 where
  pub form : List Float
  pub operations : List Operation
  pub runs : List Swap

-- how many of some runs declined
unfoldable pub declines_in : List Swap → ℕ
declines_in [] = 0
declines_in (r ∷ rs) = cond r.declined 1 0 + declines_in rs

-- the two counts of an answer: of the runs, and of those that declined
abbrev pub swaps_of : Change → ℕ
swaps_of c = length c.runs

abbrev pub declined_of : Change → ℕ
declined_of c = declines_in c.runs

-- nothing
abbrev pub unchanged : List Float → Change
unchanged t = record { form = t; operations = []; runs = [] }

-- one swap that does not decline
abbrev pub swapped : ℕ → ℕ → ℕ → List Float → Operation → Change
swapped j n1 n2 t o = record { form = t; operations = o ∷ []; runs = record { row = j; n1 = n1; n2 = n2; declined = false } ∷ [] }

-- one that declines touches neither form nor factor
abbrev pub declining : ℕ → ℕ → ℕ → List Float → Change
declining j n1 n2 t = record { form = t; operations = []; runs = record { row = j; n1 = n1; n2 = n2; declined = true } ∷ [] }

-- one change, and then another of the form as the first left it
unfoldable pub and_then : Change → (List Float → Change) → Change
and_then c next =
    let d = next c.form in
    record { form = d.form; operations = c.operations ++ d.operations; runs = c.runs ++ d.runs }

-- v put in row i, column j
abbrev pub put : ℕ → ℕ → ℕ → Float → List Float → List Float
put ld i j v t = set t (place ld i j) v

-- ---- 1 against 1: the diagonal numbers go down unchanged, and what lies right of and above them is rotated

unfoldable pub rotation11 : Format → ℕ → List Float → ℕ → Rotation
rotation11 f ld t j = adjoint (rotg f (entry ld t j (j + 1)) (sub f (entry ld t (j + 1) (j + 1)) (entry ld t j j))).rot

unfoldable pub swap11 : Format → ℕ → ℕ → ℕ → List Float → Change
swap11 f ld n j t =
    let o = rotates (rotation11 f ld t j) j (j + 1) in
    swapped j 1 1 (on_form f ld n (j + 2) j o (put ld j j (entry ld t (j + 1) (j + 1)) (put ld (j + 1) (j + 1) (entry ld t j j) t))) o

-- ---- 1 against 2, and 2 against 1 with the rows in reversed order

-- the two reflections of the columns a and b of three numbers
unfoldable pub reflectors3 : Format → Triple → Triple → Reflect3
reflectors3 f a b =
    let h = make_householder_in_place f a.x0 (a.x1 ∷ a.x2 ∷ []) in
    let tau1 = recip f h.tau in
    let v11 = at h.tail 0 in
    let v12 = at h.tail 1 in
    let c = reflect_triple f tau1 v11 v12 b in
    let g = make_householder_in_place f c.x1 (c.x2 ∷ []) in
    record { tau1 = tau1; v11 = v11; v12 = v12; tau2 = recip f g.tau; v21 = at g.tail 0 }

unfoldable pub reflectors12 : Format → ℕ → List Float → ℕ → Reflect3
reflectors12 f ld t j =
    let e = entry ld t in
    reflectors3 f
    (record { x0 = e j (j + 1); x1 = sub f (e (j + 1) (j + 1)) (e j j); x2 = e (j + 2) (j + 1) })
    (record { x0 = e j (j + 2); x1 = e (j + 1) (j + 2); x2 = sub f (e (j + 2) (j + 2)) (e j j) })

unfoldable pub swap12 : Format → ℕ → ℕ → ℕ → List Float → Change
swap12 f ld n j t =
    let o = reflects3 (reflectors12 f ld t j) j (j + 1) (j + 2) in
    swapped j 1 2 (put ld (j + 2) (j + 1) (zero_of f) (put ld (j + 2) j (zero_of f) (on_form f ld n j (j + 3) o t))) o

unfoldable pub reflectors21 : Format → ℕ → List Float → ℕ → Reflect3
reflectors21 f ld t j =
    let e = entry ld t in
    reflectors3 f
    (record { x0 = e (j + 1) (j + 2); x1 = sub f (e (j + 1) (j + 1)) (e (j + 2) (j + 2)); x2 = e (j + 1) j })
    (record { x0 = e j (j + 2); x1 = e j (j + 1); x2 = sub f (e j j) (e (j + 2) (j + 2)) })

unfoldable pub swap21 : Format → ℕ → ℕ → ℕ → List Float → Change
swap21 f ld n j t =
    let o = reflects3 (reflectors21 f ld t j) (j + 2) (j + 1) j in
    swapped j 2 1 (put ld (j + 2) j (zero_of f) (put ld (j + 1) j (zero_of f) (on_form f ld n j (j + 3) o t))) o

-- ---- 2 against 2: tried on the 4 by 4 window first

-- the window's four columns
pub record Window : Type 0 where
  pub c0 : Quad
  pub c1 : Quad
  pub c2 : Quad
  pub c3 : Quad

-- rows j to j + 3 of a column
unfoldable pub window_column : ℕ → List Float → ℕ → ℕ → Quad
window_column ld t j col = record { x0 = entry ld t j col; x1 = entry ld t (j + 1) col; x2 = entry ld t (j + 2) col; x3 = entry ld t (j + 3) col }

unfoldable pub window_at : ℕ → List Float → ℕ → Window
window_at ld t j = record { c0 = window_column ld t j j; c1 = window_column ld t j (j + 1); c2 = window_column ld t j (j + 2); c3 = window_column ld t j (j + 3) }

unfoldable pub transposed : Window → Window
transposed w =
    record {
      c0 = record { x0 = w.c0.x0; x1 = w.c1.x0; x2 = w.c2.x0; x3 = w.c3.x0 };
      c1 = record { x0 = w.c0.x1; x1 = w.c1.x1; x2 = w.c2.x1; x3 = w.c3.x1 };
      c2 = record { x0 = w.c0.x2; x1 = w.c1.x2; x2 = w.c2.x2; x3 = w.c3.x2 };
      c3 = record { x0 = w.c0.x3; x1 = w.c1.x3; x2 = w.c2.x3; x3 = w.c3.x3 };
    }

-- both reflections of each column
unfoldable pub reflected_columns : Format → Reflect4 → Window → Window
reflected_columns f v w = record { c0 = reflect4 f v w.c0; c1 = reflect4 f v w.c1; c2 = reflect4 f v w.c2; c3 = reflect4 f v w.c3 }

-- the window with its rows, and then its columns, changed as the form's are to be
unfoldable pub tried_window : Format → Reflect4 → Window → Window
tried_window f v w = transposed (reflected_columns f v (transposed (reflected_columns f v w)))

-- the larger of m and a column's magnitudes
unfoldable pub largest_of : Float → Quad → Float
largest_of m q = fmax (fmax (fmax (fmax m (abs q.x0)) (abs q.x1)) (abs q.x2)) (abs q.x3)

-- the window's largest magnitude
unfoldable pub dnorm_of : Format → Window → Float
dnorm_of f w = largest_of (largest_of (largest_of (largest_of (zero_of f) w.c0) w.c1) w.c2) w.c3

-- the larger of 10 × eps × dnorm and min_positive / eps
unfoldable pub threshold : Format → Window → Float
threshold f w = fmax (mul f (mul f (ten_of f) (eps_of f)) (dnorm_of f w)) (div f (min_positive_of f) (eps_of f))

-- the largest magnitude of the four lower-left numbers
unfoldable pub lower_left : Window → Float
lower_left w = fmax (fmax (fmax (abs w.c0.x2) (abs w.c1.x2)) (abs w.c0.x3)) (abs w.c1.x3)

-- the solution of the window's Sylvester equation
unfoldable pub solution_of : Format → Window → Sylvester
solution_of f w =
    lasy2 f
    ((w.c0.x0 ∷ w.c1.x0 ∷ []) ∷ (w.c0.x1 ∷ w.c1.x1 ∷ []) ∷ [])
    ((w.c2.x2 ∷ w.c3.x2 ∷ []) ∷ (w.c2.x3 ∷ w.c3.x3 ∷ []) ∷ [])
    ((w.c2.x0 ∷ w.c3.x0 ∷ []) ∷ (w.c2.x1 ∷ w.c3.x1 ∷ []) ∷ [])

-- the two reflections of the columns (x00, x10, -scale, 0) and (x01, x11, 0, -scale)
unfoldable pub reflectors4 : Format → Sylvester → Reflect4
reflectors4 f x =
    let h = make_householder_in_place f x.x00 (x.x10 ∷ neg x.scale ∷ zero_of f ∷ []) in
    let tau1 = recip f h.tau in
    let v11 = at h.tail 0 in
    let v12 = at h.tail 1 in
    let v13 = at h.tail 2 in
    let c = reflect_quad f tau1 v11 v12 v13 (record { x0 = x.x01; x1 = x.x11; x2 = zero_of f; x3 = neg x.scale }) in
    let g = make_householder_in_place f c.x1 (c.x2 ∷ c.x3 ∷ []) in
    record { tau1 = tau1; v11 = v11; v12 = v12; v13 = v13; tau2 = recip f g.tau; v21 = at g.tail 0; v22 = at g.tail 1 }

unfoldable pub declines : Format → Reflect4 → Window → Bool
declines f v w = lt (threshold f w) (lower_left (tried_window f v w))

-- where it does not decline
unfoldable pub swap22_by : Format → ℕ → ℕ → ℕ → Reflect4 → List Float → Change
swap22_by f ld n j v t =
    let o = reflects4 v j (j + 1) (j + 2) (j + 3) in
    let z = zero_of f in
    swapped j 2 2 (put ld (j + 3) (j + 1) z (put ld (j + 3) j z (put ld (j + 2) (j + 1) z (put ld (j + 2) j z (on_form f ld n j (j + 4) o t))))) o

unfoldable pub swap22 : Format → ℕ → ℕ → ℕ → List Float → Change
swap22 f ld n j t =
    let w = window_at ld t j in
    let v = reflectors4 f (solution_of f w) in
    cond (declines f v w) (declining j 2 2 t) (swap22_by f ld n j v t)

-- ---- the swap of n1 rows from row j on with the n2 below them, each 1 or 2

unfoldable pub swap_of : Format → ℕ → ℕ → ℕ → ℕ → ℕ → List Float → Change
swap_of f ld n j n1 n2 t =
    cond (eqb n1 1) (cond (eqb n2 1) (swap11 f ld n j t) (swap12 f ld n j t)) (cond (eqb n2 1) (swap21 f ld n j t) (swap22 f ld n j t))

-- ---- the 2-block in rows j and j + 1 standardised

unfoldable pub block_at : Format → ℕ → List Float → ℕ → Block
block_at f ld t j = (lahqr_schur22 f (entry ld t j j) (entry ld t j (j + 1)) (entry ld t (j + 1) j) (entry ld t (j + 1) (j + 1))).block

-- the block b put there, and what lies right of and above it rotated
abbrev pub standardise_by : Format → ℕ → ℕ → ℕ → Block → List Float → Change
standardise_by f ld n j b t =
    let o = rotates (record { c = b.cs; s = b.sn }) j (j + 1) in
    record {
      form = on_form f ld n (j + 2) j o (put ld (j + 1) (j + 1) b.d (put ld (j + 1) j b.c (put ld j (j + 1) b.b (put ld j j b.a t))));
      operations = o ∷ [];
      runs = [];
    }

unfoldable pub standardise : Format → ℕ → ℕ → ℕ → List Float → Change
standardise f ld n j t = standardise_by f ld n j (block_at f ld t j) t
