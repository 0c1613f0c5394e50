-- The form after each swap, as the parts of the code hand it on. Definitions only. Assumes nothing.
use Rattle.std.specs.Prelude.{ℕ, ◌+◌, List, [], ◌∷◌, Float}
use Rattle.std.specs.Float.{binary64}
use Rattle.std.specs.Float.Ieee.{sub}
use Rattle.model.specs.Arith.{zero_of}
use Rattle.model.specs.Form.{entry}
use Rattle.model.specs.Jacobi.{Rotation}
use Rattle.model.specs.Columns.{Reflect3, Reflect4, rotates, reflects3, reflects4, on_form}
use Rattle.model.specs.Swaps.{Change, put, reflectors3, swap12, swap21}
use Rattle.model.specs.Stopping.{Window3, transposed3}
use Rattle.swaps.specs.declared.swap_12.Single.{Single}
use Rattle.swaps.specs.declared.swap_12.Single.TheVariants.{First, Last}

-- zero in row i, column j
abbrev pub clear : ℕ → ℕ → ℕ → List Float → List Float
clear ld i j t = put ld i j (zero_of binary64) t

abbrev pub form11 : ℕ → ℕ → ℕ → Rotation → List Float → List Float
form11 ld n j r t = on_form binary64 ld n (j + 2) j (rotates r j (j + 1)) (put ld j j (entry ld t (j + 1) (j + 1)) (put ld (j + 1) (j + 1) (entry ld t j j) t))

abbrev pub form12 : ℕ → ℕ → ℕ → Reflect3 → List Float → List Float
form12 ld n j v t = clear ld (j + 2) (j + 1) (clear ld (j + 2) j (on_form binary64 ld n j (j + 3) (reflects3 v j (j + 1) (j + 2)) t))

abbrev pub form21 : ℕ → ℕ → ℕ → Reflect3 → List Float → List Float
form21 ld n j v t = clear ld (j + 2) j (clear ld (j + 1) j (on_form binary64 ld n j (j + 3) (reflects3 v (j + 2) (j + 1) j) t))

abbrev pub form22 : ℕ → ℕ → ℕ → Reflect4 → List Float → List Float
form22 ld n j v t =
    clear ld (j + 3) (j + 1) (clear ld (j + 3) j (clear ld (j + 2) (j + 1) (clear ld (j + 2) j (on_form binary64 ld n j (j + 4) (reflects4 v j (j + 1) (j + 2) (j + 3)) t))))

-- ---- three rows from row j on, the first or the last of them single

-- the rows in the order in which the reflections take them
abbrev pub rows3 : Single → ℕ → List ℕ
rows3 First j = j ∷ (j + 1) ∷ (j + 2) ∷ []
rows3 Last j = (j + 2) ∷ (j + 1) ∷ j ∷ []

abbrev pub rows4 : ℕ → List ℕ
rows4 j = j ∷ (j + 1) ∷ (j + 2) ∷ (j + 3) ∷ []

-- the two reflections of the second and the third column of the window of these rows, each less the single row's
-- diagonal number
abbrev pub reflectors_of : Window3 → Reflect3
reflectors_of w =
    reflectors3 binary64 (record { x0 = w.c1.x0; x1 = sub binary64 w.c1.x1 w.c0.x0; x2 = w.c1.x2 }) (record { x0 = w.c2.x0; x1 = w.c2.x1; x2 = sub binary64 w.c2.x2 w.c0.x0 })

-- those of a single row that is the last are made of the window's rows
abbrev pub reflectors_in : Single → Window3 → Reflect3
reflectors_in First w = reflectors_of w
reflectors_in Last w = reflectors_of (transposed3 w)

abbrev pub form3 : Single → ℕ → ℕ → ℕ → Reflect3 → List Float → List Float
form3 First = form12
form3 Last = form21

abbrev pub swap3 : Single → ℕ → ℕ → ℕ → List Float → Change
swap3 First = swap12 binary64
swap3 Last = swap21 binary64
