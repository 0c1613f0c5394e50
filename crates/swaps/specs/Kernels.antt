-- The operations of model's Columns on the numbers of one row or column as lists. Definitions only. Assumes nothing.
use Rattle.std.specs.Prelude.{ℕ, List, [], ◌∷◌, get_or, Float}
use Rattle.std.specs.Float.{binary64}
use Rattle.model.specs.Form.{at}
use Rattle.model.specs.Jacobi.{Rotation, Pair, apply_right}
use Rattle.model.specs.Columns.{Triple, Quad, Reflect3, Reflect4, reflect3, reflect4, Operation, rotates, reflects3, reflects4}
use Rattle.swaps.specs.View.{triple, quad}

abbrev pub two : Pair → List Float
two w = w.x ∷ w.y ∷ []

abbrev pub three : Triple → List Float
three w = w.x0 ∷ w.x1 ∷ w.x2 ∷ []

abbrev pub four : Quad → List Float
four w = w.x0 ∷ w.x1 ∷ w.x2 ∷ w.x3 ∷ []

abbrev pub line : List ℕ → ℕ → ℕ
line xs m = get_or xs m 0

-- ---- rotations

abbrev pub rotated : Rotation → List Float → List Float
rotated r x = two (apply_right binary64 r (at x 0) (at x 1))

abbrev pub rotates_lines : Rotation → List ℕ → Operation
rotates_lines r xs = rotates r (line xs 0) (line xs 1)

-- ---- pairs of reflections

abbrev pub reflected3 : Reflect3 → List Float → List Float
reflected3 v x = three (reflect3 binary64 v (triple x))

abbrev pub reflects3_lines : Reflect3 → List ℕ → Operation
reflects3_lines v xs = reflects3 v (line xs 0) (line xs 1) (line xs 2)

abbrev pub reflected4 : Reflect4 → List Float → List Float
reflected4 v x = four (reflect4 binary64 v (quad x))

abbrev pub reflects4_lines : Reflect4 → List ℕ → Operation
reflects4_lines v xs = reflects4 v (line xs 0) (line xs 1) (line xs 2) (line xs 3)
