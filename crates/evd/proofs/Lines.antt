-- The lines of a column and of the vectors by those of sizes, which are told first. Assumes nothing.
use mathlib.Core.Path.{◌≡◌, refl}
use mathlib.Core.Bool.{Bool, true, false, not, cond}
use mathlib.Core.List.{List, []}
use Prim.Native.Nat.{ℕ, ◌*◌}
use lib.Dec.{eqb}
use lib.ListN.{length, take, drop}
use lib.Ieee.{Float, binary64}
use Rattle.model.specs.Form.{line2, line17, line3, line7}
use Rattle.model.specs.Vectors.{column_line, column_of, vectors_line}
use Rattle.form.specs.Lines.{size_line, shape_line, further_line}
use Rattle.form.proofs.Accepted.{further_first}

sizes : (b2 b17 b3 b7 : Bool) (x : List Float)
    → cond (eqb (cond b2 2 (cond b17 17 (cond b3 4 (cond b7 7 0)))) 0) x [] ≡ cond (eqb (cond b2 2 (cond b17 17 (cond b3 3 0))) 0) (cond b7 [] x) []
sizes true b17 b3 b7 x = refl
sizes false true b3 b7 x = refl
sizes false false true b7 x = refl
sizes false false false true x = refl
sizes false false false false x = refl

pub column_first : (ld n : ℕ) (v : List Float) (col : ℕ) → column_of ld n v col ≡ cond (eqb (size_line ld n v) 0) (cond (line7 n col) [] (take n (drop (ld * col) v))) []
unfolding column_of column_line size_line line3
column_first ld n v col = sizes (line2 n) (line17 ld n) (line3 ld n v) (line7 n col) (take n (drop (ld * col) v))

pub vectors_first : (ld n : ℕ) (t v : List Float) → vectors_line binary64 ld n t v ≡ cond (eqb (size_line ld n t) 0) (cond (not (eqb (length v) (ld * n))) 4 (shape_line ld n t)) (size_line ld n t)
unfolding vectors_line further_line
vectors_first ld n t v = further_first ld n t (not (eqb (length v) (ld * n)))
