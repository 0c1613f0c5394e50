-- Lists that hold a form of a shape, and a factor beside it. Definitions only. Assumes nothing.
use Rattle.std.specs.Prelude.{◌≡◌, ℕ, ◌*◌, List, length, Float}
use Rattle.form.specs.declared.shape.Shape.{Shape}
use Rattle.form.specs.Run as Run

-- as many numbers as a form of this shape has places
abbrev pub Holds : Shape → List Float → Type 0
Holds s t = length t ≡ s.ld * s.n

-- a factor beside it, or none
abbrev pub Beside : Shape → List Float → Type 0
Beside s u = Run.Beside s.ld s.n u

-- the shape of n rows and the stride ld, and the list holds a form of it
pub record IsOf (s : Shape) (n ld : ℕ) (t : List Float) : Type 0 where
  pub rows : s.n ≡ n
  pub stride : s.ld ≡ ld
  pub holds : Holds s t
