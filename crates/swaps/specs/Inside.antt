-- Neighbouring blocks inside a form. Definitions only. Assumes nothing.
use Rattle.std.specs.Prelude.{◌+◌, ◌≤◌}
use Rattle.form.specs.declared.shape.Shape.{Shape}
use Rattle.swaps.specs.declared.neighbours.Neighbours.{Neighbours}

-- the rows of both are rows of a form of this shape
abbrev pub Fits : Shape → Neighbours → Type 0
Fits s b = b.row + b.n1 + b.n2 ≤ s.n
