-- What standardising and the small Sylvester solve give from C, and how matrices of two rows are lent. Definitions only. Assumes nothing.
use Rattle.std.specs.Prelude.{List, [], ◌∷◌, get_or, Float}
use Rattle.std.specs.Float.{nan, Format}
use Rattle.model.specs.Schur22 as Schur22
use Rattle.model.specs.Lasy2.{Sylvester}

-- a block made standard, with document 01's number and values of its pair
pub record Standard : Type 0 where
  pub block : Schur22.Block
  pub values : Schur22.Values

abbrev pub standard : Format → Schur22.Standardised → Standard
standard f s = record { block = s.block; values = Schur22.values_of f s.eigenvalues }

-- the rows of a matrix that is lent column after column
abbrev pub two_by_two : List Float → List (List Float)
two_by_two s = (get_or s 0 nan ∷ get_or s 2 nan ∷ []) ∷ (get_or s 1 nan ∷ get_or s 3 nan ∷ []) ∷ []

-- x, column after column, and scale
pub record Solved : Type 0 where
  pub x : List Float
  pub scale : Float

abbrev pub solved : Sylvester → Solved
solved s = record { x = s.x00 ∷ s.x10 ∷ s.x01 ∷ s.x11 ∷ []; scale = s.scale }
