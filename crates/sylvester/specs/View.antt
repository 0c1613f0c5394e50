-- The crate's structs as the records of model. Definitions only. Assumes nothing.
use Rattle.model.specs.Lasy2 as Lasy2
use Rattle.sylvester.specs.declared.lasy2.Solution.{Solution}

abbrev pub solution : Solution → Lasy2.Solution
solution s = record { x = s.x; scale = s.scale }

-- x, column after column, by its places
abbrev pub sylvester : Solution → Lasy2.Sylvester
sylvester s = record { x00 = Lasy2.num s.x 0; x10 = Lasy2.num s.x 1; x01 = Lasy2.num s.x 2; x11 = Lasy2.num s.x 3; scale = s.scale }
