-- The crate's structs as the records of model. Definitions only. Assumes nothing.
use Rattle.model.specs.Vectors as Vectors
use Rattle.evd.specs.declared.vectors.Start.{Start}

abbrev pub start : Start → Vectors.Start
start s = record { upper = s.upper; lower = s.lower }
