-- The crate's structs as the records of model. Definitions only. Assumes nothing.
use Rattle.model.specs.Vectors as Vectors
use Rattle.solve.specs.declared.complex.Complex.{Complex}
use Rattle.solve.specs.declared.solve_cplx.Rows.{Rows}

abbrev pub complex : Complex → Vectors.Complex
complex z = record { re = z.re; im = z.im }

abbrev pub rows : Rows → Vectors.Rows
rows r = record { upper = complex r.upper; lower = complex r.lower }
