-- The crate's structs as the records of model. Definitions only. Assumes nothing.
use Rattle.model.specs.Schur22 as Schur22
use Rattle.schur22.specs.declared.lahqr_schur22.Eigenvalues.{Eigenvalues}
use Rattle.schur22.specs.declared.lahqr_schur22.Eigenvalues.TheVariants.{Real, Complex}
use Rattle.schur22.specs.declared.lahqr_schur22.Values.{Values}
use Rattle.schur22.specs.declared.lahqr_schur22.Block.{Block}
use Rattle.schur22.specs.declared.lahqr_schur22.Scaled.{Scaled}
use Rattle.schur22.specs.declared.lahqr_schur22.Standardised.{Standardised}

abbrev pub eigenvalues : Eigenvalues → Schur22.Eigenvalues
eigenvalues (Real a d) = Schur22.real a d
eigenvalues (Complex a d m) = Schur22.complex a d m

-- document 01's number of an enum's values is 0 for each of its cases
abbrev pub values : Values → Schur22.Values
values v = record { answer = 0; re1 = v.re1; im1 = v.im1; re2 = v.re2; im2 = v.im2 }

abbrev pub block : Block → Schur22.Block
block x = record { a = x.a; b = x.b; c = x.c; d = x.d; cs = x.cs; sn = x.sn }

abbrev pub scaled : Scaled → Schur22.Scaled
scaled s = record { sigma = s.sigma; temp = s.temp }

abbrev pub standardised : Standardised → Schur22.Standardised
standardised s = record { block = block s.block; eigenvalues = eigenvalues s.eigenvalues }
