-- The crate's structs as the records of model. Definitions only. Assumes nothing.
use Rattle.std.specs.Prelude.{List, Float, Result, Ok, Err}
use Rattle.std.specs.Float.{binary64}
use Rattle.model.specs.Arith.{zero_of}
use Rattle.model.specs.Jacobi as Jacobi
use Rattle.model.specs.Householder as Householder
use Rattle.refusal.specs.declared.Refusal.{Refusal}
use Rattle.refusal.specs.Line.{line}
use Rattle.linalg.specs.declared.jacobi.JacobiRotation.{JacobiRotation}
use Rattle.linalg.specs.declared.jacobi.RotationWith.{RotationWith}
use Rattle.linalg.specs.declared.jacobi.Pair.{Pair}
use Rattle.linalg.specs.declared.householder.Reflection.{Reflection}

abbrev pub rotation : JacobiRotation → Jacobi.Rotation
rotation j = record { c = j.c; s = j.s }

abbrev pub rotation_with : RotationWith → Jacobi.Rotg
rotation_with j = record { rot = rotation j.rot; r = j.r }

abbrev pub pair : Pair → Jacobi.Pair
pair p = record { x = p.x; y = p.y }

-- a reflection that is made, with what the tail holds at exit
abbrev pub reflection : Reflection → List Float → Householder.Reflection
reflection r tail = record { answer = 0; head = r.head; tau = r.tau; head_with_beta_inv = r.head_with_beta_inv; norm = r.norm; tail = tail }

-- what a call answers: a reflection that is made, or the number of the line that turns it away, and zeros
abbrev pub reflected : Result Reflection Refusal → List Float → Householder.Reflection
reflected (Ok r) tail = reflection r tail
reflected (Err e) tail =
    record { answer = line e; head = zero_of binary64; tau = zero_of binary64; head_with_beta_inv = zero_of binary64; norm = zero_of binary64; tail = tail }
