-- The numbers that a `Strided` stands for. Definitions only. Assumes nothing.
use Rattle.std.specs.Prelude.{ℕ, Float}
use Rattle.model.specs.Vectors.{strided}
use Rattle.solve.specs.declared.strided.Strided.{Strided}

abbrev pub numbers : Strided → ℕ → Float
numbers s = strided s.list.now s.start s.step
