-- What is said of numbers of two limbs. Definitions only. Assumes nothing.
use Rattle.std.specs.Prelude.{ℕ}
use Rattle.modulus.specs.declared.limbs.Wide.{Wide}
use Rattle.modulus.specs.declared.limbs.WithRest.{WithRest}
use Rattle.modulus.specs.declared.limbs.Normal.{Normal}
use Rattle.modulus.specs.Modulus.{wide, Square, Sum, Fitted}

-- the whole number that it stands for
abbrev pub number : Wide → ℕ
number w = wide w.high w.low

-- w is x * x
abbrev pub IsSquare : ℕ → Wide → Type 0
IsSquare x w = Square x w.high w.low

-- s is x * x + y * y / 4 ^ d, with what the division leaves
abbrev pub IsSum : ℕ → ℕ → ℕ → WithRest → Type 0
IsSum x y d s = Sum x y d s.whole.high s.whole.low s.rest

-- n is s with at most 108 digits
abbrev pub IsFitted : WithRest → Normal → Type 0
IsFitted s n = Fitted s.whole.high s.whole.low s.rest n.long.whole.high n.long.whole.low n.long.rest n.power
