-- lahqr_schur22's two bounds are the powers of two that the code has. Assumes nothing.
use mathlib.Core.Path.{◌≡◌, refl}
use lib.Ieee.{binary64, div, of_bits}
use Rattle.model.specs.Root.{sqrt}
use Rattle.model.specs.Schur22.{safmn2, safmx2}

-- 2 ^ -485
pub lower : safmn2 binary64 ≡ of_bits binary64 0x21a0_0000_0000_0000
unfolding safmn2 sqrt of_bits div
lower = refl

-- 2 ^ 485
pub upper : safmx2 binary64 ≡ of_bits binary64 0x5e40_0000_0000_0000
unfolding safmx2 safmn2 sqrt of_bits div
upper = refl
