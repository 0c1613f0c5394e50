-- Of document 01's lines the first in 01's order is told, by computation; and where none is told, none applies. Assumes nothing.
use mathlib.Core.Path.{◌≡◌, refl}
use Prim.Native.Nat.{ℕ, suc}
use native.Mathlib.Omega.{arith}
use mathlib.Core.Bool.{Bool, true, false, cond}
use Rattle.model.specs.Lines.{first_of}
use Rattle.laws.specs.InOrder.{InOrder}

pub in_order : InOrder
unfolding first_of
in_order b1 b12 b2 b17 b3 b4 b5 b6 b7 b8 b9 b10 b11 = refl

-- where 0 is told, a line that is tested does not apply, and none after it does
pub passed : (b : Bool) (k rest : ℕ) → cond b (suc k) rest ≡ 0 → (b ≡ false) × (rest ≡ 0)
passed true k rest h = absurd (omega arith)
passed false k rest h = (refl, h)
