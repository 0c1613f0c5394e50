-- `arith::real::abs` meets its contract: the pattern without the weight of the sign is that of the magnitude. Assumes nothing.
use mathlib.Core.Path.{◌≡◌, refl, sym, ap, ◌∙◌, subst}
use mathlib.Core.Bool.{true, false, true≢false}
use native.Mathlib.Omega.{arith}
use Prim.Native.Nat.{ℕ, ◌%◌, ◌≤◌}
use lib.Dec.{T}
use lib.Ieee.{Float, nan, inf, fin, binary64, fits, is_nan, of_bits, to_bits}
use lib.Ieee.Bits.{of_bits-to_bits}
use Rattle.std.proofs.lemmas.Float.{not_nan_f64_bits}
use Rattle.model.specs.Arith.{abs}
use Rattle.arith.proofs.Hypot.{fits-abs, unsigned_number}
use Rattle.arith.proofs.real.abs.Goals as goal

nan_itself : (x : Float) → is_nan x ≡ true → x ≡ abs x
unfolding abs is_nan
nan_itself nan h = refl
nan_itself (inf s) h = absurd (true≢false (sym h))
nan_itself (fin s m e) h = absurd (true≢false (sym h))

pub float_from_bits-result : goal.float_from_bits-result
float_from_bits-result c =
    let u = unsigned_number c.args.x (subst T (sym c.well_formed.0.1) tt) (sym c.is_nan.ensures.value ∙ c.if-is_nan.false) in
    not_nan_f64_bits (to_bits binary64 c.args.x % 0x8000_0000_0000_0000) (omega (arith, u.1))

pub returns-then-is_nan : goal.returns-then-is_nan
returns-then-is_nan c = nan_itself c.args.x (sym c.is_nan.ensures.value ∙ c.if-is_nan.true)

pub returns-else-is_nan : goal.returns-else-is_nan
returns-else-is_nan c =
    let w = subst T (sym c.well_formed.0.1) tt in
    let u = unsigned_number c.args.x w (sym c.is_nan.ensures.value ∙ c.if-is_nan.false) in
    ap (of_bits binary64) u.0 ∙ of_bits-to_bits binary64 (abs c.args.x) (fits-abs binary64 c.args.x w)
