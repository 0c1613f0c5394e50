-- `arith::norm::finite_modulus` meets its contract: the patterns of the two magnitudes, the larger first. Assumes nothing.
use mathlib.Core.Path.{sym, ◌∙◌, subst}
use lib.Dec.{T}
use lib.Ieee.{binary64}
use Rattle.arith.proofs.Hypot.{hypot_finite, ordered}
use Rattle.arith.proofs.norm.finite_modulus.Goals as goal

pub returns : goal.returns
returns c =
    c.modulus_bits.ensures.0
    ∙ rw (c.max.ensures, c.min.ensures) (ordered binary64 c.args.p c.args.q (subst T (sym c.well_formed.0.1) tt) (subst T (sym c.well_formed.1.0.1) tt) c.magnitude-a.ensures.0 c.magnitude-b.ensures.0)
    ∙ sym (hypot_finite binary64 c.args.p c.args.q c.requires.0 c.requires.1)
