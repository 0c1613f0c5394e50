-- `arith::norm::magnitude` meets its contract. Assumes nothing.
use mathlib.Core.Path.{sym, subst}
use lib.Dec.{T}
use Rattle.arith.proofs.Hypot.{finite_no_nan, unsigned}
use Rattle.arith.proofs.norm.magnitude.Goals as goal

pub float_to_bits-result : goal.float_to_bits-result
float_to_bits-result c = finite_no_nan c.args.x c.requires

pub returns : goal.returns
returns c = unsigned c.args.x (subst T (sym c.well_formed.0.1) tt) c.requires
