-- `form::shape::Shape::nonzero_below` meets its contract. Assumes nothing.
use lib.Ieee.{ne}
use Rattle.form.proofs.shape.Shape.nonzero_below.Goals as goal

pub returns : goal.returns
unfolding ne
returns c = rw c.zero_below.ensures
