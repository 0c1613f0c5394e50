-- Exchanges of either kind, made one after the other. Definitions only. Assumes nothing.
use Rattle.std.specs.Prelude.{List, [], ◌∷◌, Float}
use Rattle.model.specs.Swaps.{Change, and_then}
use Rattle.model.specs.Move.{Exchange}
use Rattle.model.specs.Stopping.{Kind}

-- one made on a form
abbrev pub make_by : Kind → Exchange → List Float → Change
make_by k e t = k.exchange e.row e.n1 e.n2 t

-- a list of them made one after the other, after a change c
unfoldable pub made_by : Kind → Change → List Exchange → Change
made_by k c [] = c
made_by k c (e ∷ es) = made_by k (and_then c (make_by k e)) es
