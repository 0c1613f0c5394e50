-- The small exchanges that the code has still to do, as the loop of laws_exchange has them. Definitions only. Assumes nothing.
use Rattle.std.specs.Prelude.{List, map, reverse}
use Rattle.swaps.specs.declared.neighbours.Neighbours.{Neighbours}
use Rattle.laws_exchange.specs.Loop as Loop

abbrev pub seen : Neighbours → Loop.Small
seen b = record { row = b.row; n1 = b.n1; n2 = b.n2 }

-- the last pushed comes first
unfoldable pub waiting : List Neighbours → List Loop.Small
waiting todo = map seen (reverse todo)
