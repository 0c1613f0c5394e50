-- `exchanges::reorder::reorder` meets its contract. Assumes nothing.
use mathlib.Core.Logic.{◌⊎◌, inl, inr}
use Rattle.walks.proofs.Ways.{ended_move}
use Rattle.exchanges.proofs.reorder.reorder.Goals as goal

pub returns : goal.returns
returns c n ld k l =
    elim c.in-Ok.is [
      | inl e ↦ ended_move _ _ k l (rw e at c.walk.ensures)
      | inr e ↦ ended_move _ _ k l (rw e at c.walk.ensures)
    ]
