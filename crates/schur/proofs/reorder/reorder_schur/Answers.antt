-- `schur::reorder::reorder_schur` meets its contract. Assumes nothing.
use Rattle.schur.proofs.reorder.reorder_schur.Goals as goal

pub returns : goal.returns
returns c = let k = c.in_ok-s.ensures in c.reorder-m.ensures _ _ k.shape.0 k.line
