-- The two moves are one control: laws_stride proves it, where both are argued of it. Assumes nothing.
use Rattle.laws_stride.proofs.Control.{walk_is_move}
use Rattle.laws_stopping.specs.Control.{OneControl}

pub one-control : OneControl
one-control f ld n from to t = walk_is_move f ld n from to t
