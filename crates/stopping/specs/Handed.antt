-- What is handed over with `reorder_schur_stopping`: claims about the very `stopping_call` that its contract cites, and about the move that it makes.
-- They are proved in laws_stopping, laws_moves, laws_stride and laws_shape, on which this crate rests, so that the call is not built without them. Definitions only: proofs/Handed.antt has the proof. Assumes nothing.
use Rattle.laws_moves.specs.Lists.{ListsOfMoves}
use Rattle.laws_moves.specs.Kinds.{StoppingOnTriangular}
use Rattle.laws_stride.specs.Beyond.{RowsBeyond}
use Rattle.laws_stride.specs.Strides.{TwoStrides}
use Rattle.laws_shape.specs.Steps.{StepsKeep, AllStepwise}
use Rattle.laws_shape.specs.Meets.{NeverAcross}
use Rattle.laws_shape.specs.Chains.{SentBack, BuffersSentBack, NumbersStay, SameWithout}
use Rattle.laws_stopping.specs.Control.{OneControl}
use Rattle.laws_stopping.specs.Stops.{StopsExactly, CallStops}
use Rattle.laws_stopping.specs.Follows.{StoppingIsDtrexc}
use Rattle.laws_stopping.specs.Whole.{NeverParted}
use Rattle.laws_stopping.specs.Standard.{ExchangeIsDlanv2}

pub record HandedOver : Type 0 where
  -- it says stopped exactly where a test has failed, the last and no other; and so does the call
  pub stops : StopsExactly
  pub call_stops : CallStops
  -- its exchanges are dtrexc's calls, to the end, and its control is that of 01's move
  pub dtrexc : StoppingIsDtrexc
  pub control : OneControl
  -- each exchange is of whole blocks
  pub whole : NeverParted
  -- standardising in it is dlanv2's where a rotated block has b zero and c not
  pub standard : ExchangeIsDlanv2
  -- on triangular forms it is 01's move, and the rule on lists has both
  pub triangular : StoppingOnTriangular
  pub lists : ListsOfMoves
  -- rows from n on stay, and two strides give the same
  pub beyond : RowsBeyond
  pub strides : TwoStrides
  -- what it gives back can be sent to any call again, stopped or not, buffers too, and numbers of the format stay such; the same with a factor and without
  pub sent_back : SentBack
  pub buffers_sent_back : BuffersSentBack
  pub numbers_stay : NumbersStay
  pub same_without : SameWithout
  -- each run leaves an accepted form, and no exchange of it is across a 2-block
  pub steps_keep : StepsKeep
  pub stepwise : AllStepwise
  pub never_across : NeverAcross
