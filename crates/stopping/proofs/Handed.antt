-- What is handed over with the move that stops, proved where it is claimed. Assumes nothing.
use Rattle.laws_moves.proofs.Lists.{lists_of_moves}
use Rattle.laws_moves.proofs.BothKinds.{stopping_on_triangular}
use Rattle.laws_stride.proofs.Strides.{rows-beyond, two-strides}
use Rattle.laws_shape.proofs.Steps.{steps_keep_lem}
use Rattle.laws_shape.proofs.Meets.{all-stepwise, never_across_lem}
use Rattle.laws_shape.proofs.Chains.{sent_back_lem, buffers-sent_back, numbers_stay, same_without_lem}
use Rattle.laws_stopping.proofs.Control.{one-control}
use Rattle.laws_stopping.proofs.Stops.{stops_exactly, call-stops}
use Rattle.laws_stopping.proofs.Follows.{stopping_is_dtrexc}
use Rattle.laws_stopping.proofs.Whole.{never_parted}
use Rattle.laws_stopping.proofs.Standard.{exchange_is_dlanv2}
use Rattle.stopping.specs.Handed.{HandedOver}

pub handed_over : HandedOver
handed_over =
    record {
      stops = stops_exactly;
      call_stops = call-stops;
      dtrexc = stopping_is_dtrexc;
      control = one-control;
      whole = never_parted;
      standard = exchange_is_dlanv2;
      triangular = stopping_on_triangular;
      lists = lists_of_moves;
      beyond = rows-beyond;
      strides = two-strides;
      sent_back = sent_back_lem;
      buffers_sent_back = buffers-sent_back;
      numbers_stay = numbers_stay;
      same_without = same_without_lem;
      steps_keep = steps_keep_lem;
      stepwise = all-stepwise;
      never_across = never_across_lem;
    }
