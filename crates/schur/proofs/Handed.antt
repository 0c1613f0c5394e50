-- What is handed over with the move and the exchange holds. Assumes nothing.
use Rattle.model.specs.Move.{move_call}
use Rattle.laws_moves.proofs.Lists.{lists_of_moves, lists_of_one_kind}
use Rattle.laws_dtrexc.proofs.Choice.{dtrexc-choice}
use Rattle.laws_dtrexc.proofs.Zeros.{choice_reads_zeros, dtrexc-same_zeros}
use Rattle.laws_exchange.proofs.Counts.{counts-of_exchange}
use Rattle.laws_stride.proofs.Lines.{move_passed}
use Rattle.laws_stride.proofs.Base.{stride_is_n_lem}
use Rattle.laws_stride.proofs.Strides.{rows-beyond, two-strides, like_base_lem}
use Rattle.laws_shape.proofs.Steps.{steps_keep_lem}
use Rattle.laws_shape.proofs.Meets.{all-stepwise, never_across_lem}
use Rattle.laws_shape.proofs.Chains.{sent_back_lem, buffers-sent_back, numbers_stay, same_without_lem}
use Rattle.schur.specs.Handed.{CallsChoose, HandedOver}

calls_choose : CallsChoose
unfolding move_call
calls_choose f ld n t u from to h =
    let p = move_passed f ld n t u from to h in
    record { call = rw h; choice = dtrexc-choice f ld n from to t p.1 p.2 }

pub handed_over : HandedOver
handed_over =
    record {
      lists = lists_of_one_kind;
      lists_of_both = lists_of_moves;
      choice = calls_choose;
      zeros = choice_reads_zeros;
      same_zeros = dtrexc-same_zeros;
      counts = counts-of_exchange;
      beyond = rows-beyond;
      strides = two-strides;
      stride_is_n = stride_is_n_lem;
      like_base = like_base_lem;
      sent_back = sent_back_lem;
      buffers_sent_back = buffers-sent_back;
      numbers_stay = numbers_stay;
      same_without = same_without_lem;
      steps_keep = steps_keep_lem;
      stepwise = all-stepwise;
      never_across = never_across_lem;
    }
