-- What is handed over with `reorder_schur`: the rule on lists of moves, and dtrexc's choice, both about the very `move_call` that its contract cites; and with `schur_swap` how many swaps the `exchange_call` of its contract counts; and with both what a stride changes in them, and what it does not, and that what they give back can be sent to any call again.
-- They are proved in laws_moves, laws_dtrexc, laws_exchange, laws_stride and laws_shape, on which this crate rests, so that move and exchange are not built without them. Definitions only: proofs/Handed.antt has the proof. Assumes nothing.
use Rattle.std.specs.Prelude.{ℕ, ◌≡◌, List, Float}
use Rattle.std.specs.Float.{Format}
use Rattle.model.specs.Move.{move_line, moved, move, move_call}
use Rattle.laws_moves.specs.Lists.{ListsOfMoves, ListsOfOneKind}
use Rattle.laws_dtrexc.specs.Choice.{lapack, SameChoice}
use Rattle.laws_dtrexc.specs.Zeros.{ChoiceReadsZeros, DtrexcSameZeros}
use Rattle.laws_exchange.specs.Counts.{CountsOfExchange}
use Rattle.laws_stride.specs.Beyond.{RowsBeyond}
use Rattle.laws_stride.specs.Strides.{TwoStrides, LikeBase}
use Rattle.laws_stride.specs.Base.{StrideIsN}
use Rattle.laws_shape.specs.Steps.{StepsKeep, AllStepwise}
use Rattle.laws_shape.specs.Meets.{NeverAcross}
use Rattle.laws_shape.specs.Chains.{SentBack, BuffersSentBack, NumbersStay, SameWithout}

-- a call that no line turns away is the move whose exchanges are dtrexc's
pub record Chosen (f : Format) (ld n : ℕ) (t u : List Float) (from to : ℕ) : Type 0 where
  pub call : move_call f ld n t u from to ≡ moved f ld n u (move f ld n from to t)
  pub choice : SameChoice f ld n t (move f ld n from to t) (lapack f ld n from to t)

abbrev pub CallsChoose : Type 0
CallsChoose = (f : Format) (ld n : ℕ) (t u : List Float) (from to : ℕ) → move_line f ld n t u from to ≡ 0 → Chosen f ld n t u from to

pub record HandedOver : Type 1 where
  -- demand 3, whose lists are lists of `move_call`; and with the move that stops among them
  pub lists : ListsOfOneKind
  pub lists_of_both : ListsOfMoves
  -- dtrexc's choice, of each accepted `move_call`
  pub choice : CallsChoose
  -- of the move that such a call is: each exchange is chosen by the zeros at that moment, and as dtrexc on any form with zeros at the same places chooses it
  pub zeros : ChoiceReadsZeros
  pub same_zeros : DtrexcSameZeros
  -- one to four swaps, of each accepted `exchange_call`
  pub counts : CountsOfExchange
  -- rows from n on stay; two strides give the same; with the stride n each call is what it was, and at any stride what that is on the corner copied out
  pub beyond : RowsBeyond
  pub strides : TwoStrides
  pub stride_is_n : StrideIsN
  pub like_base : LikeBase
  -- after any chain of these calls and of the move that stops, the form, and the buffers beside it, can be sent to any call again, and numbers of the format stay such; form and answers are the same with a factor and without
  pub sent_back : SentBack
  pub buffers_sent_back : BuffersSentBack
  pub numbers_stay : NumbersStay
  pub same_without : SameWithout
  -- each run leaves an accepted form, and no move makes an exchange across a 2-block
  pub steps_keep : StepsKeep
  pub stepwise : AllStepwise
  pub never_across : NeverAcross
