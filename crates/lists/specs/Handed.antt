-- What is handed over with `reorder_schur_list`: claims about the very `list_call` that its contract cites.
-- They are proved in laws_lists, on which this crate rests, so that the call is not built without them. Definitions only: proofs/Handed.antt has the proof. Assumes nothing.
use Rattle.laws_lists.specs.Turns.{InTurn, TwelveAlone, CheckedOnce}
use Rattle.laws_lists.specs.Rule.{ListsOfCalls}
use Rattle.laws_lists.specs.Keeps.{ListBeyond, ListStrides, ListSentBack, ListSameWithout}

pub record HandedOver : Type 0 where
  -- it is the single calls made in turn; 12 is the only other number that it answers
  pub in_turn : InTurn
  pub twelve : TwelveAlone
  -- what turns its pairs away but for line 7 is seen before the first
  pub checked : CheckedOnce
  -- the rule on lists has it, among single moves of either kind
  pub lists : ListsOfCalls
  -- rows from n on stay, and two strides give the same
  pub beyond : ListBeyond
  pub strides : ListStrides
  -- what it gives back can be sent to any call again; form and results are the same with a factor and without
  pub sent_back : ListSentBack
  pub same_without : ListSameWithout
