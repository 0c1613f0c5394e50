-- What is handed over with a list of moves at once, proved where it is claimed. Assumes nothing.
use Rattle.laws_lists.proofs.Turns.{in_turn_lem, twelve_alone, checked_once}
use Rattle.laws_lists.proofs.Rule.{lists_of_calls}
use Rattle.laws_lists.proofs.Keeps.{list-beyond, list_strides, list_sent_back, list_same_without}
use Rattle.lists.specs.Handed.{HandedOver}

pub handed_over : HandedOver
handed_over =
    record {
      in_turn = in_turn_lem;
      twelve = twelve_alone;
      checked = checked_once;
      lists = lists_of_calls;
      beyond = list-beyond;
      strides = list_strides;
      sent_back = list_sent_back;
      same_without = list_same_without;
    }
