-- `replay_text::word::word` meets its contract. The invariant: the digits that are left, after the word so far, give the whole word. Assumes nothing.
use Rattle.std.proofs.Common.{◌≡◌, ◌+◌, ◌-◌, ◌*◌, ◌^◌, ◌<◌}
use Rattle.replay_text.specs.Text.{digits_from}
use Rattle.replay_text.proofs.word.word.Given as goal

abbrev pub invariant-loop-b : goal.invariant-loop-b
invariant-loop-b l =
    (l.word < 2 ^ (4 * l.b-index)) × (digits_from l.place (16 - l.b-index) (1 + l.b-index) l.word ≡ digits_from l.place 16 1 0)
