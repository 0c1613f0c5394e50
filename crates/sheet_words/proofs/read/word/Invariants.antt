-- `sheet_words::read::word` meets its contract. The invariant: the digits that are left, after the word so far, give the whole word. Assumes nothing.
use Rattle.std.proofs.Common.{◌≡◌, ◌+◌, ◌-◌, ◌*◌, ◌^◌, ◌<◌}
use Rattle.model.specs.Text.{digits_from}
use Rattle.sheet_words.proofs.read.word.Given as goal

abbrev pub invariant-loop-b : goal.invariant-loop-b
invariant-loop-b l = (l.word < 2 ^ (4 * l.b-index)) × (digits_from l.s (16 - l.b-index) (l.at + l.b-index) l.word ≡ digits_from l.s 16 l.at 0)
