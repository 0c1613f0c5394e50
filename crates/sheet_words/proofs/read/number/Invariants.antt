-- `sheet_words::read::number` meets its contract. The invariant: the digits that are left, after the number so far, give the whole number. Assumes nothing.
use Rattle.std.proofs.Common.{◌≡◌, ◌+◌, ◌-◌, ◌^◌, ◌<◌}
use Rattle.model.specs.Text.{number_at}
use Rattle.sheet_words.proofs.read.number.Given as goal

abbrev pub invariant-loop-next : goal.invariant-loop-next
invariant-loop-next l = (l.value < 10 ^ (l.next - l.at)) × (number_at l.s (l.at + 4 - l.next) l.value l.next ≡ number_at l.s 4 0 l.at)
