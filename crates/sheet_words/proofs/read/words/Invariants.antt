-- `sheet_words::read::words` meets its contract. The invariant: the words that are read, and then those that are left, are the whole; what stands after stays. Assumes nothing.
use Rattle.std.proofs.Common.{◌≡◌, ◌++◌, ◌+◌, ◌-◌, ◌*◌, length, take, drop}
use Rattle.model.specs.Text.{words_at}
use Rattle.sheet_words.proofs.read.words.Given as goal

abbrev pub invariant-loop-n : goal.invariant-loop-n
invariant-loop-n l =
    (take l.n l.out ++ words_at l.s (length l.initial.out - l.n) (l.at + 17 * l.n) ≡ words_at l.s (length l.initial.out) l.at) × (drop l.n l.out ≡ drop l.n l.initial.out)
