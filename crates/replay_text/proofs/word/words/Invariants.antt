-- `replay_text::word::words` meets its contract. The invariant: the words from the place on, after those that `out` holds, are all words. Assumes nothing.
use Rattle.std.proofs.Common.{◌≡◌, ◌+◌, ◌-◌, ◌*◌, ◌≤◌, length}
use Rattle.replay_text.specs.Text.{words_from, words_of}
use Rattle.replay_text.proofs.word.words.Given as goal

abbrev pub invariant-loop-n : goal.invariant-loop-n
invariant-loop-n l =
    (l.n ≤ length l.out) × (length l.out ≡ length l.initial.out)
    × (words_from l.s (length l.out - l.n) (l.from + 17 * l.n) l.n l.out ≡ words_of l.s l.from l.initial.out)
