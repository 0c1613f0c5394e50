-- `sheet_words::print::Page::spaced` meets its contract. The invariant: so many words are put. Assumes nothing.
use Rattle.std.proofs.Common.{◌≡◌, ◌+◌, ◌*◌, take}
use Rattle.model.specs.Text.{spaced}
use Rattle.sheet_words.specs.Page.{Puts}
use Rattle.sheet_words.proofs.print.Page.spaced.Given as goal

abbrev pub invariant-loop-word : goal.invariant-loop-word
invariant-loop-word l = (l.self.at ≡ l.initial.self.at + 17 * l.word-index) × Puts l.initial.self (spaced (take l.word-index l.words)) l.self
