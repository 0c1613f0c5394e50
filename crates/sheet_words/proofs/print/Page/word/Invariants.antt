-- `sheet_words::print::Page::word` meets its contract. The invariant: the digits that are left, before those that are written, give the word. Assumes nothing.
use Rattle.std.proofs.Common.{◌≡◌, ◌++◌, length, drop}
use Rattle.model.specs.Text.{hex_in, word}
use Rattle.sheet_words.proofs.print.Page.word.Given as goal

abbrev pub invariant-loop-i : goal.invariant-loop-i
invariant-loop-i l = (length l.digits ≡ 16) × (hex_in l.i l.left ++ drop l.i l.digits ≡ word l.w)
