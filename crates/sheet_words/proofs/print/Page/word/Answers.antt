-- `sheet_words::print::Page::word` meets its contract. Assumes nothing.
use Rattle.std.proofs.Common.{arith, ◌∙◌, length-set}
use Rattle.sheet_words.proofs.Page.{as_text}
use Rattle.sheet_words.proofs.Numerals.{hex_next, hex_done}
use Rattle.sheet_words.proofs.print.Page.word.Goals as goal

pub loop-i-preserved : goal.loop-i-preserved
loop-i-preserved c =
    let l = c.loop-i in
    (simp length-set l.invariant.0, hex_next l.digits _ _ _ c.loop-i-test.true (omega (arith, l.invariant.0)) c.glyph.ensures ∙ l.invariant.1)

pub returns : goal.returns
returns c = (omega (arith, c.loop-i.invariant.0), as_text (hex_done _ _ _ _ c.loop-i-test.false c.loop-i.invariant.1) c.put.ensures)
