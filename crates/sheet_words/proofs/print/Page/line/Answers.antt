-- `sheet_words::print::Page::line` meets its contract. Assumes nothing.
use Rattle.std.proofs.Common.{arith}
use Rattle.sheet_words.proofs.Page.{puts_then}
use Rattle.sheet_words.proofs.print.Page.line.Goals as goal

pub returns : goal.returns
returns g c = (omega arith, puts_then (puts_then c.put.ensures c.print.ensures.1) c.put-2.ensures)
