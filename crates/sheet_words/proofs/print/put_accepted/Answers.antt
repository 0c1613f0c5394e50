-- `sheet_words::print::put_accepted` meets its contract, line by line. Assumes nothing.
use Rattle.std.proofs.Common.{rules}
use Rattle.model.specs.Text.{accepted}
use Rattle.sheet_words.proofs.Page.{puts_then}
use Rattle.sheet_words.proofs.print.put_accepted.Goals as goal

pub returns : goal.returns
unfolding accepted
returns c =
    let p =
    puts_then (puts_then (puts_then (puts_then (puts_then c.line.ensures.1 c.line-2.ensures.1) c.line-3.ensures.1) c.line-4.ensures.1)
    c.line-5.ensures.1) c.line-6.ensures.1 in
    search (rules, p)
