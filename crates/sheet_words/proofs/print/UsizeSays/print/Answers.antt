-- `sheet_words::print::UsizeSays::print` meets its contract. Assumes nothing.
use Rattle.std.proofs.Common.{◌∙◌, arith}
use Rattle.sheet_words.proofs.Numerals.{decimal_is}
use Rattle.sheet_words.proofs.Page.{as_text}
use Rattle.sheet_words.proofs.print.UsizeSays.print.Goals as goal

pub returns : goal.returns
returns c =
    let e = c.as_bytes.ensures.value ∙ c.format.ensures.text ∙ decimal_is 19 c.args.self (omega arith) (omega arith) in
    (omega (arith, c.format.ensures.fits), as_text e c.put.ensures)
