-- `sheet_text::sheet::request_in` meets its contract. Assumes nothing.
use Rattle.std.proofs.Common.{sym, ◌∙◌, arith}
use Rattle.sheet_text.proofs.Whole.{too_long_lem, few, other_text, its_text, other_rows}
use Rattle.sheet_text.proofs.sheet.request_in.Goals as goal

pub returns-then-s-gt-TEXT_BYTES-clause-err : goal.returns-then-s-gt-TEXT_BYTES-clause-err
returns-then-s-gt-TEXT_BYTES-clause-err c = too_long_lem _ c.if-s-gt-TEXT_BYTES.true

pub is_text_of-requires : goal.is_text_of-requires
is_text_of-requires c = omega (arith, few _ _ c.read_request-r.ensures)

pub returns-then-not-is_text_of-clause-err : goal.returns-then-not-is_text_of-clause-err
returns-then-not-is_text_of-clause-err c =
    other_text _ _ c.read_request-r.ensures c.if-s-gt-TEXT_BYTES.false (sym c.is_text_of.ensures ∙ c.if-not-is_text_of.true)

pub returns-then-r-eq0-clause-err : goal.returns-then-r-eq0-clause-err
returns-then-r-eq0-clause-err c =
    let e = c.read_request-r.ensures in
    other_rows _ _ e (its_text _ _ e c.if-s-gt-TEXT_BYTES.false (sym c.is_text_of.ensures ∙ c.if-not-is_text_of.false)) c.then-r-eq0.either

pub returns-clause-ok : goal.returns-clause-ok
returns-clause-ok c =
    let e = c.read_request-r.ensures in
    (e, its_text _ _ e c.if-s-gt-TEXT_BYTES.false (sym c.is_text_of.ensures ∙ c.if-not-is_text_of.false), omega (arith, c.if-r-eq0.false), c.if-r-gt32.false)
