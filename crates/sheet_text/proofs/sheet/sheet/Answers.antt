-- `sheet_text::sheet::sheet` meets its contract. Assumes nothing.
use Rattle.std.proofs.Common.{ap, ◌∙◌}
use Rattle.model.specs.Text.{answer_line, sheet_of}
use Rattle.sheet_words.proofs.Put.{as_list}
use Rattle.sheet_text.proofs.Whole.{as_before_lem, no_room, room}
use Rattle.sheet_text.proofs.sheet.sheet.Goals as goal

pub returns-then-out-lt-SHEET_ROOM-clause-call : goal.returns-then-out-lt-SHEET_ROOM-clause-call
returns-then-out-lt-SHEET_ROOM-clause-call c = no_room _ _ c.if-out-lt-SHEET_ROOM.true

pub returns-in-Ok-clause-call : goal.returns-in-Ok-clause-call
returns-in-Ok-clause-call c = room _ _ _ _ c.if-out-lt-SHEET_ROOM.false c.in-Ok.ensures.ok

pub returns-in-Err-clause-call : goal.returns-in-Err-clause-call
returns-in-Err-clause-call c =
    let e = c.in-Err.ensures.err in
    room _ _ _ _ c.if-out-lt-SHEET_ROOM.false
    (as_before_lem _ _ (sheet_of c.args.input.now) _ _ _ e.0 (as_list _ _ _ _ _ _ (ap answer_line c.from.ensures ∙ e.1) c.put_answer.ensures.1))
