-- `sheet_text::sheet::read_request` meets its contract. Assumes nothing.
use Rattle.std.proofs.Common.{◌≡◌, length, rules}
use Rattle.model.specs.Text.{word_room}
use Rattle.sheet_text.proofs.Whole.{said}
use Rattle.sheet_text.proofs.sheet.read_request.Goals as goal

pub returns : goal.returns
returns c =
    let t : length c.args.t.now ≡ word_room = search rules in
    let u : length c.args.u.now ≡ word_room = search rules in
    said _ _ _ _ _ _ _ _ _ _ _ _ _ _ c.number-n.ensures.0 c.number-from.ensures.0 c.number-to.ensures.0
    (rw t at c.words-form.ensures.1) c.factor_place.ensures.0 (rw u at c.words-factor.ensures.1)
