-- `sheet_text::sheet::is_text_of` meets its contract. Assumes nothing.
use Rattle.std.proofs.Common.{ap, ◌∙◌}
use Rattle.model.specs.Text.{same}
use Rattle.sheet_text.proofs.Whole.{put_front, same_is}
use Rattle.sheet_text.proofs.sheet.is_text_of.Goals as goal

pub returns : goal.returns
returns c = c.eq.ensures ∙ same_is _ _ ∙ ap (same c.args.s.now) (put_front _ _ _ _ c.put_request-k.ensures.1)
