-- A request as the model has it. Definitions only. Assumes nothing.
use Rattle.model.specs.Text as Text
use Rattle.sheet_words.specs.declared.request.Request.{Request}

abbrev pub request : Request → Text.Request
request r = record { n = r.n; from = r.from; to = r.to; form = r.form.now; factor = r.factor.now }
