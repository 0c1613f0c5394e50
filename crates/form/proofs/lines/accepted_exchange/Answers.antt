-- `form::lines::accepted_exchange` meets its contract. Assumes nothing.
use Rattle.model.specs.Exchange.{line8, line9}
use Rattle.model.specs.Form.{line7}
use Rattle.form.proofs.Accepted.{exchange_on}
use borrow.Author.Tests.{lt-ltb}
use Rattle.form.proofs.lines.accepted_exchange.Goals as goal

pub returns-then-n-j0-2-clause-line : goal.returns-then-n-j0-2-clause-line
unfolding line7 line8 line9
returns-then-n-j0-2-clause-line c =
    rw (exchange_on _ _ _ _ _ _ _ _ c.in_ok-s.ensures.line, lt-ltb _ _ c.if-n-j0.false, ← c.if-not-sizes_fit.ensures, lt-ltb _ _ c.if-n-j0-2.true)
