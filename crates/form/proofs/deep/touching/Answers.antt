-- `form::deep::touching` meets its contract. Assumes nothing.
use Rattle.std.proofs.Common.{rules, ◌∙◌, ◌-◌}
use borrow.Author.Tests.{tests}
use lib.Ieee.{binary64}
use Rattle.std.proofs.lemmas.Iterator.{YieldsList-from_range}
use Rattle.std.proofs.lemmas.Iterator.Search.{any_from_yields_List}
use Rattle.model.specs.Form.{touching_in, line6}
use Rattle.form.proofs.Some.{any_of_range}
use Rattle.form.proofs.deep.touching.Goals as goal

pub returns : goal.returns
unfolding line6 touching_in
returns c =
    let p = touching_in binary64 c.args.s.ld c.args.t.now in
    let n = c.args.s.n - 2 in
    any_from_yields_List p _ _ c.any.result c.any.ensures.ran (YieldsList-from_range 0 n n (search rules) (search rules)) (λ x b q k. search (rules, tests))
    ∙ any_of_range p n
