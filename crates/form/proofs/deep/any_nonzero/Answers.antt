-- `form::deep::any_nonzero` meets its contract. Assumes nothing.
use Rattle.std.proofs.Common.{rules, ◌∙◌, ◌||◌, Bool}
use borrow.Author.Tests.{tests}
use lib.Ieee.{Float, binary64, ne, of_bits, nan}
use Rattle.std.proofs.lemmas.Iterator.{YieldsList-from_slice}
use Rattle.std.proofs.lemmas.Iterator.Consumers.{fold_from_yields_List}
use Rattle.form.proofs.Some.{fold_of_list}
use Rattle.form.proofs.deep.any_nonzero.Goals as goal

pub returns : goal.returns
returns c =
    let p = λ (x : Float). ne x (of_bits binary64 0) in
    fold_from_yields_List _ (λ (b : Bool) (x : Float). b || p x) _ c.fold.result c.fold.ensures.ran (YieldsList-from_slice c.args.xs.now cc) (λ a x b q k. search (rules, tests))
    ∙ fold_of_list p nan c.args.xs.now
