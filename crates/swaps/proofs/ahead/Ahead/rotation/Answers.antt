-- `swaps::ahead::Ahead::rotation` meets its contract: the known rotation is of patterns that are those of the two numbers. Assumes nothing.
use Rattle.std.proofs.Common.{rules}
use mathlib.Core.Path.{◌≡◌, ◌∙◌, sym}
use mathlib.Core.Bool.{true, ◌&&◌}
use Rattle.swaps.specs.Ahead.{same}
use Rattle.swaps.proofs.Patterns.{turn_known}
use Rattle.swaps.proofs.ahead.Ahead.rotation.Goals as goal

pub returns-in-Some : goal.returns-in-Some
returns-in-Some c =
    let k = c.in-Some.k in
    let h : (same k.p c.args.p && same k.q c.args.q) ≡ true = sym c.is_of.ensures ∙ c.if-is_of.true in
    k.is ∙ turn_known k.p k.q c.args.p c.args.q c.well_formed.1.0.1 c.well_formed.1.1.0.1 h
