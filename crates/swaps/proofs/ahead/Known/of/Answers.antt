-- `swaps::ahead::Known::of` meets its contract: a number is that of its pattern. Assumes nothing.
use Rattle.swaps.proofs.Patterns.{of_own}
use Rattle.swaps.proofs.ahead.Known.of.Goals as goal

pub invariant_of-result : goal.invariant_of-result
invariant_of-result c = record { is = rw (of_own c.args.p c.well_formed.0.1, of_own c.args.q c.well_formed.1.0.1) c.rotation_of.ensures }

pub returns : goal.returns
returns c = (of_own c.args.p c.well_formed.0.1, of_own c.args.q c.well_formed.1.0.1)
