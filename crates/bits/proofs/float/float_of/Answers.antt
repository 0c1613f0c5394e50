-- `bits::float::float_of` meets its contract. Assumes nothing.
use mathlib.Core.Path.{sym, ◌∙◌}
use lib.Ieee.{of_bits}
use Rattle.bits.proofs.Nan.{word_nan}
use Rattle.bits.proofs.float.float_of.Goals as goal

pub returns-then-is_nan : goal.returns-then-is_nan
unfolding of_bits
returns-then-is_nan c = sym (word_nan _ (sym c.is_nan.ensures ∙ c.if-is_nan.true))
