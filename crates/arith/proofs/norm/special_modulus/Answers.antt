-- `arith::norm::special_modulus` meets its contract. Assumes nothing.
use lib.Ieee.{binary64, of_bits}
use Rattle.arith.proofs.Hypot.{hypot_infinite, hypot_nan}
use Rattle.arith.proofs.norm.special_modulus.Goals as goal

pub returns-then-is_infinite : goal.returns-then-is_infinite
unfolding of_bits
returns-then-is_infinite c =
    hypot_infinite binary64 _ _ (rw (c.is_infinite.ensures.value, c.is_infinite-2.ensures.value) at c.if-is_infinite.true)

pub returns-else-is_infinite : goal.returns-else-is_infinite
unfolding of_bits
returns-else-is_infinite c =
    hypot_nan binary64 _ _ (rw (c.is_infinite.ensures.value, c.is_infinite-2.ensures.value) at c.if-is_infinite.false) c.requires
