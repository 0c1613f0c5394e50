-- `tries::exchange::try_swap` meets its contract. Assumes nothing.
use Rattle.swaps.proofs.Sizes.{two1, two2}
use Rattle.tries.proofs.Tries.{pair}
use Rattle.tries.proofs.exchange.try_swap.Goals as goal

pub returns : goal.returns
returns c =
    rw (two1 c.args.b c.if-b-eq1.false, two2 c.args.b c.if-b-eq1-2.false) (pair _ _ _ _ c.schur_swap_22.ensures.0 c.schur_swap_22.ensures.1)
