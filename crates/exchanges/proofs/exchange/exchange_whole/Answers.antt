-- `exchanges::exchange::exchange_whole` meets its contract. Assumes nothing.
use Rattle.exchanges.proofs.Exchanges.{whole-step}
use Rattle.exchanges.proofs.exchange.exchange_whole.Goals as goal

pub returns : goal.returns
returns c =
    let w = c.swap_of-counts in (whole-step _ _ _ _ _ _ w.ensures.0 w.auto.u c.standardise_if.ensures c.standardise_if.auto.u c.standardise_if-2.ensures, w.ensures.1, w.ensures.2)
