-- `exchanges::exchange::exchange_straight` meets its contract. Assumes nothing.
use lib.Dec.{lit≤}
use Rattle.swaps.proofs.Sizes.{one1, one2}
use Rattle.exchanges.proofs.Exchanges.{single_step}
use Rattle.exchanges.proofs.exchange.exchange_straight.Goals as goal

pub returns-then-b-eq2 : goal.returns-then-b-eq2
returns-then-b-eq2 c =
    let x = c.schur_swap_11 in
    let b = c.args.b in
    let e = c.if-b-eq2.true in
    rw (one1 b e, one2 b e, c.of_one.ensures) (single_step _ _ _ _ x.ensures x.auto.u, lit≤ tt, lit≤ tt)
