-- `exchanges::exchange::exchange` meets its contract. Whenever the loop's test is reached, form, factor and counts are what some rounds of the loop of laws_exchange have made, and the rounds that are left make the exchange of them (`Reached`).
-- The measure is how many rounds are left at most. Assumes nothing.
use mathlib.Core.Path.{◌≡◌}
use lib.ListN.{length}
use lib.Ieee.{binary64}
use Rattle.model.specs.Exchange.{exchange}
use Rattle.exchanges.specs.Todo.{waiting}
use Rattle.exchanges.proofs.Exchanges.{Reached, left}
use Rattle.exchanges.proofs.exchange.exchange.Given as goal

abbrev pub invariant-loop-b : goal.invariant-loop-b
invariant-loop-b l =
    (length l.t ≡ length l.initial.t)
    × Reached l.s.ld l.s.n l.initial.u l.t l.u (waiting l.todo.items) l.counts.swaps l.counts.declined (exchange binary64 l.s.ld l.s.n l.fn.b.row l.fn.b.n1 l.fn.b.n2 l.initial.t)

abbrev pub decreases-loop-b : goal.decreases-loop-b
decreases-loop-b l = left (waiting l.todo.items)
