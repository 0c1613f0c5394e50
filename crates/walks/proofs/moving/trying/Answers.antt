-- `walks::moving::trying` meets its contract. Assumes nothing.
use mathlib.Core.Path.{refl}
use Rattle.walks.proofs.Ways.{one_more}
use Rattle.walks.proofs.moving.trying.Goals as goal

pub returns-in-Ok-clause-stands : goal.returns-in-Ok-clause-stands
returns-in-Ok-clause-stands g c = one_more _ _ _ _ c.in-Ok.ensures c.exchange.auto.u refl (rw c.add.ensures)

pub returns-in-Err-clause-stands : goal.returns-in-Err-clause-stands
returns-in-Err-clause-stands g c = one_more _ _ _ _ c.in-Err.ensures c.exchange.auto.u refl (rw c.add-in-Err.ensures)
