-- `walks::walk::walk_up` meets its contract. Assumes nothing.
use mathlib.Core.Path.{◌≡◌}
use Prim.Native.Nat.{ℕ, ◌+◌, ◌-◌, ◌*◌, ◌≤◌}
use mathlib.Core.List.{List}
use lib.ListN.{length}
use lib.Ieee.{Float, binary64}
use Rattle.model.specs.Move as Move
use Rattle.model.specs.Stopping.{walk_up}
use Rattle.walks.specs.Stands.{Stands, rows}
use Rattle.walks.proofs.Loops.{Left}
use Rattle.walks.proofs.walk.walk_up.Given as goal

abbrev pub invariant-loop-on : goal.invariant-loop-on
invariant-loop-on g l =
    let k = g.K.Kind.kind l.s.ld l.s.n in
    (length l.t ≡ length l.initial.t)
    × (length l.u ≡ length l.initial.u)
    × (l.on.here + rows l.on.block ≤ l.s.n)
    × (l.on.counts.swaps ≤ 12 * (l.s.n - l.on.here))
    × (l.on.counts.declined ≤ 12 * (l.s.n - l.on.here))
    × ((v : List Float) (M : Move.Moving) → Stands l.s v l.initial.t l.initial.u l.initial.on M
    → Left (λ (i : ℕ). walk_up k i binary64 l.s.ld l.s.n l.goal) (l.on.here - l.goal) l.s v l.t l.u l.on (walk_up k l.s.n binary64 l.s.ld l.s.n l.goal M))

abbrev pub decreases-loop-on : goal.decreases-loop-on
decreases-loop-on g l = l.on.here
