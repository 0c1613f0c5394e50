-- `walks::moving::Moving::landed_whole` meets its contract. Assumes nothing.
use mathlib.Core.Path.{◌≡◌, refl}
use Rattle.std.proofs.Common.{rules}
use Rattle.walks.specs.declared.moving.Block.TheVariants.{Two}
use Rattle.walks.proofs.Ways.{lands, not_two}
use Rattle.walks.proofs.moving.Moving.landed_whole.Goals as goal
use Rattle.walks.proofs.moving.Moving.landed_whole.Goals.{else-eq-via-then-eq+else-zero_below, else-eq-via-else-eq}

pub returns-then-zero_below-clause-stands : goal.returns-then-zero_below-clause-stands
returns-then-zero_below-clause-stands c =
    let q : c.args.self.block ≡ Two = search rules in
    λ u₀ u M a. lands _ a refl refl (rw (q, ← c.zero_below.ensures, c.if-zero_below.true))

pub returns-clause-stands : goal.returns-clause-stands
returns-clause-stands c =
    λ u₀ u M a. rw c.arrived.ensures (lands _ a refl refl (elim c.else-eq.branch [ else-eq-via-then-eq+else-zero_below w ↦ let q : c.args.self.block ≡ Two = search rules in rw (q, ← w.zero_below.ensures, w.if-zero_below.false) | else-eq-via-else-eq w ↦ let q : c.args.self.block ≡ Two → ⊥ = λ e. search rules in rw (not_two _ q) ]))
