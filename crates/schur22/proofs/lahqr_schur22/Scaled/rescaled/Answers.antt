-- `schur22::lahqr_schur22::Scaled::rescaled` meets its contract. Assumes nothing.
use Rattle.std.proofs.Common.{◌≡◌, ◌∙◌, ℕ, suc, ◌-◌, ◌<◌, true, false, arith, refl, sub-one, rules}
use Rattle.std.specs.Float.{binary64}
use Rattle.std.specs.Prelude.{zero, Float}
use Rattle.model.specs.Schur22.{Scaled, scale_of, bound_met, rescale, rescaled}
use Rattle.schur22.proofs.lahqr_schur22.Scaled.rescaled.Goals as goal

none : (left : ℕ) (s : Scaled) → left ≡ 0 → s ≡ rescaled binary64 left s
unfolding rescaled
none left s h = rw h

once : (left : ℕ) (scale : Float) (s t : Scaled) → 0 < left → scale ≡ scale_of s → true ≡ bound_met binary64 scale → t ≡ rescale binary64 scale s → rescaled binary64 (left - 1) t ≡ rescaled binary64 left s
unfolding rescaled
once zero scale s t h e b r = absurd (omega arith)
once (suc left) scale s t h e b r = rw (sub-one, r, ← e, ← b)

settled : (left : ℕ) (scale : Float) (s : Scaled) → scale ≡ scale_of s → false ≡ bound_met binary64 scale → s ≡ rescaled binary64 left s
unfolding rescaled
settled zero scale s e b = refl
settled (suc left) scale s e b = rw (← e, ← b)

pub loop-left-preserved : goal.loop-left-preserved
loop-left-preserved c =
    once _ _ _ _ (search rules) c.scale-scale.ensures c.if-not-bound_met.ensures c.rescale-s.ensures ∙ c.loop-left.invariant

pub returns-then-left-eq0 : goal.returns-then-left-eq0
returns-then-left-eq0 c = none _ _ c.if-left-eq0.true ∙ c.loop-left.invariant

pub returns-then-not-bound_met : goal.returns-then-not-bound_met
returns-then-not-bound_met c = settled _ _ _ c.scale-scale.ensures c.if-not-bound_met.ensures ∙ c.loop-left.invariant
