-- The loops of a walk: with i steps left, going on from where it stands gives the whole. Assumes nothing.
use mathlib.Core.Path.{◌≡◌, refl, sym, ◌∙◌}
use Prim.Native.Nat.{ℕ, zero, suc, ◌≤◌, ◌<◌}
use native.Mathlib.Omega.{arith}
use mathlib.Core.List.{List}
use lib.Ieee.{Float, Format}
use borrow.Author.Tests.{lt-ltb, le-ltb}
use Rattle.std.proofs.Common.{Ok, Err}
use Rattle.model.specs.Move as Move
use Rattle.model.specs.Stopping as Stopping
use Rattle.model.specs.Stopping.{Kind, goes, onward, step_down, walk_down, step_up, walk_up}
use Rattle.form.specs.declared.shape.Shape.{Shape}
use Rattle.walks.specs.declared.moving.Moving.{Moving}
use Rattle.walks.specs.Stands.{Stands, Stood, Takes}
use Rattle.walks.proofs.Ways.{stood_as, rests, goes_on_lem}

-- what is left of a walk by its steps, `far` the rows to the goal
pub record Left (walk : ℕ → Move.Moving → Stopping.Going) (far : ℕ) (s : Shape) (u₀ t u : List Float) (m : Moving) (whole : Stopping.Going) : Type 0 where
  pub i : ℕ
  pub on : Move.Moving
  pub near : far ≤ i
  pub stands : Stands s u₀ t u m on
  pub gives : walk i on ≡ whole

module _ (walk : ℕ → Move.Moving → Stopping.Going) (step : Move.Moving → Stopping.Going) {far : ℕ} {s : Shape} {u₀ t u t₁ u₁ : List Float} {m r : Moving} {whole : Stopping.Going} (w : Left walk far s u₀ t u m whole) where
  -- a step that goes on
  pub more : 0 < far → (far₁ : ℕ) → far₁ < far → ((i : ℕ) (M : Move.Moving) → m.here ≡ M.here → walk (suc i) M ≡ onward (step M) (walk i)) → Takes s t u m t₁ u₁ (Ok r) step
      → Left walk far₁ s u₀ t₁ u₁ r whole
  more p far₁ l by f = go w.i w.near w.gives
    where
      go : (i : ℕ) → far ≤ i → walk i w.on ≡ whole → Left walk far₁ s u₀ t₁ u₁ r whole
      go zero a b = absurd (omega arith)
      go (suc i) a b =
          let x = f u₀ w.on w.stands in
          let S = step w.on in
          record { i = i; on = S.moving; near = omega arith; stands = x.stands; gives = goes_on_lem S (walk i) (sym x.stopped) ∙ sym (by i w.on w.stands.here) ∙ b }

  -- a step that stops
  pub stops : 0 < far → ((i : ℕ) (M : Move.Moving) → m.here ≡ M.here → walk (suc i) M ≡ onward (step M) (walk i)) → Takes s t u m t₁ u₁ (Err r) step → Stood s u₀ t₁ u₁ (Err r) whole
  stops p by f = go w.i w.near w.gives
    where
      go : (i : ℕ) → far ≤ i → walk i w.on ≡ whole → Stood s u₀ t₁ u₁ (Err r) whole
      go zero a b = absurd (omega arith)
      go (suc i) a b =
          let x = f u₀ w.on w.stands in
          stood_as (rests (step w.on) (walk i) (sym x.stopped) ∙ sym (by i w.on w.stands.here) ∙ b) x

pub ends : {walk : ℕ → Move.Moving → Stopping.Going} {far : ℕ} {s : Shape} {u₀ t u : List Float} {m : Moving} {whole : Stopping.Going} → Left walk far s u₀ t u m whole
    → ((i : ℕ) (M : Move.Moving) → m.here ≡ M.here → walk i M ≡ goes M) → Stood s u₀ t u (Ok m) whole
ends w by = stood_as (sym (by w.i w.on w.stands.here) ∙ w.gives) (record { stopped = refl; stands = w.stands })

-- ---- down and up
module _ (k : Kind) (f : Format) (ld n goal h : ℕ) where
  pub down-more : h < goal → (i : ℕ) (M : Move.Moving) → h ≡ M.here → walk_down k (suc i) f ld n goal M ≡ onward (step_down k f ld n M) (walk_down k i f ld n goal)
  unfolding walk_down
  down-more l i M e = rw (← e, lt-ltb h goal l)

  pub down_ends : goal ≤ h → (i : ℕ) (M : Move.Moving) → h ≡ M.here → walk_down k i f ld n goal M ≡ goes M
  unfolding walk_down
  down_ends l zero M e = refl
  down_ends l (suc i) M e = rw (← e, le-ltb h goal l)

  pub up_more : goal < h → (i : ℕ) (M : Move.Moving) → h ≡ M.here → walk_up k (suc i) f ld n goal M ≡ onward (step_up k f ld n M) (walk_up k i f ld n goal)
  unfolding walk_up
  up_more l i M e = rw (← e, lt-ltb goal h l)

  pub up_ends : h ≤ goal → (i : ℕ) (M : Move.Moving) → h ≡ M.here → walk_up k i f ld n goal M ≡ goes M
  unfolding walk_up
  up_ends l zero M e = refl
  up_ends l (suc i) M e = rw (← e, le-ltb goal h l)
