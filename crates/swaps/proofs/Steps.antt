-- One step after another is the step of both. Assumes nothing.
use mathlib.Core.Path.{◌≡◌, refl, sym, ap, ◌∙◌}
use Prim.Native.Nat.{ℕ, ◌+◌}
use mathlib.Core.List.{List, [], ◌∷◌, ◌++◌}
use lib.ListN.{length}
use lib.Ieee.{Float, Format, binary64}
use Rattle.model.specs.Columns.{Operation, on_factor, on_columns}
use Rattle.model.specs.Exchange.{factor_rows}
use Rattle.model.specs.Swaps.{Change, swaps_of, declined_of, and_then}
use Rattle.laws.proofs.Runs.{swaps_then, declined_then}
use Rattle.swaps.specs.Done.{Done, Step}

on_factor-append : (f : Format) (ld k : ℕ) (a b : List Operation) (u : List Float) → on_factor f ld k (a ++ b) u ≡ on_factor f ld k b (on_factor f ld k a u)
unfolding on_factor
on_factor-append f ld k [] b u = refl
on_factor-append f ld k (o ∷ a) b u = on_factor-append f ld k a b (on_columns f ld k o u)

same_rows : (n : ℕ) (u v : List Float) → length u ≡ length v → factor_rows n u ≡ factor_rows n v
unfolding factor_rows
same_rows n u v e = rw e

pub done_then : {ld n : ℕ} {u t₁ u₁ t₂ u₂ : List Float} {c : Change} (next : List Float → Change)
    → Done ld n u t₁ u₁ c → length u₁ ≡ length u → Done ld n u₁ t₂ u₂ (next t₁) → Done ld n u t₂ u₂ (and_then c next)
unfolding and_then
done_then {ld} {n} {u} {t₁} {u₁} {t₂} {u₂} {c} next a e b =
    record {
      form = b.form ∙ ap (λ (t : List Float). (next t).form) a.form;
      factor =
          b.factor
          ∙ ap (λ (k : ℕ). on_factor binary64 ld k (next t₁).operations u₁) (same_rows n u₁ u e)
          ∙ ap (λ (v : List Float). on_factor binary64 ld (factor_rows n u) (next t₁).operations v) a.factor
          ∙ ap (λ (t : List Float). on_factor binary64 ld (factor_rows n u) (next t).operations (on_factor binary64 ld (factor_rows n u) c.operations u)) a.form
          ∙ sym (on_factor-append binary64 ld (factor_rows n u) c.operations (next c.form).operations u);
    }

pub step_then : {ld n : ℕ} {u t₁ u₁ t₂ u₂ : List Float} {s₁ d₁ s₂ d₂ : ℕ} {c : Change} (next : List Float → Change)
    → Step ld n u t₁ u₁ s₁ d₁ c → length u₁ ≡ length u → Step ld n u₁ t₂ u₂ s₂ d₂ (next t₁) → Step ld n u t₂ u₂ (s₁ + s₂) (d₁ + d₂) (and_then c next)
step_then {c = c} next a e b =
    record {
      done = done_then next a.done e b.done;
      swaps = rw (a.swaps, b.swaps) (ap (λ (t : List Float). swaps_of c + swaps_of (next t)) a.done.form) ∙ sym (swaps_then c next);
      declined = rw (a.declined, b.declined) (ap (λ (t : List Float). declined_of c + declined_of (next t)) a.done.form) ∙ sym (declined_then c next);
    }
