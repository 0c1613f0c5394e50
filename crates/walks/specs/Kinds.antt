-- What the exchange of a kind makes. Definitions only. Assumes nothing.
use Rattle.std.specs.Prelude.{◌≡◌, ℕ, ◌≤◌, not, ◌&&◌, List, eqb, Float, Result, Ok, Err, is_err}
use Rattle.model.specs.Stopping as Stopping
use Rattle.form.specs.declared.shape.Shape.{Shape}
use Rattle.swaps.specs.Done.{Step}
use Rattle.swaps.specs.declared.neighbours.Neighbours.{Neighbours}
use Rattle.walks.specs.declared.counts.Counts.{Counts}

-- what a result holds, on with it or not
abbrev pub either : {A : Type 0} → Result A A → A
either (Ok a) = a
either (Err a) = a

-- form and factor go from t and u to t₁ and u₁ as the kind's exchange has it, and r holds the counts, each `most` at
-- most, and is an Err exactly where a swap declined and the kind stops for that
pub record Made (k : Stopping.Kind) (most : ℕ) (s : Shape) (b : Neighbours) (t u t₁ u₁ : List Float) (r : Result Counts Counts) : Type 0 where
  pub step : Step s.ld s.n u t₁ u₁ (either r).swaps (either r).declined (k.exchange b.row b.n1 b.n2 t)
  pub few : (either r).swaps ≤ most
  pub fewer : (either r).declined ≤ most
  pub stops : is_err r ≡ (k.stops && not (eqb (either r).declined 0))
