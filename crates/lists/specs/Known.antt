-- What is known of form and factor before a pair. Definitions only. Assumes nothing.
use Rattle.std.specs.Prelude.{◌≡◌, ℕ, List, Float, Result, IfOk}
use Rattle.std.specs.Float.{binary64}
use Rattle.refusal.specs.Line.{answer}
use Rattle.refusal.specs.declared.Refusal.{Refusal}
use Rattle.form.specs.declared.shape.Shape.{Shape}
use Rattle.form.specs.Shaped.{IsOf, Beside}
use Rattle.laws_lists.specs.Turns.{lent_line}

-- which line turns them away by themselves, or that none does and the form has a shape
pub record Known (form : Result Shape Refusal) (n ld : ℕ) (t u : List Float) : Type 0 where
  pub line : answer form ≡ lent_line binary64 ld n t u
  pub shape : IfOk form (λ s. IsOf s n ld t × Beside s u)
