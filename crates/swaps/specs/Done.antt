-- What a step of the code leaves, against a change of the form as model has it. Assumes nothing.
use Rattle.std.specs.Prelude.{◌≡◌, ℕ, List, Float}
use Rattle.std.specs.Float.{binary64}
use Rattle.model.specs.Columns.{on_factor}
use Rattle.model.specs.Exchange.{factor_rows}
use Rattle.model.specs.Swaps.{Change, swaps_of, declined_of}

-- With u for the factor at entry, form and factor are now t₁ and u₁, what the change makes of them.
pub record Done (ld n : ℕ) (u t₁ u₁ : List Float) (c : Change) : Type 0 where
  pub form : t₁ ≡ c.form
  pub factor : u₁ ≡ on_factor binary64 ld (factor_rows n u) c.operations u

-- the same with counts of swaps and declines
pub record Step (ld n : ℕ) (u t₁ u₁ : List Float) (swaps₁ declined₁ : ℕ) (c : Change) : Type 0 where
  pub done : Done ld n u t₁ u₁ c
  pub swaps : swaps₁ ≡ swaps_of c
  pub declined : declined₁ ≡ declined_of c
