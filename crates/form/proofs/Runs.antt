-- A factor beside a form stays beside it while its length stays. Assumes nothing.
use mathlib.Core.Path.{◌≡◌, ◌∙◌}
use mathlib.Core.List.{List}
use mathlib.Core.Logic.{inl, inr, ⊎_elim}
use lib.ListN.{length}
use lib.Ieee.{Float}
use Rattle.form.specs.declared.shape.Shape.{Shape}
use Rattle.form.specs.Shaped.{Beside}

pub still : (s : Shape) {u v : List Float} → Beside s u → length v ≡ length u → Beside s v
still s b e = record { either = ⊎_elim (λ h. inl (e ∙ h)) (λ h. inr (e ∙ h)) b.either }
