-- The claim on the runs of a change: each run of a swap, and each standardising between two of them, leaves a form that no line turns away, if no 2-block lies across the edges of its rows; and every exchange and move of an accepted form is made of such steps. Definitions only: proofs/Steps.antt and proofs/Meets.antt prove it. Assumes nothing.
-- All over the format and the stride, whatever numbers stand in the form.
use Rattle.std.specs.Prelude.{ℕ, ◌+◌, ◌≤◌, ◌≡◌, false, cond, List, [], ◌∷◌, Float}
use Rattle.std.specs.Float.{Format}
use Rattle.model.specs.Form.{form_line}
use Rattle.model.specs.Schur22.{Block}
use Rattle.model.specs.Swaps.{Swap, Change, swap_of, standardise_by}
use Rattle.model.specs.Exchange.{line8, line9, crosses, line10, exchange_line, exchange}
use Rattle.model.specs.Move.{move_line, move}
use Rattle.model.specs.Stopping.{stopping_move}

-- ---- steps of a change

-- a run of one of the four swap routines, or the two rows from a row on standardised to some block
pub data Step : Type 0 where
  runs : Swap → Step
  standardises : ℕ → Block → Step

-- what a step makes of a form: a run that declined leaves it, any other is 01's swap
unfoldable pub stepped : Format → ℕ → ℕ → Step → List Float → List Float
stepped f ld n (runs r) t = cond r.declined t (swap_of f ld n r.row r.n1 r.n2 t).form
stepped f ld n (standardises j b) t = (standardise_by f ld n j b t).form

-- one after the other
unfoldable pub stepped_by : Format → ℕ → ℕ → List Step → List Float → List Float
stepped_by f ld n [] t = t
stepped_by f ld n (s ∷ ss) t = stepped_by f ld n ss (stepped f ld n s t)

-- the runs among them, in order
unfoldable pub runs_of : List Step → List Swap
runs_of [] = []
runs_of (runs r ∷ ss) = r ∷ runs_of ss
runs_of (standardises j b ∷ ss) = runs_of ss

-- ---- a step that fits a form

-- lines 8, 9 and 10 do not apply to a run
pub record RunFits (f : Format) (ld n : ℕ) (t : List Float) (r : Swap) : Type 0 where
  pub sizes : line8 r.n1 r.n2 ≡ false
  pub rows : line9 n r.row r.n1 r.n2 ≡ false
  pub edges : line10 f ld n t r.row r.n1 r.n2 ≡ false

-- no 2-block lies across the edges of the two rows from row j on
pub record RowsFit (f : Format) (ld n : ℕ) (t : List Float) (j : ℕ) : Type 0 where
  pub rows : j + 2 ≤ n
  pub upper : crosses f ld n t j ≡ false
  pub lower : crosses f ld n t (j + 2) ≡ false

unfoldable pub Fits : Format → ℕ → ℕ → List Float → Step → Type 0
Fits f ld n t (runs r) = RunFits f ld n t r
Fits f ld n t (standardises j b) = RowsFit f ld n t j

-- each of a list of steps, on the form as it then is
unfoldable pub AllFit : Format → ℕ → ℕ → List Float → List Step → Type 0
AllFit f ld n t [] = Unit {0}
AllFit f ld n t (s ∷ ss) = Fits f ld n t s × AllFit f ld n (stepped f ld n s t) ss

-- ---- the claims

-- steps that fit keep an accepted form accepted: entries more than one row below the diagonal stay zero, and no two neighbouring subdiagonal entries become non-zero
abbrev pub StepsKeep : Type 0
StepsKeep = (f : Format) (ld n : ℕ) (t : List Float) (ss : List Step) → form_line f ld n t ≡ 0 → AllFit f ld n t ss → form_line f ld n (stepped_by f ld n ss t) ≡ 0

-- a change of the form t that is made of steps that fit: its form, and its runs, all of them and in their order
pub record Stepwise (f : Format) (ld n : ℕ) (t : List Float) (c : Change) : Type 0 where
  pub steps : List Step
  pub fit : AllFit f ld n t steps
  pub form : c.form ≡ stepped_by f ld n steps t
  pub runs : c.runs ≡ runs_of steps

-- every exchange and every move that no line turns away, of either kind, with splits, declines and a failed test
pub record AllStepwise : Type 0 where
  pub exchanges : (f : Format) (ld n : ℕ) (t u : List Float) (j n1 n2 : ℕ) → exchange_line f ld n t u j n1 n2 ≡ 0 → Stepwise f ld n t (exchange f ld n j n1 n2 t)
  pub moves : (f : Format) (ld n : ℕ) (t u : List Float) (from to : ℕ) → move_line f ld n t u from to ≡ 0 → Stepwise f ld n t (move f ld n from to t).change
  pub stopping_moves : (f : Format) (ld n : ℕ) (t u : List Float) (from to : ℕ) → move_line f ld n t u from to ≡ 0
      → Stepwise f ld n t (stopping_move f ld n from to t).moving.change
