-- The claim: the move that stops exchanges whole blocks only: never two rows with a zero inside, so that none is ever parted. Definitions only: proofs/Whole.antt proves it. Assumes nothing.
use Rattle.std.specs.Prelude.{ℕ, ◌+◌, ◌<◌, ◌≡◌, false, List, [], ◌∷◌, Float}
use Rattle.std.specs.Float.{Format}
use Rattle.model.specs.Form.{zero_below}
use Rattle.model.specs.Move.{Exchange}
use Rattle.model.specs.Stopping.{Kind, stopping, stopping_move}
use Rattle.laws_stopping.specs.Made.{make_by}

-- an exchange, on a form
pub record WholeBlocks (f : Format) (ld : ℕ) (t : List Float) (e : Exchange) : Type 0 where
  -- the upper two rows, where there are two, have no zero inside
  pub upper : e.n1 ≡ 2 → zero_below f ld t e.row ≡ false
  -- nor have the lower
  pub lower : e.n2 ≡ 2 → zero_below f ld t (e.row + e.n1) ≡ false

-- each of a list that is made from the form t on, on the form as it then is
unfoldable pub AllWhole : Kind → Format → ℕ → List Float → List Exchange → Type 0
AllWhole k f ld t [] = Unit {0}
AllWhole k f ld t (e ∷ es) = WholeBlocks f ld t e × AllWhole k f ld (make_by k e t).form es

-- for every format, stride and form, whatever stands in it; one that stops the move too
abbrev pub NeverParted : Type 0
NeverParted =
    (f : Format) (ld n from to : ℕ) (t : List Float) → from < n → to < n → AllWhole (stopping f ld n) f ld t (stopping_move f ld n from to t).moving.exchanges
