-- How far the code of a move has come, against model's own account of it. Assumes nothing.
use Rattle.std.specs.Prelude.{◌≡◌, ℕ, ◌+◌, ◌≤◌, List, length, Float, Result, is_err}
use Rattle.model.specs.Move as Move
use Rattle.model.specs.Stopping as Stopping
use Rattle.form.specs.declared.shape.Shape.{Shape}
use Rattle.swaps.specs.Done.{Step}
use Rattle.walks.specs.declared.moving.Block.{Block}
use Rattle.walks.specs.declared.moving.Block.TheVariants.{One, Two, Parted}
use Rattle.walks.specs.declared.moving.Moving.{Moving}
use Rattle.walks.specs.Kinds.{either}

-- model's number for what is moved
abbrev pub number : Block → ℕ
number One = 1
number Two = 2
number Parted = 3

-- how many rows are moved
abbrev pub rows : Block → ℕ
rows One = 1
rows Two = 2
rows Parted = 2

-- the numbers of the code's m are those of M, and with u₀ for the factor at the start, form and factor are now t and u
pub record Stands (s : Shape) (u₀ t u : List Float) (m : Moving) (M : Move.Moving) : Type 0 where
  pub here : m.here ≡ M.here
  pub nbf : number m.block ≡ M.nbf
  pub step : Step s.ld s.n u₀ t u m.counts.swaps m.counts.declined M.change
  pub kept : length u ≡ length u₀

-- r is an Err if model's G has stopped, and holds where it stands
pub record Stood (s : Shape) (u₀ t u : List Float) (r : Result Moving Moving) (G : Stopping.Going) : Type 0 where
  pub stopped : is_err r ≡ G.stopped
  pub stands : Stands s u₀ t u (either r) G.moving

-- the code goes from m to r, with form and factor from t and u to t₁ and u₁: whatever model has reached, for any
-- history, is taken on by `next`
abbrev pub Takes : Shape → List Float → List Float → Moving → List Float → List Float → Result Moving Moving → (Move.Moving → Stopping.Going) → Type 0
Takes s t u m t₁ u₁ r next = (u₀ : List Float) (M : Move.Moving) → Stands s u₀ t u m M → Stood s u₀ t₁ u₁ r (next M)

-- the counts are small
pub record Few (k : ℕ) (m : Moving) : Type 0 where
  pub few : m.counts.swaps ≤ k
  pub fewer : m.counts.declined ≤ k

-- after a step as many rows are moved, and the counts rose by at most k
pub record More (k : ℕ) (m r : Moving) : Type 0 where
  pub same : rows r.block ≡ rows m.block
  pub few : r.counts.swaps ≤ m.counts.swaps + k
  pub fewer : r.counts.declined ≤ m.counts.declined + k
