-- The claim: a move, of either kind, never makes an exchange across a 2-block, after a decline too: no line turns one of its exchanges away, line 10 among them. Definitions only: proofs/Meets.antt proves it. Assumes nothing.
use Rattle.std.specs.Prelude.{ℕ, ◌+◌, ◌≡◌, false, List, [], ◌∷◌, Float}
use Rattle.std.specs.Float.{Format}
use Rattle.model.specs.Exchange.{crosses, exchange_line}
use Rattle.model.specs.Move.{Exchange, first_row, size_at, move_line, move}
use Rattle.model.specs.Stopping.{Kind, goes_on, stopping, Going, goes, stopping_move}

-- each of a list of exchanges, made one after the other from the form t on, would be accepted as a call on the form as it then is; they end in the form e
unfoldable pub AllAccepted : Kind → Format → ℕ → ℕ → List Float → List Exchange → List Float → Type 0
AllAccepted k f ld n t [] e = t ≡ e
AllAccepted k f ld n t (x ∷ xs) e =
    (exchange_line f ld n t [] x.row x.n1 x.n2 ≡ 0) × AllAccepted k f ld n (k.exchange x.row x.n1 x.n2 t).form xs e

-- a move g of a block of s rows of the form t
pub record Meets (k : Kind) (f : Format) (ld n : ℕ) (t : List Float) (s : ℕ) (g : Going) : Type 0 where
  -- its exchanges, and its form at the end
  pub accepted : AllAccepted k f ld n t g.moving.exchanges g.moving.change.form
  -- where it has come to its end, the s rows from the landed one on stand by themselves, as one block or parted, whatever declined
  pub upper : g.stopped ≡ false → crosses f ld n g.moving.change.form g.moving.here ≡ false
  pub lower : g.stopped ≡ false → crosses f ld n g.moving.change.form (g.moving.here + s) ≡ false

-- every move that no line turns away
pub record NeverAcross : Type 0 where
  pub moves : (f : Format) (ld n : ℕ) (t u : List Float) (from to : ℕ) → move_line f ld n t u from to ≡ 0
      → Meets (goes_on f ld n) f ld n t (size_at f ld n t (first_row f ld t from)) (goes (move f ld n from to t))
  pub stopping_moves : (f : Format) (ld n : ℕ) (t u : List Float) (from to : ℕ) → move_line f ld n t u from to ≡ 0
      → Meets (stopping f ld n) f ld n t (size_at f ld n t (first_row f ld t from)) (stopping_move f ld n from to t)
