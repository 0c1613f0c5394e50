-- The claims on moves and exchanges: made of steps that fit, and never across a 2-block. Assumes nothing.
use mathlib.Core.Path.{◌≡◌, subst}
use Prim.Native.Nat.{ℕ, ◌+◌}
use mathlib.Core.Bool.{Bool, true, false, true≢false}
use mathlib.Core.List.{List}
use lib.Ieee.{Float, Format}
use Rattle.model.specs.Swaps.{Swap}
use Rattle.model.specs.Exchange.{exchange_line, exchange}
use Rattle.model.specs.Move.{first_row, size_at, move_line, Moving}
use Rattle.model.specs.Stopping.{Kind, goes_on, stopping, Going, walk}
use Rattle.laws_stride.proofs.Lines.{move_passed, move-accepted, exchange-accepted}
use Rattle.laws_exchange.proofs.Counts.{last-lines}
use Rattle.laws_stride.proofs.Control.{walk_is_move}
use Rattle.laws_shape.specs.Steps.{Stepwise, AllStepwise}
use Rattle.laws_shape.specs.Meets.{Meets, NeverAcross}
use Rattle.laws_shape.proofs.Shape.{shape}
use Rattle.laws_shape.proofs.Steps.{edges-of}
use Rattle.laws_shape.proofs.Exchanges.{Goes, Lawful, goes_on_lawful, stopping_lawful, exchange_trades}
use Rattle.laws_shape.proofs.Walk.{Far, Stands, Holds, walk-stands}

-- ---- a move of either kind

module _ (k : Kind) (f : Format) (ld n : ℕ) (L : Lawful k f ld n) (t : List Float) where
  far_of : (s : ℕ) (b : Bool) (m : Moving) → Holds k f ld n L t (Stands k f ld n L t s) b m → Far k f ld n L t m
  far_of s true m h = h
  far_of s false m h = h.far

  stood : (s : ℕ) (b : Bool) (m : Moving) → b ≡ false → Holds k f ld n L t (Stands k f ld n L t s) b m → Stands k f ld n L t s m
  stood s true m e h = absurd (true≢false e)
  stood s false m e h = h

  module _ (u : List Float) (from to : ℕ) (h : move_line f ld n t u from to ≡ 0) where
    abbrev g : Going
    g = walk k f ld n from to t

    holds : Holds k f ld n L t (Stands k f ld n L t (size_at f ld n t (first_row f ld t from))) g.stopped g.moving
    holds = let p = move_passed f ld n t u from to h in walk-stands k f ld n L t (shape f ld n t (move-accepted f ld n t u from to h)) from to p.1 p.2

    pub walk_far : Far k f ld n L t g.moving
    walk_far = far_of _ g.stopped g.moving holds

    pub walk_meets : Meets k f ld n t (size_at f ld n t (first_row f ld t from)) g
    walk_meets =
        record {
          accepted = walk_far.accepted;
          upper = λ e. (stood _ g.stopped g.moving e holds).upper;
          lower = λ e. (stood _ g.stopped g.moving e holds).lower;
        }

-- ---- an exchange

pub exchange-goes : (f : Format) (ld n : ℕ) (t u : List Float) (j n1 n2 : ℕ) → exchange_line f ld n t u j n1 n2 ≡ 0 → Goes f ld n j (j + n1 + n2) t (exchange f ld n j n1 n2 t)
exchange-goes f ld n t u j n1 n2 h =
    let l = last-lines f ld n t u j n1 n2 h in
    let r : Swap = record { row = j; n1 = n1; n2 = n2; declined = false } in
    let e = edges-of f ld n t r (record { sizes = l.0; rows = l.1; edges = l.2 }) in
    (exchange_trades f ld n j n1 n2 t (shape f ld n t (exchange-accepted f ld n t u j n1 n2 h)) e).goes

-- ---- the claims

pub all-stepwise : AllStepwise
all-stepwise =
    record {
      exchanges = λ f ld n t u j n1 n2 h. (exchange-goes f ld n t u j n1 n2 h).steps;
      moves = λ f ld n t u from to h. subst (λ (g : Going). Stepwise f ld n t g.moving.change) (walk_is_move f ld n from to t) (walk_far (goes_on f ld n) f ld n (goes_on_lawful f ld n) t u from to h).steps;
      stopping_moves = λ f ld n t u from to h. (walk_far (stopping f ld n) f ld n (stopping_lawful f ld n) t u from to h).steps;
    }

pub never_across_lem : NeverAcross
never_across_lem =
    record {
      moves = λ f ld n t u from to h. subst (Meets (goes_on f ld n) f ld n t (size_at f ld n t (first_row f ld t from))) (walk_is_move f ld n from to t) (walk_meets (goes_on f ld n) f ld n (goes_on_lawful f ld n) t u from to h);
      stopping_moves = λ f ld n t u from to h. walk_meets (stopping f ld n) f ld n (stopping_lawful f ld n) t u from to h;
    }
