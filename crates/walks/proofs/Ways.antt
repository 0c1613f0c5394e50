-- One exchange more on the way of a move, and its steps by the code's tests. Assumes nothing.
use mathlib.Core.Path.{◌≡◌, refl, sym, ap, ◌∙◌, subst}
use Prim.Native.Nat.{ℕ, ◌+◌, ◌-◌, ◌<◌}
use native.Mathlib.Omega.{arith}
use mathlib.Core.Bool.{Bool, true, false, ◌&&◌, cond}
use mathlib.Core.List.{List, []}
use lib.Dec.{eqb}
use lib.ListN.{length}
use lib.Ieee.{Float, binary64}
use borrow.Author.Tests.{eq-eqb, ne_eqb, lt-ltb, le-ltb}
use Rattle.std.proofs.Common.{Result, Ok, Err, is_err}
use Rattle.model.specs.Form.{zero_below}
use Rattle.model.specs.Columns.{on_factor}
use Rattle.model.specs.Swaps.{Change, unchanged, declines_in}
use Rattle.model.specs.Exchange.{Exchanged, exchanged}
use Rattle.model.specs.Move as Move
use Rattle.model.specs.Stopping as Stopping
use Rattle.model.specs.Stopping.{Kind, goes, onward, trying, whole_down, past_two_down, apart_down, walk_down, whole_up, past_two_up, apart_up, walk_up, walk_from, walk, goes_on}
use Rattle.form.specs.declared.shape.Shape.{Shape}
use Rattle.form.specs.Shaped.{IsOf}
use Rattle.swaps.specs.Done.{Step}
use Rattle.swaps.specs.declared.neighbours.Neighbours.{Neighbours}
use Rattle.swaps.proofs.Steps.{step_then}
use Rattle.laws_stopping.proofs.Control.{one-control}
use Rattle.walks.specs.declared.counts.Counts.{Counts}
use Rattle.walks.specs.declared.moving.Block.{Block}
use Rattle.walks.specs.declared.moving.Block.TheVariants.{One, Two, Parted}
use Rattle.walks.specs.declared.moving.Moving.{Moving}
use Rattle.walks.specs.Kinds.{either, Made}
use Rattle.walks.specs.Counted.{both}
use Rattle.walks.specs.Stands.{number, rows, Stands, Stood, Takes}

pub stood_as : {s : Shape} {u₀ t u : List Float} {r : Result Moving Moving} {G H : Stopping.Going} → G ≡ H → Stood s u₀ t u r G → Stood s u₀ t u r H
stood_as {s} {u₀} {t} {u} {r} e a = subst (λ (X : Stopping.Going). Stood s u₀ t u r X) e a

-- ---- on with it, unless it has stopped
pub rests : (G : Stopping.Going) (next : Move.Moving → Stopping.Going) → G.stopped ≡ true → G ≡ onward G next
unfolding onward
rests G next e = rw e

pub goes_on_lem : (G : Stopping.Going) (next : Move.Moving → Stopping.Going) → G.stopped ≡ false → next G.moving ≡ onward G next
unfolding onward
goes_on_lem G next e = rw e

-- what `?` hands on is the Err that it was given
pub as_err : {s : Shape} {t u t₁ u₁ : List Float} {m a : Moving} {q : Result Moving Moving} {P : Move.Moving → Stopping.Going} → q ≡ Err a → Takes s t u m t₁ u₁ (Err a) P → Takes s t u m t₁ u₁ q P
as_err e f = rw e f

module _ {s : Shape} {t u t₁ u₁ : List Float} {m a : Moving} {step : Move.Moving → Stopping.Going} (next : Move.Moving → Stopping.Going) where
  -- one that has stopped goes no further
  pub halts : Takes s t u m t₁ u₁ (Err a) step → Takes s t u m t₁ u₁ (Err a) (λ (M : Move.Moving). onward (step M) next)
  halts f u₀ M h = let x = f u₀ M h in stood_as (rests (step M) next (sym x.stopped)) x

  pub follows : {t₂ u₂ : List Float} {r : Result Moving Moving} → Takes s t u m t₁ u₁ (Ok a) step → Takes s t₁ u₁ a t₂ u₂ r next
      → Takes s t u m t₂ u₂ r (λ (M : Move.Moving). onward (step M) next)
  follows f g u₀ M h =
      let x = f u₀ M h in
      stood_as (goes_on_lem (step M) next (sym x.stopped)) (g u₀ (step M).moving x.stands)

-- ---- one exchange more
pub one_more : (k : Kind) (most : ℕ) (s : Shape) (b : Neighbours) {t u t₁ u₁ : List Float} {m : Moving} {r : Result Counts Counts} → Made k most s b t u t₁ u₁ r → length u₁ ≡ length u
    → {q : Result Moving Moving} → is_err q ≡ is_err r → either q ≡ record m { counts = both m.counts (either r) } → Takes s t u m t₁ u₁ q (trying k b.row b.n1 b.n2)
unfolding trying
one_more k most s b x l e i u₀ M a =
    record {
      stopped = e ∙ x.stops ∙ rw (x.step.declined, a.step.done.form);
      stands = rw i (record { here = a.here; nbf = a.nbf; step = step_then (k.exchange b.row b.n1 b.n2) a.step a.kept x.step; kept = l ∙ a.kept });
    }

-- ---- arrived in a row
pub arrives : {s : Shape} {t u : List Float} {a r : Moving} {row : ℕ} → r ≡ record a { here = row } → Takes s t u a t u (Ok r) (λ (M : Move.Moving). goes (Move.arrived row M))
unfolding Move.arrived
arrives e u₀ M a = record { stopped = refl; stands = rw e (record { here = refl; nbf = a.nbf; step = a.step; kept = a.kept }) }

pub lands : {s : Shape} {u₀ t u : List Float} {m r : Moving} {M : Move.Moving} (row : ℕ) → Stands s u₀ t u m M → r.here ≡ row → r.counts ≡ m.counts
    → number r.block ≡ cond (eqb (number m.block) 2 && zero_below binary64 s.ld t row) 3 (number m.block) → Stands s u₀ t u r (Move.landed_whole binary64 s.ld row M)
unfolding Move.landed_whole
lands row a h c e = record { here = h; nbf = e ∙ rw (a.nbf, a.step.done.form); step = rw c a.step; kept = a.kept }

pub landed : (row : ℕ) {s : Shape} {t u : List Float} {a r : Moving} → ((u₀ v : List Float) (M : Move.Moving) → Stands s u₀ t v a M → Stands s u₀ t v r (Move.landed_whole binary64 s.ld row M))
    → Takes s t u a t u (Ok r) (λ (M : Move.Moving). goes (Move.landed_whole binary64 s.ld row M))
landed row f u₀ M a = record { stopped = refl; stands = f u₀ _ M a }

-- ---- what is moved, parted or not
pub not_two : (b : Block) → (b ≡ Two → ⊥) → eqb (number b) 2 ≡ false
not_two One h = refl
not_two Two h = absurd (h refl)
not_two Parted h = refl

-- ---- where a step of model's goes by cases
module _ {s : Shape} {t u t₁ u₁ : List Float} {m : Moving} {r : Result Moving Moving} (P Q : Move.Moving → Stopping.Going) where
  pub is_one : (next : ℕ) → next ≡ 1 → Takes s t u m t₁ u₁ r P → Takes s t u m t₁ u₁ r (λ (M : Move.Moving). cond (eqb next 1) (P M) (Q M))
  is_one next e f u₀ M a = stood_as (rw e) (f u₀ M a)

  pub is_two : (next : ℕ) → (next ≡ 1 → ⊥) → Takes s t u m t₁ u₁ r Q → Takes s t u m t₁ u₁ r (λ (M : Move.Moving). cond (eqb next 1) (P M) (Q M))
  is_two next e f u₀ M a = stood_as (rw (ne_eqb next 1 e)) (f u₀ M a)

-- ---- the steps by what the code reads, on the row and the form as they stand
module _ (k : Kind) {s : Shape} {t u t₁ u₁ : List Float} {m : Moving} {r : Result Moving Moving} where
  pub whole_down-is : {next : ℕ} (b : ℕ) → b ≡ number m.block → next ≡ Move.size_at binary64 s.ld s.n t (m.here + b)
      → Takes s t u m t₁ u₁ r (λ (M : Move.Moving). onward (trying k m.here b next M) (λ (e : Move.Moving). goes (Move.landed_whole binary64 s.ld (m.here + next) e)))
      → Takes s t u m t₁ u₁ r (whole_down k binary64 s.ld s.n)
  unfolding whole_down
  whole_down-is b i e f u₀ M a = stood_as (rw (e, i, a.step.done.form, a.here, a.nbf)) (f u₀ M a)

  pub past_two_down_is : (split : Bool) → zero_below binary64 s.ld t (m.here + 1) ≡ split
      → Takes s t u m t₁ u₁ r (λ (M : Move.Moving). onward (cond split (onward (trying k m.here 1 1 M) (trying k (m.here + 1) 1 1)) (trying k m.here 1 2 M)) (λ (e : Move.Moving). goes (Move.arrived (m.here + 2) e)))
      → Takes s t u m t₁ u₁ r (past_two_down k binary64 s.ld s.n)
  unfolding past_two_down
  past_two_down_is split e f u₀ M a = stood_as (rw (← a.step.done.form, ← a.here, e)) (f u₀ M a)

  pub apart_down_is : {next : ℕ} → next ≡ Move.size_at binary64 s.ld s.n t (m.here + 2)
      → Takes s t u m t₁ u₁ r (λ (M : Move.Moving). onward (trying k (m.here + 1) 1 next M) (λ (e : Move.Moving). cond (eqb next 1) (onward (trying k m.here 1 1 e) (λ (d : Move.Moving). goes (Move.arrived (m.here + 1) d))) (past_two_down k binary64 s.ld s.n e)))
      → Takes s t u m t₁ u₁ r (apart_down k binary64 s.ld s.n)
  unfolding apart_down
  apart_down_is e f u₀ M a = stood_as (rw (← a.step.done.form, ← a.here, ← e)) (f u₀ M a)

  pub whole_up-is : {next : ℕ} (b : ℕ) → b ≡ number m.block → next ≡ Move.size_above binary64 s.ld t m.here
      → Takes s t u m t₁ u₁ r (λ (M : Move.Moving). onward (trying k (m.here - next) next b M) (λ (e : Move.Moving). goes (Move.landed_whole binary64 s.ld (m.here - next) e)))
      → Takes s t u m t₁ u₁ r (whole_up k binary64 s.ld s.n)
  unfolding whole_up
  whole_up-is b i e f u₀ M a = stood_as (rw (e, i, a.step.done.form, a.here, a.nbf)) (f u₀ M a)

  pub past_two_up_is : (split : Bool) → zero_below binary64 s.ld t (m.here - 1) ≡ split
      → Takes s t u m t₁ u₁ r (λ (M : Move.Moving). onward (cond split (onward (trying k m.here 1 1 M) (trying k (m.here - 1) 1 1)) (trying k (m.here - 1) 2 1 M)) (λ (e : Move.Moving). goes (Move.arrived (m.here - 2) e)))
      → Takes s t u m t₁ u₁ r (past_two_up k binary64 s.ld s.n)
  unfolding past_two_up
  past_two_up_is split e f u₀ M a = stood_as (rw (← a.step.done.form, ← a.here, e)) (f u₀ M a)

  pub apart_up_is : {next : ℕ} → next ≡ Move.size_above binary64 s.ld t m.here
      → Takes s t u m t₁ u₁ r (λ (M : Move.Moving). onward (trying k (m.here - next) next 1 M) (λ (e : Move.Moving). cond (eqb next 1) (onward (trying k m.here 1 1 e) (λ (d : Move.Moving). goes (Move.arrived (m.here - 1) d))) (past_two_up k binary64 s.ld s.n e)))
      → Takes s t u m t₁ u₁ r (apart_up k binary64 s.ld s.n)
  unfolding apart_up
  apart_up_is e f u₀ M a = stood_as (rw (← a.step.done.form, ← a.here, ← e)) (f u₀ M a)

-- ---- the whole walk
abbrev start : Shape → List Float → ℕ → Move.Moving
start s t from = record { here = from; nbf = Move.size_at binary64 s.ld s.n t from; change = unchanged t; exchanges = [] }

module _ (k : Kind) (s : Shape) (from to : ℕ) (b : Block) (c : Counts) {u t : List Float} (e : number b ≡ Move.size_at binary64 s.ld s.n t from) (z : (c.swaps ≡ 0) × (c.declined ≡ 0)) where
  starts : Stands s u t u (record { here = from; block = b; counts = c }) (start s t from)
  unfolding on_factor declines_in
  starts = record { here = refl; nbf = e; step = record { done = record { form = refl; factor = refl }; swaps = z.0; declined = z.1 }; kept = refl }

  pub stays-is : from ≡ to → Stood s u t u (Ok (record { here = from; block = b; counts = c })) (walk_from k binary64 s.ld s.n from to t)
  unfolding walk_from
  stays-is q = rw (eq-eqb from to q) (record { stopped = refl; stands = starts })

  pub goes_down : {t₁ u₁ : List Float} {r : Result Moving Moving} {nbf nbl goal : ℕ} → from < to → nbf ≡ number b → nbl ≡ Move.size_at binary64 s.ld s.n t to → goal ≡ Move.goal_down nbf nbl to
      → Takes s t u (record { here = from; block = b; counts = c }) t₁ u₁ r (walk_down k s.n binary64 s.ld s.n goal) → Stood s u t₁ u₁ r (walk_from k binary64 s.ld s.n from to t)
  unfolding walk_from
  goes_down l a d g f = let h : from ≡ to → ⊥ = λ q. omega arith in stood_as (rw (ne_eqb from to h, lt-ltb from to l, g, a, e, d)) (f u (start s t from) starts)

  pub goes_up : {t₁ u₁ : List Float} {r : Result Moving Moving} → to < from
      → Takes s t u (record { here = from; block = b; counts = c }) t₁ u₁ r (walk_up k s.n binary64 s.ld s.n to) → Stood s u t₁ u₁ r (walk_from k binary64 s.ld s.n from to t)
  unfolding walk_from
  goes_up l f = let d : from ≡ to → ⊥ = λ q. omega arith in stood_as (rw (ne_eqb from to d, le-ltb from to (omega arith))) (f u (start s t from) starts)

-- ---- the answers
pub ended : {s : Shape} {u t₁ u₁ : List Float} {m : Moving} {M : Move.Moving} → Stands s u t₁ u₁ m M
    → ◌≡◌ {A = Move.Moved} (record { answer = 0; landed = m.here; swaps = m.counts.swaps; declined = m.counts.declined; form = t₁; factor = u₁ }) (Move.moved binary64 s.ld s.n u M)
ended a = rw (a.here, a.step.swaps, a.step.declined, a.step.done.form, a.step.done.factor)

pub ended-exchange : {ld n : ℕ} {u t₁ u₁ : List Float} {s d : ℕ} {c : Change} → Step ld n u t₁ u₁ s d c
    → ◌≡◌ {A = Exchanged} (record { answer = 0; swaps = s; declined = d; form = t₁; factor = u₁ }) (exchanged binary64 ld n u c)
ended-exchange a = rw (a.swaps, a.declined, a.done.form, a.done.factor)

pub ended_move : {s : Shape} {n ld : ℕ} (from to : ℕ) {t u t₁ u₁ : List Float} {r : Result Moving Moving} → IsOf s n ld t → 0 ≡ Move.move_line binary64 ld n t u from to
    → Stood s u t₁ u₁ r (walk (goes_on binary64 s.ld s.n) binary64 s.ld s.n from to t)
    → (let m = either r in ◌≡◌ {A = Move.Moved} (record { answer = 0; landed = m.here; swaps = m.counts.swaps; declined = m.counts.declined; form = t₁; factor = u₁ }) (Move.move_call binary64 ld n t u from to))
unfolding Move.move_call
ended_move {s} from to {t} k l w =
    let e : (walk (goes_on binary64 s.ld s.n) binary64 s.ld s.n from to t).moving ≡ Move.move binary64 s.ld s.n from to t = ap (λ (G : Stopping.Going). G.moving) (one-control binary64 s.ld s.n from to t) in
    rw (← l, ← k.rows, ← k.stride) (ended (rw e at w.stands))
