-- 01's move is the control of a move over 01's exchange, at which it never stops; so its call is the call of a move of any kind, without the mark. Assumes nothing.
use mathlib.Core.Path.{◌≡◌, refl}
use Prim.Native.Nat.{ℕ, zero, suc, ◌+◌, ◌-◌}
use mathlib.Core.Bool.{false, cond}
use mathlib.Core.List.{List}
use lib.Dec.{eqb, ltb}
use lib.Ieee.{Float, Format}
use Rattle.model.specs.Form.{zero_below}
use Rattle.model.specs.Move.{size_at, size_above, Moving, exchanging, arrived, down_whole, down_past_two, down_apart, down_step, down_by, up_whole, up_past_two, up_apart, up_step, up_by, move_from, move, move_line, Moved, move_call}
use Rattle.model.specs.Stopping.{Kind, goes_on, Going, goes, onward, trying, whole_down, past_two_down, apart_down, step_down, walk_down, whole_up, past_two_up, apart_up, step_up, walk_up, walk_from, walk, Stopped, ended}
use Rattle.laws_stride.proofs.Tests.{branch}

-- it goes on as this move
abbrev Is : Going → Moving → Type 0
Is g m = g ≡ goes m

-- and so it arrives in a row
abbrev Arrives : ℕ → Going → Moving → Type 0
Arrives row g m = Is (onward g (λ e. goes (arrived row e))) (arrived row m)

module _ (f : Format) (ld n : ℕ) where
  abbrev K : Kind
  K = goes_on f ld n

  -- ---- down

  past_two-down : (m : Moving) → Is (past_two_down K f ld n m) (down_past_two f ld n m)
  unfolding past_two_down down_past_two onward trying exchanging
  past_two-down m = branch (Arrives (m.here + 2)) (zero_below f ld m.change.form (m.here + 1)) refl (λ _. refl) (λ _. refl)

  apart-down : (m : Moving) → Is (apart_down K f ld n m) (down_apart f ld n m)
  unfolding apart_down down_apart onward trying exchanging
  apart-down m = branch Is (eqb (size_at f ld n m.change.form (m.here + 2)) 1) refl (λ _. refl) (λ _. past_two-down _)

  step_down_lem : (m : Moving) → Is (step_down K f ld n m) (down_step f ld n m)
  unfolding step_down down_step whole_down down_whole onward trying exchanging
  step_down_lem m = branch Is (eqb m.nbf 3) refl (λ _. apart-down m) (λ _. refl)

  walk-down : (i goal : ℕ) (m : Moving) → Is (walk_down K i f ld n goal m) (down_by i f ld n goal m)
  unfolding walk_down down_by onward
  walk-down zero goal m = refl
  walk-down (suc i) goal m = branch Is (ltb m.here goal) refl (λ _. rw (step_down_lem m) (walk-down i goal _)) (λ _. refl)

  -- ---- up

  past_two_up_lem : (m : Moving) → Is (past_two_up K f ld n m) (up_past_two f ld n m)
  unfolding past_two_up up_past_two onward trying exchanging
  past_two_up_lem m = branch (Arrives (m.here - 2)) (zero_below f ld m.change.form (m.here - 1)) refl (λ _. refl) (λ _. refl)

  apart_up_lem : (m : Moving) → Is (apart_up K f ld n m) (up_apart f ld n m)
  unfolding apart_up up_apart onward trying exchanging
  apart_up_lem m = branch Is (eqb (size_above f ld m.change.form m.here) 1) refl (λ _. refl) (λ _. past_two_up_lem _)

  step_up_lem : (m : Moving) → Is (step_up K f ld n m) (up_step f ld n m)
  unfolding step_up up_step whole_up up_whole onward trying exchanging
  step_up_lem m = branch Is (eqb m.nbf 3) refl (λ _. apart_up_lem m) (λ _. refl)

  walk_up_lem : (i goal : ℕ) (m : Moving) → Is (walk_up K i f ld n goal m) (up_by i f ld n goal m)
  unfolding walk_up up_by onward
  walk_up_lem zero goal m = refl
  walk_up_lem (suc i) goal m = branch Is (ltb goal m.here) refl (λ _. rw (step_up_lem m) (walk_up_lem i goal _)) (λ _. refl)

  -- ---- the move

  walk_from_lem : (from to : ℕ) (t : List Float) → Is (walk_from K f ld n from to t) (move_from f ld n from to t)
  unfolding walk_from move_from
  walk_from_lem from to t = branch Is (eqb from to) refl (λ _. refl) (λ _. branch Is (ltb from to) refl (λ _. walk-down n _ _) (λ _. walk_up_lem n to _))

  pub walk_is_move : (from to : ℕ) (t : List Float) → walk (goes_on f ld n) f ld n from to t ≡ goes (move f ld n from to t)
  unfolding walk move
  walk_is_move from to t = walk_from_lem _ _ t

-- ---- the call

-- of a move of any kind
unfoldable pub call_by : Kind → Format → ℕ → ℕ → List Float → List Float → ℕ → ℕ → Stopped
call_by k f ld n t u from to =
    let line = move_line f ld n t u from to in
    cond (eqb line 0) (ended f ld n u (walk k f ld n from to t)) (record { answer = line; stopped = false; here = 0; swaps = 0; declined = 0; form = t; factor = u })

-- without the mark
abbrev pub unmarked : Stopped → Moved
unmarked r = record { answer = r.answer; landed = r.here; swaps = r.swaps; declined = r.declined; form = r.form; factor = r.factor }

pub move_is_call : (f : Format) (ld n : ℕ) (t u : List Float) (from to : ℕ) → move_call f ld n t u from to ≡ unmarked (call_by (goes_on f ld n) f ld n t u from to)
unfolding move_call call_by
move_is_call f ld n t u from to =
    branch (λ (r : Moved) (s : Stopped). r ≡ unmarked s) (eqb (move_line f ld n t u from to) 0) refl (λ _. rw (walk_is_move f ld n from to t)) (λ _. refl)
