-- A move arrives in the n steps that its definition allows. Assumes nothing.
use Prim.Native.Nat.{ℕ, zero, suc, ◌+◌, ◌-◌, ◌≤◌, ◌<◌}
use native.Mathlib.Decide.{dec_lt, ℕ_discrete}
use native.Mathlib.Omega.{arith}
use mathlib.Core.Bool.{Bool, true, false, ◌&&◌, cond}
use mathlib.Core.List.{List}
use lib.Dec.{eqb, ltb, leb}
use lib.Ieee.{Float, Format}
use borrow.Author.Tests.{lt-ltb, le-ltb, eq-eqb, ne_eqb}
use Rattle.model.specs.Form.{nonzero_below, two_block}
use Rattle.model.specs.Move.{Moving, first_row, size_at, size_above, exchanging, arrived, landed_whole, down_whole, down_past_two, down_apart, down_step, down_by, up_whole, up_past_two, up_apart, up_step, up_by, goal_down, move_from, move}
use Rattle.laws_dtrexc.specs.Choice.{MoveArrives}

-- one of two moves on their way
either : (P : ℕ → Type 0) (b : Bool) (x y : Moving) → P x.here → P y.here → P (cond b x y).here
either P true x y h k = h
either P false x y h k = k

two_or_one : (b : Bool) → 1 ≤ cond b 2 1
two_or_one true = omega arith
two_or_one false = omega arith

module _ (f : Format) (ld n : ℕ) where
  lower : (m : Moving) → m.here < (down_step f ld n m).here
  unfolding down_step down_apart down_past_two down_whole landed_whole arrived exchanging size_at
  lower m =
      let k = two_or_one (two_block f ld n m.change.form (m.here + m.nbf)) in
      either (λ h. m.here < h) (eqb m.nbf 3) (down_apart f ld n m) (down_whole f ld n m)
      (either (λ h. m.here < h) (eqb (size_at f ld n m.change.form (m.here + 2)) 1) _ _ (omega arith) (omega arith))
      (omega arith)

  higher : (m : Moving) → 0 < m.here → (up_step f ld n m).here < m.here
  unfolding up_step up_apart up_past_two up_whole landed_whole arrived exchanging size_above
  higher m l =
      let k = two_or_one (leb 2 m.here && nonzero_below f ld m.change.form (m.here - 2)) in
      either (λ h. h < m.here) (eqb m.nbf 3) (up_apart f ld n m) (up_whole f ld n m)
      (either (λ h. h < m.here) (eqb (size_above f ld m.change.form m.here) 1) _ _ (omega arith) (omega arith))
      (omega arith)

  down_arrives : (k goal : ℕ) (m : Moving) → goal ≤ m.here + k → goal ≤ (down_by k f ld n goal m).here
  unfolding down_by
  down_arrives zero goal m h = omega arith
  down_arrives (suc k) goal m h =
      let s = lower m in
      elim (dec_lt m.here goal) [ yes p ↦ rw (lt-ltb m.here goal p) (down_arrives k goal (down_step f ld n m) (omega arith)) | no p ↦ rw (le-ltb m.here goal (omega arith)) (omega arith) ]

  up_arrives : (k goal : ℕ) (m : Moving) → m.here ≤ goal + k → (up_by k f ld n goal m).here ≤ goal
  unfolding up_by
  up_arrives zero goal m h = omega arith
  up_arrives (suc k) goal m h =
      elim (dec_lt goal m.here)
      [ yes p ↦ rw (lt-ltb goal m.here p) (let s = higher m (omega arith) in up_arrives k goal (up_step f ld n m) (omega arith)) | no p ↦ rw (le-ltb goal m.here (omega arith)) (omega arith) ]

  pub first_le : (t : List Float) (p : ℕ) → first_row f ld t p ≤ p
  unfolding first_row
  first_le t p = go (ltb 0 p && nonzero_below f ld t (p - 1))
    where
      go : (b : Bool) → cond b (p - 1) p ≤ p
      go true = omega arith
      go false = omega arith

  pub goal_le : (t : List Float) (a b : ℕ) → goal_down (size_at f ld n t a) (size_at f ld n t b) b ≤ b + 1
  unfolding goal_down
  goal_le t a b = go (eqb (size_at f ld n t a) 2 && eqb (size_at f ld n t b) 1) (eqb (size_at f ld n t a) 1 && eqb (size_at f ld n t b) 2)
    where
      go : (x y : Bool) → cond x (b - 1) (cond y (b + 1) b) ≤ b + 1
      go true y = omega arith
      go false true = omega arith
      go false false = omega arith

pub move_arrives : MoveArrives
unfolding move move_from
move_arrives f ld n from to t l k =
    let a = first_row f ld t from in
    let b = first_row f ld t to in
    let p = first_le f ld n t from in
    let q = first_le f ld n t to in
    let g = goal_le f ld n t a b in (
      λ h. rw (ne_eqb a b (omega arith), lt-ltb a b h) (down_arrives f ld n n _ _ (omega arith)),
      λ h. elim (ℕ_discrete a b) [ yes e ↦ rw (eq-eqb a b e) (omega arith) | no e ↦ rw (ne_eqb a b e, le-ltb a b h) (up_arrives f ld n n b _ (omega arith)) ],
    )
