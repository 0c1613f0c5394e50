-- The claim: the move that stops is dtrexc run over its exchange, to the end; and how such a move ends, whatever rows it is asked for. Assumes nothing.
use Prim.Native.Nat.{ℕ, ◌+◌, ◌<◌}
use native.Mathlib.Decide.{dec_lt, ℕ_discrete}
use native.Mathlib.Omega.{arith}
use mathlib.Core.Path.{◌≡◌, refl, sym}
use mathlib.Core.Logic.{inl, inr}
use mathlib.Core.Bool.{Bool, true, false, cond}
use mathlib.Core.List.{List, []}
use lib.Dec.{eqb, ltb, leb}
use lib.Ieee.{Float, Format}
use borrow.Author.Tests.{leb-true, lt-ltb, le-ltb, eq-eqb, ne_eqb}
use Rattle.model.specs.Swaps.{Change, declines_in, declined_of, unchanged, and_then, swap11, swap_of}
use Rattle.model.specs.Move.{Moving, first_row, size_at}
use Rattle.model.specs.Stopping.{test_fails, standardise_also, try_exchange, Kind, Going, walk_down, walk_up, walk_from, walk}
use Rattle.laws_dtrexc.specs.Dtrexc.{Routines, Control, goes, Returned, ilst_here, returned, updated, label10, label20, first_of, size_of, dtrexc_by, dtrexc}
use Rattle.laws_dtrexc.proofs.Seen
use Rattle.laws_dtrexc.proofs.Seen.{seen, ltb_next}
use Rattle.laws_dtrexc.proofs.Choice.{eqb_next, goal-is, goal-below}
use Rattle.laws_stopping.specs.Made.{made_by}
use Rattle.laws_stopping.specs.Follows.{routines, SameRun, StoppingIsDtrexc}
use Rattle.laws_stopping.proofs.Agree.{kind, On, Off, off_done, State, Agrees}
use Rattle.laws_stopping.proofs.Down
use Rattle.laws_stopping.proofs.Up

module _ (x : ℕ → ℕ → ℕ → List Float → Change) (f : Format) (ld n : ℕ) (t : List Float) (calm : (j : ℕ) (u : List Float) → declined_of (x j 1 1 u) ≡ 0) where
  abbrev k : Kind
  k = kind x f ld n t

  abbrev r : Routines (List Float)
  r = routines k f ld

  abbrev P : Moving → Type 0
  P m = On x f ld n t m

  -- the block in row a, before the first step
  abbrev start : ℕ → Moving
  start a = record { here = a; nbf = size_at f ld n t a; change = unchanged t; exchanges = [] }

  start_on : (a : ℕ) → P (start a)
  unfolding made_by declines_in
  start_on a =
      elim (Down.size_one_two f ld n t a) [
        | inl e ↦ record { low = omega (arith, e); high = omega (arith, e); done = refl; quiet = refl; sized = tt }
        | inr e ↦ record { low = omega (arith, e); high = omega (arith, e); done = refl; quiet = refl; sized = tt }
      ]

  -- ---- how it ends

  abbrev pub Ends : Bool → Moving → Type 0
  Ends false m = On x f ld n t m
  Ends true m = Off x f ld n t m

  ends : (goal : ℕ) (c : Control (List Float)) (b : Bool) (m : Moving) → State x f ld n t P goal c b m → Ends b m
  ends goal c false m s = s.1
  ends goal c true m s = s.1

  either : (b : Bool) (g h : Going) → Ends g.stopped g.moving → Ends h.stopped h.moving → Ends (cond b g h).stopped (cond b g h).moving
  either true g h p q = p
  either false g h p q = q

  down_ends : (i goal : ℕ) (m : Moving) → P m → Ends (walk_down k i f ld n goal m).stopped (walk_down k i f ld n goal m).moving
  down_ends i goal m o = go (ltb m.here goal) refl
    where
      go : (b : Bool) → ltb m.here goal ≡ b → Ends (walk_down k i f ld n goal m).stopped (walk_down k i f ld n goal m).moving
      go true e = ends goal (label10 r n i (seen 0 goal m)) (walk_down k i f ld n goal m).stopped (walk_down k i f ld n goal m).moving (Down.loop x f ld n t calm goal i m o e)
      go false e = rw (Down.stays x f ld n t calm goal i m e) o

  up_ends : (i goal : ℕ) (m : Moving) → P m → Ends (walk_up k i f ld n goal m).stopped (walk_up k i f ld n goal m).moving
  up_ends i goal m o = go (ltb goal m.here) refl
    where
      go : (b : Bool) → ltb goal m.here ≡ b → Ends (walk_up k i f ld n goal m).stopped (walk_up k i f ld n goal m).moving
      go true e = ends goal (label20 r i (seen 0 goal m)) (walk_up k i f ld n goal m).stopped (walk_up k i f ld n goal m).moving (Up.loop x f ld n t calm goal i m o e)
      go false e = rw (Up.stays x f ld n t calm goal i m e) o

  pub walk_ends : (from to : ℕ) → Ends (walk k f ld n from to t).stopped (walk k f ld n from to t).moving
  unfolding walk walk_from
  walk_ends from to =
      let a = first_row f ld t from in
      let b = first_row f ld t to in
      either (eqb a b) _ _ (start_on a) (either (ltb a b) _ _ (down_ends n _ (start a) (start_on a)) (up_ends n b (start a) (start_on a)))

  -- ---- beside dtrexc

  same-run : (goal : ℕ) (c : Control (List Float)) (g : Going) → Agrees x f ld n t P goal c g → SameRun k t g.moving (returned c)
  unfolding returned ilst_here
  same-run goal c g a = go g.stopped a
    where
      go : (b : Bool) → State x f ld n t P goal c b g.moving → SameRun k t g.moving (returned c)
      go false s = rw s.0 (record { done = s.1.done; calls = refl; form = refl; here = refl; declined = sym s.1.quiet })
      go true s = rw s.0 (record { done = off_done x f ld n t g.moving s.1; calls = refl; form = refl; here = refl; declined = refl })

  -- dtrexc, once it knows the two first rows a and b
  runs : ℕ → ℕ → Returned (List Float)
  runs a b =
      let nbf = size_at f ld n t a in
      cond (eqb (a + 1) (b + 1)) (record { T = t; ILST = b + 1; INFO = 0; calls = [] })
      (cond (ltb (a + 1) (b + 1)) (returned (label10 r n n (record { T = t; ILST = updated nbf (size_at f ld n t b) (b + 1); HERE = a + 1; NBF = nbf; INFO = 0; calls = [] })))
      (returned (label20 r n (record { T = t; ILST = b + 1; HERE = a + 1; NBF = nbf; INFO = 0; calls = [] }))))

  first-of : (p : ℕ) → first_of r n t (p + 1) ≡ first_row f ld t p + 1
  unfolding first_of
  first-of p = Seen.first-of f ld n t p

  size-of : (p : ℕ) → size_of r n t (p + 1) ≡ size_at f ld n t p
  unfolding size_of
  size-of p = Seen.size-of f ld n t p

  dtrexc-runs : (from to : ℕ) → leb n 1 ≡ false → dtrexc r n t (from + 1) (to + 1) ≡ runs (first_row f ld t from) (first_row f ld t to)
  unfolding dtrexc dtrexc_by runs
  dtrexc-runs from to e = rw (e, first-of from, first-of to, size-of (first_row f ld t from), size-of (first_row f ld t to))

  -- nowhere to go
  stays : (a b : ℕ) → a ≡ b → SameRun k t (start a) (record { T = t; ILST = b + 1; INFO = 0; calls = [] })
  unfolding returned
  stays a b e = rw (← e) (same-run a (goes (seen 0 a (start a))) (record { stopped = false; moving = start a }) (refl, start_on a))

  down : (a goal : ℕ) → ltb a goal ≡ true → SameRun k t (walk_down k n f ld n goal (start a)).moving (returned (label10 r n n (seen 0 goal (start a))))
  down a goal l = same-run goal (label10 r n n (seen 0 goal (start a))) (walk_down k n f ld n goal (start a)) (Down.loop x f ld n t calm goal n (start a) (start_on a) l)

  up : (a goal : ℕ) → ltb goal a ≡ true → SameRun k t (walk_up k n f ld n goal (start a)).moving (returned (label20 r n (seen 0 goal (start a))))
  up a goal l = same-run goal (label20 r n (seen 0 goal (start a))) (walk_up k n f ld n goal (start a)) (Up.loop x f ld n t calm goal n (start a) (start_on a) l)

  moves : (a to : ℕ) → to < n → SameRun k t (walk_from k f ld n a (first_row f ld t to) t).moving (runs a (first_row f ld t to))
  unfolding walk_from runs
  moves a to l =
      let b = first_row f ld t to in
      elim (ℕ_discrete a b) [
        | yes p ↦ rw (eqb_next a b, eq-eqb a b p) (stays a b p)
        | no p ↦ rw (eqb_next a b, ltb_next a b, ne_eqb a b p)
            (elim (dec_lt a b) [
              | yes q ↦ rw (lt-ltb a b q, goal-is f ld n t a b q) (down a _ (goal-below f ld n t a to l q))
              | no q ↦ rw (le-ltb a b (omega arith)) (up a b (lt-ltb b a (omega arith)))
            ])
      ]

  -- a form of one row
  single : (from to : ℕ) → from < n → to < n → leb n 1 ≡ true → SameRun k t (walk k f ld n from to t).moving (dtrexc r n t (from + 1) (to + 1))
  unfolding walk walk_from first_row dtrexc dtrexc_by
  single from to l h e =
      let o = leb-true n 1 e in
      let p : from ≡ 0 = omega arith in
      let q : to ≡ 0 = omega arith in
      rw (e, p, q) (stays 0 0 refl)

  pub stopping-runs : (from to : ℕ) → from < n → to < n → SameRun k t (walk k f ld n from to t).moving (dtrexc r n t (from + 1) (to + 1))
  unfolding walk
  stopping-runs from to l h = go (leb n 1) refl
    where
      go : (b : Bool) → leb n 1 ≡ b → SameRun k t (walk k f ld n from to t).moving (dtrexc r n t (from + 1) (to + 1))
      go true e = single from to l h e
      go false e = rw (dtrexc-runs from to e) (moves (first_row f ld t from) to h)

-- two single rows are not tested
pub calm : (f : Format) (ld n j : ℕ) (t : List Float) → declined_of (try_exchange f ld n j 1 1 t) ≡ 0
unfolding try_exchange test_fails swap_of swap11 standardise_also and_then declines_in
calm f ld n j t = refl

pub stopping_is_dtrexc : StoppingIsDtrexc
stopping_is_dtrexc f ld n from to t l h = stopping-runs (try_exchange f ld n) f ld n t (calm f ld n) from to l h
