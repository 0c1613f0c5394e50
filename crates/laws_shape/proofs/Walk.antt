-- A move of either kind on an accepted form: each of its exchanges lies between edges that no 2-block lies across, after a decline too, so that what it has done is made of steps that fit, the form keeps its shape, and numbers of the format stay such. Assumes nothing.
use mathlib.Core.Path.{◌≡◌, refl, ◌∙◌}
use Prim.Native.Nat.{ℕ, zero, suc, ◌+◌, ◌-◌, ◌≤◌, ◌<◌}
use native.Mathlib.Omega.{arith}
use mathlib.Core.Bool.{Bool, true, false, not, ◌&&◌, cond}
use mathlib.Core.List.{List, [], ◌∷◌, ◌++◌}
use lib.Dec.{eqb, ltb}
use lib.Ieee.{Float, Format}
use borrow.Author.Tests.{eqb-true, eqb-false, ltb-true}
use Rattle.model.specs.Form.{zero_below}
use Rattle.model.specs.Swaps.{Change, unchanged, and_then, declined_of}
use Rattle.model.specs.Exchange.{exchange_line}
use Rattle.model.specs.Move.{first_row, size_at, size_above, Exchange, Moving, arrived, landed_whole, goal_down}
use Rattle.model.specs.Stopping.{Kind, Going, goes, onward, trying, whole_down, past_two_down, apart_down, step_down, walk_down, whole_up, past_two_up, apart_up, step_up, walk_up, walk_from, walk}
use Rattle.laws_stride.proofs.Walk.{Standing, Size, size_in, above_in, first_below, goal-below}
use Rattle.laws_shape.specs.Steps.{Stepwise}
use Rattle.laws_shape.specs.Meets.{AllAccepted}
use Rattle.laws_shape.proofs.Numbers.{Numbers}
use Rattle.laws_shape.proofs.Shape.{Cut, Shape, cut_at}
use Rattle.laws_shape.proofs.Steps.{Edges, stepwise-none, stepwise_then}
use Rattle.laws_shape.proofs.Exchanges.{Lawful, still}
use Rattle.laws_shape.proofs.Blocks.{size_cut, above_cut, first_cut, exchange-accepted}

-- one exchange more at the end of a list
accepted-more : (k : Kind) (f : Format) (ld n : ℕ) (t e : List Float) (xs : List Exchange) (x : Exchange) → AllAccepted k f ld n t xs e → exchange_line f ld n e [] x.row x.n1 x.n2 ≡ 0
    → AllAccepted k f ld n t (xs ++ (x ∷ [])) (k.exchange x.row x.n1 x.n2 e).form
unfolding AllAccepted
accepted-more k f ld n t e [] x h g = rw h (g, refl)
accepted-more k f ld n t e (y ∷ xs) x h g = (h.0, accepted-more k f ld n (k.exchange y.row y.n1 y.n2 t).form e xs x h.1 g)

module _ (k : Kind) (f : Format) (ld n : ℕ) (L : Lawful k f ld n) (t : List Float) where
  -- ---- a move on its way

  -- what it has done
  pub record Far (m : Moving) : Type 0 where
    pub steps : Stepwise f ld n t m.change
    pub shape : Shape f ld n m.change.form
    pub accepted : AllAccepted k f ld n t m.exchanges m.change.form
    pub numbers : Numbers f t → Numbers f m.change.form

  -- wherever its block is said to be
  far_as : (here nbf : ℕ) (m : Moving) → Far m → Far (record { here = here; nbf = nbf; change = m.change; exchanges = m.exchanges })
  far_as here nbf m h = record { steps = h.steps; shape = h.shape; accepted = h.accepted; numbers = h.numbers }

  -- no 2-block lies across an edge of its form
  abbrev CutIn : Moving → ℕ → Type 0
  CutIn m e = Cut f ld n m.change.form e

  -- its block of s rows stands by itself, and where it has split, both rows do
  pub record Stands (s : ℕ) (m : Moving) : Type 0 where
    pub far : Far m
    pub standing : Standing n s m.here m.nbf
    pub upper : CutIn m m.here
    pub lower : CutIn m (m.here + s)
    pub inside : m.nbf ≡ 3 → CutIn m (m.here + 1)

  -- so much, or that it has stopped
  abbrev pub Holds : (Moving → Type 0) → Bool → Moving → Type 0
  Holds P true m = Far m
  Holds P false m = P m

  abbrev pub Onward : (Moving → Type 0) → Going → Type 0
  Onward P g = Holds P g.stopped g.moving

  then : (P Q : Moving → Type 0) (g : Going) (next : Moving → Going) → Onward P g → ((m : Moving) → P m → Onward Q (next m)) → Onward Q (onward g next)
  unfolding onward
  then P Q g next h more = go g.stopped refl h
    where
      go : (b : Bool) → g.stopped ≡ b → Holds P b g.moving → Onward Q (cond g.stopped g (next g.moving))
      go true e x = rw e x
      go false e x = rw e (more g.moving x)

  -- less of it
  weaken : (P Q : Moving → Type 0) (g : Going) → Onward P g → ((m : Moving) → P m → Q m) → Onward Q g
  weaken P Q g h less = go g.stopped h
    where
      go : (b : Bool) → Holds P b g.moving → Holds Q b g.moving
      go true x = x
      go false x = less g.moving x

  -- ---- one exchange more

  -- after it the block's row is what it was, the edges outside too, and none lies across the new middle
  record After (j n1 n2 : ℕ) (m e : Moving) : Type 0 where
    far : Far e
    here : e.here ≡ m.here
    nbf : e.nbf ≡ m.nbf
    outside : (x : ℕ) → (j < x → x < j + n1 + n2 → ⊥) → CutIn m x → CutIn e x
    middle : CutIn e (j + n2)

  try : (j n1 n2 : ℕ) (m : Moving) → Far m → Edges f ld n m.change.form j n1 n2 → Onward (After j n1 n2 m) (trying k j n1 n2 m)
  unfolding trying and_then
  try j n1 n2 m h e = go (k.stops && not (eqb (declined_of (k.exchange j n1 n2 m.change.form)) 0)) refl
    where
      c : Change
      c = m.change

      done : Moving
      done = record { here = m.here; nbf = m.nbf; change = and_then c (k.exchange j n1 n2); exchanges = m.exchanges ++ (record { row = j; n1 = n1; n2 = n2 } ∷ []) }

      far : Far done
      far =
          let g = L.goes j n1 n2 c.form h.shape e in
          record {
            steps = stepwise_then f ld n (k.exchange j n1 n2) h.steps g.steps;
            shape = g.kept.shape;
            accepted = accepted-more k f ld n t c.form m.exchanges (record { row = j; n1 = n1; n2 = n2 }) h.accepted (exchange-accepted f ld n c.form h.shape j n1 n2 e);
            numbers = λ m. g.numbers (h.numbers m);
          }

      go : (b : Bool) → (k.stops && not (eqb (declined_of (k.exchange j n1 n2 c.form)) 0)) ≡ b → Holds (After j n1 n2 m) b done
      go true p = far
      go false p =
          record {
            far = far;
            here = refl;
            nbf = refl;
            outside = λ x d. still x (L.goes j n1 n2 c.form h.shape e).kept d;
            middle = L.middle j n1 n2 c.form h.shape e p;
          }

  -- ---- it lands

  module _ (s : ℕ) where
    land : (row : ℕ) (m : Moving) → Far m → Standing n s row m.nbf → (m.nbf ≡ 3 → CutIn m (row + 1)) → CutIn m row → CutIn m (row + s) → Onward (Stands s) (goes (landed_whole f ld row m))
    unfolding landed_whole
    land row m h w i u l = go (eqb m.nbf 2) refl (zero_below f ld m.change.form row) refl
      where
        go : (a : Bool) → eqb m.nbf 2 ≡ a → (b : Bool) → zero_below f ld m.change.form row ≡ b
            → Stands s (record { here = row; nbf = cond (a && b) 3 m.nbf; change = m.change; exchanges = m.exchanges })
        go true p true q =
            let z = eqb-true m.nbf 2 p in
            record { far = far_as row 3 m h; standing = omega arith; upper = u; lower = l; inside = λ _. cut_at f ld n m.change.form (row + 1) row refl (λ _. q) }
        go true p false q = record { far = far_as row m.nbf m h; standing = w; upper = u; lower = l; inside = i }
        go false p b q = record { far = far_as row m.nbf m h; standing = w; upper = u; lower = l; inside = i }

  -- an edge by another name
  named : (m : Moving) {x y : ℕ} → x ≡ y → CutIn m x → CutIn m y
  named m e c = rw e at c

  -- two rows that have split arrive in a row
  record Apart (row : ℕ) (m : Moving) : Type 0 where
    far : Far m
    nbf : m.nbf ≡ 3
    upper : CutIn m row
    inside : CutIn m (row + 1)
    lower : CutIn m (row + 2)

  arrive : (row : ℕ) (m : Moving) → row + 2 ≤ n → Apart row m → Onward (Stands 2) (goes (arrived row m))
  unfolding arrived
  arrive row m g h =
      let z = h.nbf in
      record { far = far_as row m.nbf m h.far; standing = omega arith; upper = h.upper; lower = h.lower; inside = λ _. h.inside }

  -- ---- down

  whole-down : (s : ℕ) (m : Moving) → m.here + s < n → eqb m.nbf 3 ≡ false → Stands s m → Onward (Stands s) (whole_down k f ld n m)
  unfolding whole_down
  whole-down s m g e h =
      let d = eqb-false m.nbf 3 e in
      let w = h.standing in
      let q : m.nbf ≡ s = omega arith in
      let c = m.change.form in
      let p = m.here + m.nbf in
      let next = size_at f ld n c p in
      let x = size_in f ld n p c (omega arith) in
      then (After m.here m.nbf next m) (Stands s) _ _
      (try m.here m.nbf next m h.far (record { room = omega arith; upper = h.upper; middle = named m (omega arith) h.lower; lower = size_cut f ld n c h.far.shape p }))
      (λ o a. let b = a.nbf in
      land s (m.here + next) o a.far (omega arith) (λ z. absurd (omega arith)) a.middle
      (named o (omega arith) (a.outside (p + next) (λ l r. omega arith) (size_cut f ld n c h.far.shape p))))

  -- two rows, of which the lower has passed a 2-block
  past_two-down : (m : Moving) → m.here + 4 ≤ n → Far m → m.nbf ≡ 3 → CutIn m m.here → CutIn m (m.here + 1) → CutIn m (m.here + 3) → CutIn m (m.here + 4)
      → Onward (Stands 2) (past_two_down k f ld n m)
  unfolding past_two_down
  past_two-down m g h b c0 c1 c3 c4 =
      then (Apart (j + 2)) (Stands 2) _ _ (go (zero_below f ld m.change.form (j + 1)) refl) (λ o a. arrive (j + 2) o (omega arith) a)
    where
      j : ℕ
      j = m.here

      go : (z : Bool) → zero_below f ld m.change.form (j + 1) ≡ z → Onward (Apart (j + 2)) (cond z (onward (trying k j 1 1 m) (trying k (j + 1) 1 1)) (trying k j 1 2 m))
      go true z =
          let c2 = cut_at f ld n m.change.form (j + 1 + 1) (j + 1) refl (λ _. z) in
          then (After j 1 1 m) (Apart (j + 2)) (trying k j 1 1 m) (trying k (j + 1) 1 1) (try j 1 1 m h (record { room = omega arith; upper = c0; middle = c1; lower = c2 }))
          (λ o a. let a2 = a.outside (j + 1 + 1) (λ l r. omega arith) c2 in
          let a3 = a.outside (j + 3) (λ l r. omega arith) c3 in
          weaken (After (j + 1) 1 1 o) (Apart (j + 2)) (trying k (j + 1) 1 1 o) (try (j + 1) 1 1 o a.far (record { room = omega arith; upper = a.middle; middle = a2; lower = named o (omega arith) a3 }))
          (λ d x. record {
            far = x.far;
            nbf = x.nbf ∙ a.nbf ∙ b;
            upper = named d (omega arith) x.middle;
            inside = named d (omega arith) (x.outside (j + 3) (λ l r. omega arith) a3);
            lower = named d (omega arith) (x.outside (j + 4) (λ l r. omega arith) (a.outside (j + 4) (λ l r. omega arith) c4));
          }))
      go false z =
          weaken (After j 1 2 m) (Apart (j + 2)) (trying k j 1 2 m) (try j 1 2 m h (record { room = omega arith; upper = c0; middle = c1; lower = named m (omega arith) c3 }))
          (λ o a. record {
            far = a.far;
            nbf = a.nbf ∙ b;
            upper = a.middle;
            inside = named o (omega arith) (a.outside (j + 3) (λ l r. omega arith) c3);
            lower = named o (omega arith) (a.outside (j + 4) (λ l r. omega arith) c4);
          })

  apart-down : (m : Moving) → m.here + 2 < n → eqb m.nbf 3 ≡ true → Stands 2 m → Onward (Stands 2) (apart_down k f ld n m)
  unfolding apart_down
  apart-down m g e h =
      let y = x in
      then (After (j + 1) 1 next m) (Stands 2) _ _
      (try (j + 1) 1 next m h.far (record { room = omega arith; upper = h.inside b; middle = named m (omega arith) h.lower; lower = named m (omega arith) below }))
      (λ o a. go o a (eqb next 1) refl)
    where
      j : ℕ
      j = m.here

      b : m.nbf ≡ 3
      b = eqb-true m.nbf 3 e

      next : ℕ
      next = size_at f ld n m.change.form (j + 2)

      x : Size (n - (j + 2)) next
      x = size_in f ld n (j + 2) m.change.form g

      below : CutIn m (j + 2 + next)
      below = size_cut f ld n m.change.form h.far.shape (j + 2)

      go : (o : Moving) → After (j + 1) 1 next m o → (z : Bool) → eqb next 1 ≡ z → Onward (Stands 2) (cond z (onward (trying k j 1 1 o) (λ d. goes (arrived (j + 1) d))) (past_two_down k f ld n o))
      go o a true q =
          let y = x in
          let z = eqb-true next 1 q in
          let a1 = a.outside (j + 1) (λ l r. omega arith) (h.inside b) in
          let a2 : CutIn o (j + 2) = named o (omega arith) a.middle in
          then (After j 1 1 o) (Stands 2) (trying k j 1 1 o) (λ d. goes (arrived (j + 1) d)) (try j 1 1 o a.far (record { room = omega arith; upper = a.outside j (λ l r. omega arith) h.upper; middle = a1; lower = named o (omega arith) a2 }))
          (λ d c. arrive (j + 1) d (omega arith)
          (record {
            far = c.far;
            nbf = c.nbf ∙ a.nbf ∙ b;
            upper = c.middle;
            inside = named d (omega arith) (c.outside (j + 2) (λ l r. omega arith) a2);
            lower = named d (omega arith) (c.outside (j + 2 + next) (λ l r. omega arith) (a.outside (j + 2 + next) (λ l r. omega arith) below));
          }))
      go o a false q =
          let y = x in
          let z = eqb-false next 1 q in
          let i = a.here in
          past_two-down o (omega arith) a.far (a.nbf ∙ b) (named o (omega arith) (a.outside j (λ l r. omega arith) h.upper)) (named o (omega arith) (a.outside (j + 1) (λ l r. omega arith) (h.inside b))) (named o (omega arith) a.middle)
          (named o (omega arith) (a.outside (j + 2 + next) (λ l r. omega arith) below))

  step_down_lem : (s : ℕ) (m : Moving) → m.here + s < n → Stands s m → Onward (Stands s) (step_down k f ld n m)
  unfolding step_down
  step_down_lem s m g h = go (eqb m.nbf 3) refl
    where
      go : (b : Bool) → eqb m.nbf 3 ≡ b → Onward (Stands s) (cond b (apart_down k f ld n m) (whole_down k f ld n m))
      go true e =
          let z = eqb-true m.nbf 3 e in
          let w = h.standing in
          let q : s ≡ 2 = omega arith in
          rw q (apart-down m (omega arith) e (rw q at h))
      go false e = whole-down s m g e h

  walk-down : (s i goal : ℕ) (m : Moving) → goal + s ≤ n → Stands s m → Onward (Stands s) (walk_down k i f ld n goal m)
  unfolding walk_down
  walk-down s zero goal m g h = h
  walk-down s (suc i) goal m g h = go (λ o. walk-down s i goal o g) (ltb m.here goal) refl
    where
      go : ((o : Moving) → Stands s o → Onward (Stands s) (walk_down k i f ld n goal o)) → (b : Bool) → ltb m.here goal ≡ b → Onward (Stands s) (cond b (onward (step_down k f ld n m) (walk_down k i f ld n goal)) (goes m))
      go more true e = let l = ltb-true m.here goal e in then (Stands s) (Stands s) (step_down k f ld n m) (walk_down k i f ld n goal) (step_down_lem s m (omega arith) h) more
      go more false e = h

  -- ---- up

  whole_up_lem : (s : ℕ) (m : Moving) → 0 < m.here → eqb m.nbf 3 ≡ false → Stands s m → Onward (Stands s) (whole_up k f ld n m)
  unfolding whole_up
  whole_up_lem s m g e h =
      let d = eqb-false m.nbf 3 e in
      let w = h.standing in
      let q : m.nbf ≡ s = omega arith in
      let c = m.change.form in
      let next = size_above f ld c m.here in
      let row = m.here - next in
      let x = above_in f ld m.here c g in
      let up = above_cut f ld n c h.far.shape m.here g (omega arith) in
      then (After row next m.nbf m) (Stands s) _ _
      (try row next m.nbf m h.far (record { room = omega arith; upper = up; middle = named m (omega arith) h.upper; lower = named m (omega arith) h.lower }))
      (λ o a. let b = a.nbf in
      land s row o a.far (omega arith) (λ z. absurd (omega arith)) (a.outside row (λ l r. omega arith) up) (named o (omega arith) a.middle))

  -- two rows, of which the upper has passed a 2-block
  past_two_up_lem : (m : Moving) → 2 ≤ m.here → m.here + 2 ≤ n → Far m → m.nbf ≡ 3 → CutIn m (m.here - 2) → CutIn m (m.here - 1) → CutIn m (m.here + 1) → CutIn m (m.here + 2)
      → Onward (Stands 2) (past_two_up k f ld n m)
  unfolding past_two_up
  past_two_up_lem m g0 g h b u2 u1 c1 c2 =
      then (Apart (j - 2)) (Stands 2) _ _ (go (zero_below f ld m.change.form (j - 1)) refl) (λ o a. arrive (j - 2) o (omega arith) a)
    where
      j : ℕ
      j = m.here

      go : (z : Bool) → zero_below f ld m.change.form (j - 1) ≡ z → Onward (Apart (j - 2)) (cond z (onward (trying k j 1 1 m) (trying k (j - 1) 1 1)) (trying k (j - 1) 2 1 m))
      go true z =
          let q : j - 1 + 1 ≡ j = omega arith in
          let c0 : CutIn m j = cut_at f ld n m.change.form j (j - 1) (omega arith) (λ _. rw q at z) in
          then (After j 1 1 m) (Apart (j - 2)) (trying k j 1 1 m) (trying k (j - 1) 1 1) (try j 1 1 m h (record { room = omega arith; upper = c0; middle = c1; lower = named m (omega arith) c2 }))
          (λ o a. let a0 = a.outside j (λ l r. omega arith) c0 in
          let a1 = a.outside (j - 1) (λ l r. omega arith) u1 in
          weaken (After (j - 1) 1 1 o) (Apart (j - 2)) (trying k (j - 1) 1 1 o) (try (j - 1) 1 1 o a.far (record { room = omega arith; upper = a1; middle = named o (omega arith) a0; lower = named o (omega arith) a.middle }))
          (λ d x. record {
            far = x.far;
            nbf = x.nbf ∙ a.nbf ∙ b;
            upper = x.outside (j - 2) (λ l r. omega arith) (a.outside (j - 2) (λ l r. omega arith) u2);
            inside = named d (omega arith) (x.outside (j - 1) (λ l r. omega arith) a1);
            lower = named d (omega arith) x.middle;
          }))
      go false z =
          weaken (After (j - 1) 2 1 m) (Apart (j - 2)) (trying k (j - 1) 2 1 m) (try (j - 1) 2 1 m h (record { room = omega arith; upper = u1; middle = named m (omega arith) c1; lower = named m (omega arith) c2 }))
          (λ o a. record {
            far = a.far;
            nbf = a.nbf ∙ b;
            upper = a.outside (j - 2) (λ l r. omega arith) u2;
            inside = named o (omega arith) (a.outside (j - 1) (λ l r. omega arith) u1);
            lower = named o (omega arith) a.middle;
          })

  apart_up_lem : (m : Moving) → 0 < m.here → eqb m.nbf 3 ≡ true → Stands 2 m → Onward (Stands 2) (apart_up k f ld n m)
  unfolding apart_up
  apart_up_lem m g e h =
      let y = x in
      then (After row next 1 m) (Stands 2) _ _
      (try row next 1 m h.far (record { room = omega arith; upper = up; middle = named m (omega arith) h.upper; lower = named m (omega arith) (h.inside b) }))
      (λ o a. go o a (eqb next 1) refl)
    where
      j : ℕ
      j = m.here

      b : m.nbf ≡ 3
      b = eqb-true m.nbf 3 e

      w : Standing n 2 j m.nbf
      w = h.standing

      next : ℕ
      next = size_above f ld m.change.form j

      row : ℕ
      row = j - next

      x : Size j next
      x = above_in f ld j m.change.form g

      up : CutIn m row
      up = above_cut f ld n m.change.form h.far.shape j g (omega (arith, w))

      go : (o : Moving) → After row next 1 m o → (z : Bool) → eqb next 1 ≡ z → Onward (Stands 2) (cond z (onward (trying k j 1 1 o) (λ d. goes (arrived (j - 1) d))) (past_two_up k f ld n o))
      go o a true q =
          let y = x in
          let v = w in
          let z = eqb-true next 1 q in
          let a0 : CutIn o j = named o (omega arith) a.middle in
          then (After j 1 1 o) (Stands 2) (trying k j 1 1 o) (λ d. goes (arrived (j - 1) d))
          (try j 1 1 o a.far (record { room = omega arith; upper = a0; middle = a.outside (j + 1) (λ l r. omega arith) (h.inside b); lower = named o (omega arith) (a.outside (j + 2) (λ l r. omega arith) h.lower) }))
          (λ d c. arrive (j - 1) d (omega arith)
          (record {
            far = c.far;
            nbf = c.nbf ∙ a.nbf ∙ b;
            upper = named d (omega arith) (c.outside row (λ l r. omega arith) (a.outside row (λ l r. omega arith) up));
            inside = named d (omega arith) (c.outside j (λ l r. omega arith) a0);
            lower = named d (omega arith) c.middle;
          }))
      go o a false q =
          let y = x in
          let v = w in
          let z = eqb-false next 1 q in
          let i = a.here in
          past_two_up_lem o (omega arith) (omega arith) a.far (a.nbf ∙ b) (named o (omega arith) (a.outside row (λ l r. omega arith) up)) (named o (omega arith) a.middle) (named o (omega arith) (a.outside (j + 1) (λ l r. omega arith) (h.inside b)))
          (named o (omega arith) (a.outside (j + 2) (λ l r. omega arith) h.lower))

  step_up_lem : (s : ℕ) (m : Moving) → 0 < m.here → Stands s m → Onward (Stands s) (step_up k f ld n m)
  unfolding step_up
  step_up_lem s m g h = go (eqb m.nbf 3) refl
    where
      go : (b : Bool) → eqb m.nbf 3 ≡ b → Onward (Stands s) (cond b (apart_up k f ld n m) (whole_up k f ld n m))
      go true e =
          let z = eqb-true m.nbf 3 e in
          let w = h.standing in
          let q : s ≡ 2 = omega arith in
          rw q (apart_up_lem m g e (rw q at h))
      go false e = whole_up_lem s m g e h

  walk_up_lem : (s i goal : ℕ) (m : Moving) → Stands s m → Onward (Stands s) (walk_up k i f ld n goal m)
  unfolding walk_up
  walk_up_lem s zero goal m h = h
  walk_up_lem s (suc i) goal m h = go (λ o. walk_up_lem s i goal o) (ltb goal m.here) refl
    where
      go : ((o : Moving) → Stands s o → Onward (Stands s) (walk_up k i f ld n goal o)) → (b : Bool) → ltb goal m.here ≡ b → Onward (Stands s) (cond b (onward (step_up k f ld n m) (walk_up k i f ld n goal)) (goes m))
      go more true e = let l = ltb-true goal m.here e in then (Stands s) (Stands s) (step_up k f ld n m) (walk_up k i f ld n goal) (step_up_lem s m (omega arith) h) more
      go more false e = h

  -- ---- the move

  module _ (shape : Shape f ld n t) where
    walk_from_lem : (from to : ℕ) → from < n → to < n → Cut f ld n t from → Onward (Stands (size_at f ld n t from)) (walk_from k f ld n from to t)
    unfolding walk_from AllAccepted
    walk_from_lem from to h g c = go (eqb from to) refl (ltb from to) refl
      where
        s : ℕ
        s = size_at f ld n t from

        x : Size (n - from) s
        x = size_in f ld n from t h

        start : Moving
        start = record { here = from; nbf = s; change = unchanged t; exchanges = [] }

        stands : Stands s start
        stands =
            let y = x in
            record {
              far = record { steps = stepwise-none f ld n t; shape = shape; accepted = refl; numbers = λ m. m };
              standing = omega arith;
              upper = c;
              lower = size_cut f ld n t shape from;
              inside = λ z. absurd (omega arith);
            }

        go : (a : Bool) → eqb from to ≡ a → (b : Bool) → ltb from to ≡ b
            → Onward (Stands s) (cond a (goes start) (cond b (walk_down k n f ld n (goal_down s (size_at f ld n t to) to) start) (walk_up k n f ld n to start)))
        go true p b q = stands
        go false p true q =
            let y = x in
            let l = ltb-true from to q in
            walk-down s n (goal_down s (size_at f ld n t to) to) start (goal-below n s _ to y.some y.most (omega arith) g (size_in f ld n to t g)) stands
        go false p false q = walk_up_lem s n to start stands

    pub walk-stands : (from to : ℕ) → from < n → to < n → Onward (Stands (size_at f ld n t (first_row f ld t from))) (walk k f ld n from to t)
    unfolding walk
    walk-stands from to h g = walk_from_lem _ _ (first_below f ld n from t h) (first_below f ld n to t g) (first_cut f ld n t shape from h)
