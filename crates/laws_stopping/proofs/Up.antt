-- Going up: a time round label 20 is a step of the move, and the loops agree. Assumes nothing.
use Prim.Native.Nat.{ℕ, zero, suc, ◌+◌, ◌-◌, ◌≤◌, ◌<◌}
use native.Mathlib.Omega.{arith}
use mathlib.Core.Path.{◌≡◌, refl}
use mathlib.Core.Logic.{◌⊎◌, inl, inr}
use mathlib.Core.Bool.{Bool, true, false, ◌||◌, cond}
use mathlib.Core.List.{List}
use lib.Dec.{eqb, ltb}
use lib.Ieee.{Float, Format, ne}
use borrow.Author.Tests.{ltb-true}
use Rattle.model.specs.Form.{zero_below}
use Rattle.model.specs.Swaps.{Change, declined_of}
use Rattle.model.specs.Move.{Moving, size_above, arrived}
use Rattle.model.specs.Stopping.{Kind, Going, trying, onward, whole_up, past_two_up, apart_up, step_up, walk_up}
use Rattle.laws_dtrexc.specs.Dtrexc.{Routines, Variables, Control, goes, ◌>>=◌, to_row, call, call_or_return, breaks, above, above3_past2, above3, label20}
use Rattle.laws_dtrexc.specs.Zeros.{above_by}
use Rattle.laws_dtrexc.proofs.Seen.{seen, zero-at, next-above, ltb_next}
use Rattle.laws_dtrexc.proofs.Kept
use Rattle.laws_dtrexc.proofs.Next.{above_cases}
use Rattle.laws_stopping.specs.Follows.{routines}
use Rattle.laws_stopping.proofs.Agree.{OneTwo, one, two, whole-size, kind, On, At, Agrees, bind, tries, single, row_at, breaks-at}

-- 2, with two rows above, or 1
sizes : (f : Format) (ld : ℕ) (t : List Float) (p : ℕ) → ((size_above f ld t p ≡ 2) × (2 ≤ p)) ⊎ (size_above f ld t p ≡ 1)
unfolding size_above above_by ne
sizes f ld t p = above_cases (zero_below f ld t) p

above_one_two : (f : Format) (ld : ℕ) (t : List Float) (p : ℕ) → OneTwo (size_above f ld t p)
above_one_two f ld t p = elim (sizes f ld t p) [ inl e ↦ inr e.0 | inr e ↦ inl e ]

-- the block above has room there
fits : (f : Format) (ld : ℕ) (t : List Float) (p : ℕ) → 0 < p → size_above f ld t p ≤ p
fits f ld t p l = elim (sizes f ld t p) [ inl e ↦ omega (arith, e.0, e.1) | inr e ↦ omega arith ]

module _ (x : ℕ → ℕ → ℕ → List Float → Change) (f : Format) (ld n : ℕ) (t : List Float) (calm : (j : ℕ) (u : List Float) → declined_of (x j 1 1 u) ≡ 0) (goal : ℕ) where
  abbrev k : Kind
  k = kind x f ld n t

  abbrev r : Routines (List Float)
  r = routines k f ld

  abbrev P : Moving → Type 0
  P m = On x f ld n t m

  abbrev A : ℕ → Moving → Type 0
  A h m = At x f ld n t h m

  abbrev Same : (Moving → Type 0) → Control (List Float) → Going → Type 0
  Same Q c g = Agrees x f ld n t Q goal c g

  -- ---- one row or a 2-block

  whole : (m : Moving) → P m → 0 < m.here → eqb m.nbf 3 ≡ false → Same P (above r (seen 0 goal m)) (whole_up k f ld n m)
  unfolding above whole_up
  whole m o l e =
      let h = m.here in
      let next = size_above f ld m.change.form h in
      let room = fits f ld m.change.form h l in
      rw (next-above f ld n m.change.form h)
      (bind x f ld n t (A h) P goal _ _ (λ w. goes (breaks r (to_row (w.HERE - next) w))) _
      (tries x f ld n t goal (h + 1 - next) (h - next) next m.nbf h m (omega arith) (record { first = above_one_two f ld m.change.form h; second = whole-size m.nbf o.low o.high e }) (record { on = o; here = refl }))
      (λ w a. let q = a.here in breaks-at x f ld n t goal (w.here + 1 - next) (h - next) w (omega arith) a.on))

  -- ---- two rows

  past : (m : Moving) → P m → 2 ≤ m.here → Same P (above3_past2 r (seen 0 goal m)) (past_two_up k f ld n m)
  unfolding above3_past2 past_two_up
  past m o l = rw (zero-at f ld n m.change.form (m.here + 1) (m.here + 1 - 1) (m.here - 1) (omega arith) (omega arith)) (go (zero_below f ld m.change.form (m.here - 1)))
    where
      arrives : (w : Moving) → A m.here w → Same P (goes (to_row (w.here + 1 - 2) (seen 0 goal w))) (record { stopped = false; moving = arrived (m.here - 2) w })
      arrives w b = let q = b.here in row_at x f ld n t goal (w.here + 1 - 2) (m.here - 2) w (omega arith) b.on

      v : Variables (List Float)
      v = seen 0 goal m

      go : (b : Bool)
          → Same P
          (cond (eqb (cond b 1 2) 2) (call_or_return r (m.here + 1 - 1) 2 1 v >>= (λ w. goes (to_row (w.HERE - 2) w)))
          (let w = call r (m.here + 1) 1 1 v in let y = call r (w.HERE - 1) 1 1 w in goes (to_row (y.HERE - 2) y)))
          (onward (cond b (onward (trying k m.here 1 1 m) (trying k (m.here - 1) 1 1)) (trying k (m.here - 1) 2 1 m)) (λ e. record { stopped = false; moving = arrived (m.here - 2) e }))
      go true =
          bind x f ld n t (A m.here) P goal (goes (call r (m.here + 1) 1 1 v) >>= (λ w. goes (call r (w.HERE - 1) 1 1 w))) _ (λ y. goes (to_row (y.HERE - 2) y)) _
          (bind x f ld n t (A m.here) (A m.here) goal (goes (call r (m.here + 1) 1 1 v)) _ (λ w. goes (call r (w.HERE - 1) 1 1 w)) _ (single x f ld n t calm goal (m.here + 1) m.here m.here m refl (record { on = o; here = refl }))
          (λ w b. let q = b.here in single x f ld n t calm goal (w.here + 1 - 1) (m.here - 1) m.here w (omega arith) b))
          arrives
      go false =
          bind x f ld n t (A m.here) P goal _ _ (λ w. goes (to_row (w.HERE - 2) w)) _
          (tries x f ld n t goal (m.here + 1 - 1) (m.here - 1) 2 1 m.here m (omega arith) (record { first = two; second = one }) (record { on = o; here = refl })) arrives

  apart : (m : Moving) → P m → 0 < m.here → Same P (above3 r (seen 0 goal m)) (apart_up k f ld n m)
  unfolding above3 apart_up
  apart m o l = rw (next-above f ld n m.change.form m.here) (go (size_above f ld m.change.form m.here) (sizes f ld m.change.form m.here))
    where
      go : (next : ℕ) → ((next ≡ 2) × (2 ≤ m.here)) ⊎ (next ≡ 1)
          → Same P (call_or_return r (m.here + 1 - next) next 1 (seen 0 goal m) >>= (λ w. cond (eqb next 1) (let y = call r w.HERE next 1 w in goes (to_row (y.HERE - 1) y)) (above3_past2 r w)))
          (onward (trying k (m.here - next) next 1 m) (λ e. cond (eqb next 1) (onward (trying k m.here 1 1 e) (λ d. record { stopped = false; moving = arrived (m.here - 1) d })) (past_two_up k f ld n e)))
      go next (inl (e, room)) =
          rw e
          (bind x f ld n t (A m.here) P goal _ _ (above3_past2 r) _
          (tries x f ld n t goal (m.here + 1 - 2) (m.here - 2) 2 1 m.here m (omega arith) (record { first = two; second = one }) (record { on = o; here = refl }))
          (λ w a. let q = a.here in past w a.on (omega arith)))
      go next (inr e) =
          rw e
          (bind x f ld n t (A m.here) P goal _ _ (λ w. let y = call r w.HERE 1 1 w in goes (to_row (y.HERE - 1) y)) _
          (tries x f ld n t goal (m.here + 1 - 1) (m.here - 1) 1 1 m.here m (omega arith) (record { first = one; second = one }) (record { on = o; here = refl }))
          (λ w a. bind x f ld n t (A m.here) P goal (goes (call r (w.here + 1) 1 1 (seen 0 goal w))) _ (λ y. goes (to_row (y.HERE - 1) y)) _ (let q = a.here in single x f ld n t calm goal (w.here + 1) m.here m.here w (omega arith) a)
          (λ y b. let q = b.here in row_at x f ld n t goal (y.here + 1 - 1) (m.here - 1) y (omega arith) b.on)))

  -- ---- once round, and the loop

  once : (m : Moving) → P m → 0 < m.here → Same P (cond (eqb m.nbf 1 || eqb m.nbf 2) (above r (seen 0 goal m)) (above3 r (seen 0 goal m))) (step_up k f ld n m)
  unfolding step_up
  once m o l = elim (Kept.kind m.nbf o.low o.high) [ inl e ↦ rw (e.0, e.1) (apart m o l) | inr e ↦ rw (e.0, e.1) (whole m o l e.0) ]

  -- there
  pub stays : (i : ℕ) (m : Moving) → ltb goal m.here ≡ false → walk_up k i f ld n goal m ≡ record { stopped = false; moving = m }
  unfolding walk_up
  stays zero m e = refl
  stays (suc i) m e = rw e

  -- after a time round: to the label, or there
  after : (i : ℕ) (m : Moving) → P m → (ltb goal m.here ≡ true → Same P (label20 r i (seen 0 goal m)) (walk_up k i f ld n goal m))
      → Same P (cond (ltb (goal + 1) (m.here + 1)) (label20 r i (seen 0 goal m)) (goes (seen 0 goal m))) (walk_up k i f ld n goal m)
  after i m o again = rw (ltb_next goal m.here) (go (ltb goal m.here) refl)
    where
      go : (b : Bool) → ltb goal m.here ≡ b → Same P (cond b (label20 r i (seen 0 goal m)) (goes (seen 0 goal m))) (walk_up k i f ld n goal m)
      go true e = again e
      go false e = rw (stays i m e) (refl, o)

  pub loop : (i : ℕ) (m : Moving) → P m → ltb goal m.here ≡ true → Same P (label20 r i (seen 0 goal m)) (walk_up k i f ld n goal m)
  unfolding label20 walk_up
  loop zero m o l = (refl, o)
  loop (suc i) m o l =
      let p = ltb-true goal m.here l in
      rw l (bind x f ld n t P P goal _ _ (λ w. cond (ltb w.ILST w.HERE) (label20 r i w) (goes w)) _ (once m o (omega arith)) (λ w p. after i w p (λ e. loop i w p e)))
