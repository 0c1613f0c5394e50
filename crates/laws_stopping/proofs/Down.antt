-- Going down: a time round label 10 is a step of the move, and the loops agree. Assumes nothing.
use Prim.Native.Nat.{ℕ, zero, suc, ◌+◌}
use native.Mathlib.Omega.{arith}
use mathlib.Core.Path.{◌≡◌, refl}
use mathlib.Core.Logic.{inl, inr}
use mathlib.Core.Bool.{Bool, true, false, ◌||◌, cond}
use mathlib.Core.List.{List}
use lib.Dec.{eqb, ltb}
use lib.Ieee.{Float, Format, ne}
use Rattle.model.specs.Form.{zero_below, two_block}
use Rattle.model.specs.Swaps.{Change, declined_of}
use Rattle.model.specs.Move.{Moving, size_at, arrived}
use Rattle.model.specs.Stopping.{Kind, Going, trying, onward, whole_down, past_two_down, apart_down, step_down, walk_down}
use Rattle.laws_dtrexc.specs.Dtrexc.{Routines, Variables, Control, goes, ◌>>=◌, to_row, call, call_or_return, breaks, below, below3_past2, below3, label10}
use Rattle.laws_dtrexc.specs.Zeros.{size_by}
use Rattle.laws_dtrexc.proofs.Seen.{seen, zero-at, next-below, ltb_next}
use Rattle.laws_dtrexc.proofs.Kept
use Rattle.laws_dtrexc.proofs.Next.{size_cases}
use Rattle.laws_stopping.specs.Follows.{routines}
use Rattle.laws_stopping.proofs.Agree.{OneTwo, one, two, whole-size, kind, On, At, Agrees, bind, tries, single, row_at, breaks-at}

pub size_one_two : (f : Format) (ld n : ℕ) (t : List Float) (p : ℕ) → OneTwo (size_at f ld n t p)
unfolding size_at two_block size_by ne
size_one_two f ld n t p = elim (size_cases n (zero_below f ld t) p) [ inl e ↦ inr e.0 | inr e ↦ inl e ]

module _ (x : ℕ → ℕ → ℕ → List Float → Change) (f : Format) (ld n : ℕ) (t : List Float) (calm : (j : ℕ) (u : List Float) → declined_of (x j 1 1 u) ≡ 0) (goal : ℕ) where
  abbrev k : Kind
  k = kind x f ld n t

  abbrev r : Routines (List Float)
  r = routines k f ld

  abbrev P : Moving → Type 0
  P m = On x f ld n t m

  abbrev A : ℕ → Moving → Type 0
  A h m = At x f ld n t h m

  abbrev Same : (Moving → Type 0) → Control (List Float) → Going → Type 0
  Same Q c g = Agrees x f ld n t Q goal c g

  -- ---- one row or a 2-block

  whole : (m : Moving) → P m → eqb m.nbf 3 ≡ false → Same P (below r n (seen 0 goal m)) (whole_down k f ld n m)
  unfolding below whole_down
  whole m o e =
      let h = m.here in
      let next = size_at f ld n m.change.form (h + m.nbf) in
      rw (next-below f ld n m.change.form (h + 1 + m.nbf + 1) (h + 1 + m.nbf) (h + m.nbf) (omega arith) (omega arith))
      (bind x f ld n t (A h) P goal _ _ (λ w. goes (breaks r (to_row (w.HERE + next) w))) _
      (tries x f ld n t goal (h + 1) h m.nbf next h m refl (record { first = whole-size m.nbf o.low o.high e; second = size_one_two f ld n m.change.form (h + m.nbf) }) (record { on = o; here = refl }))
      (λ w a. let q = a.here in breaks-at x f ld n t goal (w.here + 1 + next) (h + next) w (omega arith) a.on))

  -- ---- two rows

  past : (m : Moving) → P m → Same P (below3_past2 r n (seen 0 goal m)) (past_two_down k f ld n m)
  unfolding below3_past2 past_two_down
  past m o = rw (zero-at f ld n m.change.form (m.here + 1 + 2) (m.here + 1 + 1) (m.here + 1) (omega arith) (omega arith)) (go (zero_below f ld m.change.form (m.here + 1)))
    where
      arrives : (w : Moving) → A m.here w → Same P (goes (to_row (w.here + 1 + 2) (seen 0 goal w))) (record { stopped = false; moving = arrived (m.here + 2) w })
      arrives w b = let q = b.here in row_at x f ld n t goal (w.here + 1 + 2) (m.here + 2) w (omega arith) b.on

      v : Variables (List Float)
      v = seen 0 goal m

      go : (b : Bool)
          → Same P
          (cond (eqb (cond b 1 2) 2) (call_or_return r (m.here + 1) 1 (cond b 1 2) v >>= (λ w. goes (to_row (w.HERE + 2) w)))
          (let w = call r (m.here + 1) 1 1 v in let y = call r (w.HERE + 1) 1 1 w in goes (to_row (y.HERE + 2) y)))
          (onward (cond b (onward (trying k m.here 1 1 m) (trying k (m.here + 1) 1 1)) (trying k m.here 1 2 m)) (λ e. record { stopped = false; moving = arrived (m.here + 2) e }))
      go true =
          bind x f ld n t (A m.here) P goal (goes (call r (m.here + 1) 1 1 v) >>= (λ w. goes (call r (w.HERE + 1) 1 1 w))) _ (λ y. goes (to_row (y.HERE + 2) y)) _
          (bind x f ld n t (A m.here) (A m.here) goal (goes (call r (m.here + 1) 1 1 v)) _ (λ w. goes (call r (w.HERE + 1) 1 1 w)) _ (single x f ld n t calm goal (m.here + 1) m.here m.here m refl (record { on = o; here = refl }))
          (λ w b. let q = b.here in single x f ld n t calm goal (w.here + 1 + 1) (m.here + 1) m.here w (omega arith) b))
          arrives
      go false =
          bind x f ld n t (A m.here) P goal _ _ (λ w. goes (to_row (w.HERE + 2) w)) _ (tries x f ld n t goal (m.here + 1) m.here 1 2 m.here m refl (record { first = one; second = two }) (record { on = o; here = refl })) arrives

  apart : (m : Moving) → P m → Same P (below3 r n (seen 0 goal m)) (apart_down k f ld n m)
  unfolding below3 apart_down
  apart m o =
      rw (next-below f ld n m.change.form (m.here + 1 + 3) (m.here + 1 + 2) (m.here + 2) (omega arith) (omega arith)) (go (size_at f ld n m.change.form (m.here + 2)) (size_one_two f ld n m.change.form (m.here + 2)))
    where
      go : (next : ℕ) → OneTwo next
          → Same P (call_or_return r (m.here + 1 + 1) 1 next (seen 0 goal m) >>= (λ w. cond (eqb next 1) (let y = call r w.HERE 1 next w in goes (to_row (y.HERE + 1) y)) (below3_past2 r n w)))
          (onward (trying k (m.here + 1) 1 next m) (λ e. cond (eqb next 1) (onward (trying k m.here 1 1 e) (λ d. record { stopped = false; moving = arrived (m.here + 1) d })) (past_two_down k f ld n e)))
      go next s =
          bind x f ld n t (A m.here) P goal _ _ (λ w. cond (eqb next 1) (let y = call r w.HERE 1 next w in goes (to_row (y.HERE + 1) y)) (below3_past2 r n w)) _
          (tries x f ld n t goal (m.here + 1 + 1) (m.here + 1) 1 next m.here m refl (record { first = one; second = s }) (record { on = o; here = refl }))
          (λ w a. elim s [
            | inl e ↦ rw e
                (bind x f ld n t (A m.here) P goal (goes (call r (w.here + 1) 1 1 (seen 0 goal w))) _ (λ y. goes (to_row (y.HERE + 1) y)) _ (let q = a.here in single x f ld n t calm goal (w.here + 1) m.here m.here w (omega arith) a)
                (λ y b. let q = b.here in row_at x f ld n t goal (y.here + 1 + 1) (m.here + 1) y (omega arith) b.on))
            | inr e ↦ rw e (past w a.on)
          ])

  -- ---- once round, and the loop

  once : (m : Moving) → P m → Same P (cond (eqb m.nbf 1 || eqb m.nbf 2) (below r n (seen 0 goal m)) (below3 r n (seen 0 goal m))) (step_down k f ld n m)
  unfolding step_down
  once m o = elim (Kept.kind m.nbf o.low o.high) [ inl e ↦ rw (e.0, e.1) (apart m o) | inr e ↦ rw (e.0, e.1) (whole m o e.0) ]

  -- there
  pub stays : (i : ℕ) (m : Moving) → ltb m.here goal ≡ false → walk_down k i f ld n goal m ≡ record { stopped = false; moving = m }
  unfolding walk_down
  stays zero m e = refl
  stays (suc i) m e = rw e

  -- after a time round: to the label, or there
  after : (i : ℕ) (m : Moving) → P m → (ltb m.here goal ≡ true → Same P (label10 r n i (seen 0 goal m)) (walk_down k i f ld n goal m))
      → Same P (cond (ltb (m.here + 1) (goal + 1)) (label10 r n i (seen 0 goal m)) (goes (seen 0 goal m))) (walk_down k i f ld n goal m)
  after i m o again = rw (ltb_next m.here goal) (go (ltb m.here goal) refl)
    where
      go : (b : Bool) → ltb m.here goal ≡ b → Same P (cond b (label10 r n i (seen 0 goal m)) (goes (seen 0 goal m))) (walk_down k i f ld n goal m)
      go true e = again e
      go false e = rw (stays i m e) (refl, o)

  pub loop : (i : ℕ) (m : Moving) → P m → ltb m.here goal ≡ true → Same P (label10 r n i (seen 0 goal m)) (walk_down k i f ld n goal m)
  unfolding label10 walk_down
  loop zero m o l = (refl, o)
  loop (suc i) m o l =
      rw l (bind x f ld n t P P goal _ _ (λ w. cond (ltb w.HERE w.ILST) (label10 r n i w) (goes w)) _ (once m o) (λ w p. after i w p (λ e. loop i w p e)))
