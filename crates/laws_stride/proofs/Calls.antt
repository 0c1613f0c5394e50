-- The claims on moves and exchanges: rows beyond n, and two strides. Both come from one law on two calls, whose forms, and whose factors, stand in a relation that goes by their n rows. Assumes nothing.
use mathlib.Core.Path.{◌≡◌, refl, sym, ap, ◌∙◌}
use mathlib.Core.Logic.{inl, inr}
use Prim.Native.Nat.{ℕ, zero, suc, ◌*◌, ◌≤◌, ◌<◌}
use native.Mathlib.Omega.{arith}
use mathlib.Core.Bool.{Bool, true, false, cond}
use mathlib.Core.List.{List, [], ◌∷◌}
use lib.Dec.{eqb}
use lib.ListN.{length, length-set}
use lib.Ieee.{Float, nan, Format}
use borrow.Author.Tests.{eqb-true, ne_eqb}
use Rattle.model.specs.Form.{place, at}
use Rattle.model.specs.Columns.{on_factor}
use Rattle.model.specs.Swaps.{Change, declines_in, put}
use Rattle.model.specs.Exchange.{exchange, factor_rows, Exchanged, exchanged, exchange_line, exchange_call}
use Rattle.model.specs.Move.{move_line, move_call}
use Rattle.model.specs.Stopping.{Kind, goes_on, stopping, walk, Stopped, ended, stopping_call}
use Rattle.laws_moves.proofs.Upper.{at_least}
use Rattle.laws_stride.specs.Beyond.{BeyondStays}
use Rattle.laws_stride.specs.Strides.{Allowed, SameRows, SameFactor, SameMoved, SameStopped, SameExchanged}
use Rattle.laws_stride.proofs.Put.{put_same}
use Rattle.laws_stride.proofs.Tests.{branch}
use Rattle.laws_stride.proofs.Rowwise.{ReadsAs, Rowwise, rows_read, same_rowwise, Kept, kept-first, kept_rowwise}
use Rattle.laws_stride.proofs.Operations.{on_factor_lem}
use Rattle.laws_stride.proofs.Changes.{Room, Alike, alike_unchanged, alike_then, alike_exchange, alike_try}
use Rattle.laws_stride.proofs.Control.{call_by, move_is_call}
use Rattle.laws_stride.proofs.Walk.{Exchanges, walk_abreast}
use Rattle.laws_stride.proofs.Lines.{move_line-same, exchange_line-same, move_passed, exchange_passed}

-- two answers of a move of any kind, with the forms in one relation and the factors in another
record StoppedBoth (R S : List Float → List Float → Type 0) (r s : Stopped) : Type 0 where
  answer : r.answer ≡ s.answer
  stopped : r.stopped ≡ s.stopped
  here : r.here ≡ s.here
  swaps : r.swaps ≡ s.swaps
  declined : r.declined ≡ s.declined
  form : R r.form s.form
  factor : S r.factor s.factor

record ExchangedBoth (R S : List Float → List Float → Type 0) (r s : Exchanged) : Type 0 where
  answer : r.answer ≡ s.answer
  swaps : r.swaps ≡ s.swaps
  declined : r.declined ≡ s.declined
  form : R r.form s.form
  factor : S r.factor s.factor

rows-most : (n : ℕ) (u : List Float) → factor_rows n u ≤ n
unfolding factor_rows
rows-most n u = go (eqb (length u) 0)
  where
    go : (b : Bool) → cond b 0 n ≤ n
    go true = omega arith
    go false = omega arith

-- two kinds of move that stop alike, and whose exchanges of rows below n do the same to forms in a relation
record Kinds (n : ℕ) (R : List Float → List Float → Type 0) (k l : Kind) : Type 0 where
  stops : k.stops ≡ l.stops
  alike : (j n1 n2 : ℕ) {a b : List Float} → Room n j n1 n2 → R a b → Alike n R (k.exchange j n1 n2 a) (l.exchange j n1 n2 b)

-- their walk is over such changes
walks : (f : Format) (ld md n : ℕ) (k l : Kind) (R : List Float → List Float → Type 0) → Rowwise ld md n R → Kinds n R k l → Exchanges ld md n k l (Alike n R)
walks f ld md n k l R r h =
    record {
      reads = λ q. r.reads q.forms;
      more = λ j n1 n2 w q. alike_then f ld md n R r _ _ q (h.alike j n1 n2 w);
      declines = λ j n1 n2 w q. ap declines_in (h.alike j n1 n2 w q.forms).runs;
      stops = h.stops;
    }

-- 01's move, and the move that stops
old_kinds : (f : Format) (ld md n : ℕ) (R : List Float → List Float → Type 0) → Rowwise ld md n R → Kinds n R (goes_on f ld n) (goes_on f md n)
old_kinds f ld md n R r = record { stops = refl; alike = alike_exchange f ld md n R r }

stopping_kinds : (f : Format) (ld md n : ℕ) (R : List Float → List Float → Type 0) → Rowwise ld md n R → Kinds n R (stopping f ld n) (stopping f md n)
stopping_kinds f ld md n R r = record { stops = refl; alike = alike_try f ld md n R r }

module _ (f : Format) (ld md n : ℕ) (a b u v : List Float) (R S : List Float → List Float → Type 0) (K : n ≤ ld → Rowwise ld md n R × Rowwise ld md n S) (r : R a b) (s : S u v) (rows : factor_rows n u ≡ factor_rows n v) where
  factor_both : {c d : Change} → Rowwise ld md n S → Alike n R c d → S (on_factor f ld (factor_rows n u) c.operations u) (on_factor f md (factor_rows n v) d.operations v)
  factor_both k q = rw (← rows, ← q.operations) (on_factor_lem f ld md n S k (factor_rows n u) _ (rows-most n u) q.inside s)

  call_both : (k l : Kind) → (Rowwise ld md n R → Kinds n R k l) → (from to : ℕ) → move_line f ld n a u from to ≡ move_line f md n b v from to
      → StoppedBoth R S (call_by k f ld n a u from to) (call_by l f md n b v from to)
  unfolding call_by
  call_both k l kinds from to e =
      branch (StoppedBoth R S) (eqb (move_line f ld n a u from to) 0) (ap (λ (x : ℕ). eqb x 0) e) (λ h. done (eqb-true _ 0 h))
      (λ _. record { answer = e; stopped = refl; here = refl; swaps = refl; declined = refl; form = r; factor = s })
    where
      done : move_line f ld n a u from to ≡ 0 → StoppedBoth R S (ended f ld n u (walk k f ld n from to a)) (ended f md n v (walk l f md n from to b))
      done h =
          let p = move_passed f ld n a u from to h in
          let z = K p.0 in
          let g = walk_abreast f ld md n k l (Alike n R) (walks f ld md n k l R z.0 (kinds z.0)) a b (alike_unchanged f ld md n R z.0 r) from to p.1 p.2 in
          let w = g.moving in
          record {
            answer = refl;
            stopped = g.stopped;
            here = w.here;
            swaps = ap length w.change.runs;
            declined = ap declines_in w.change.runs;
            form = w.change.forms;
            factor = factor_both z.1 w.change;
          }

  exchange_both : (j n1 n2 : ℕ) → exchange_line f ld n a u j n1 n2 ≡ exchange_line f md n b v j n1 n2 → ExchangedBoth R S (exchange_call f ld n a u j n1 n2) (exchange_call f md n b v j n1 n2)
  unfolding exchange_call
  exchange_both j n1 n2 e =
      branch (ExchangedBoth R S) (eqb (exchange_line f ld n a u j n1 n2) 0) (ap (λ (l : ℕ). eqb l 0) e) (λ h. done (eqb-true _ 0 h))
      (λ _. record { answer = e; swaps = refl; declined = refl; form = r; factor = s })
    where
      done : exchange_line f ld n a u j n1 n2 ≡ 0 → ExchangedBoth R S (exchanged f ld n u (exchange f ld n j n1 n2 a)) (exchanged f md n v (exchange f md n j n1 n2 b))
      done h =
          let p = exchange_passed f ld n a u j n1 n2 h in
          let k = K p.0 in
          let w = alike_exchange f ld md n R k.0 j n1 n2 p.1 r in
          record { answer = refl; swaps = ap length w.runs; declined = ap declines_in w.runs; form = w.forms; factor = factor_both k.1 w }

-- ---- two strides

at-empty : (t : List Float) (p : ℕ) → length t ≡ 0 → at t p ≡ nan
at-empty [] p e = refl
at-empty (x ∷ t) p e = absurd (omega arith)

rows_none : (n : ℕ) (u : List Float) → length u ≡ 0 → factor_rows n u ≡ 0
unfolding factor_rows
rows_none n u e = rw e

rows_all : (ld n : ℕ) (u : List Float) → n ≤ ld → length u ≡ ld * n → factor_rows n u ≡ n
unfolding factor_rows
rows_all ld zero u h e = rows_none zero u (omega arith)
rows_all ld (suc n) u h e = rw (ne_eqb (length u) 0 (λ z. omega arith))

module _ (ld md n : ℕ) (w : Allowed ld md n) where
  fits : n ≤ ld
  fits = at_least ld n w.first

  fits' : n ≤ md
  fits' = at_least md n w.second

  factor_reads : (u v : List Float) → SameFactor ld md n u v → ReadsAs ld md n u v
  factor_reads u v (inl s) = rows_read s
  factor_reads u v (inr s) = record { same = λ i j g h. at-empty u _ s.0 ∙ sym (at-empty v _ s.1) }

  factor_puts : (u v : List Float) (i j : ℕ) (x : Float) → i < n → j < n → SameFactor ld md n u v → SameFactor ld md n (put ld i j x u) (put md i j x v)
  factor_puts u v i j x g h (inl s) = inl (put_same ld md n i j x u v fits fits' g h s)
  factor_puts u v i j x g h (inr s) = inr (length-set u (place ld i j) x ∙ s.0, length-set v (place md i j) x ∙ s.1)

  both_rowwise : Rowwise ld md n (SameRows ld md n) × Rowwise ld md n (SameFactor ld md n)
  both_rowwise = (same_rowwise ld md n w, record { reads = λ s. factor_reads _ _ s; puts = λ i j v g h s. factor_puts _ _ i j v g h s })

  same_rows : (u v : List Float) → SameFactor ld md n u v → factor_rows n u ≡ factor_rows n v
  same_rows u v (inl s) = rows_all ld n u fits s.size ∙ sym (rows_all md n v fits' s.size')
  same_rows u v (inr s) = rows_none n u s.0 ∙ sym (rows_none n v s.1)

-- of moves of any kind
calls : (f : Format) (ld md n : ℕ) (a b u v : List Float) (from to : ℕ) (k l : Kind) → (Rowwise ld md n (SameRows ld md n) → Kinds n (SameRows ld md n) k l)
    → Allowed ld md n → SameRows ld md n a b → SameFactor ld md n u v
    → StoppedBoth (SameRows ld md n) (SameFactor ld md n) (call_by k f ld n a u from to) (call_by l f md n b v from to)
calls f ld md n a b u v from to k l kinds w s t =
    call_both f ld md n a b u v _ _ (λ _. both_rowwise ld md n w) s t (same_rows ld md n w u v t) k l kinds from to (move_line-same f ld md n a b u v w s t from to)

pub moves : (f : Format) (ld md n : ℕ) (a b u v : List Float) (from to : ℕ) → Allowed ld md n → SameRows ld md n a b → SameFactor ld md n u v
    → SameMoved ld md n (move_call f ld n a u from to) (move_call f md n b v from to)
moves f ld md n a b u v from to w s t =
    let r = calls f ld md n a b u v from to _ _ (old_kinds f ld md n _) w s t in
    rw (move_is_call f ld n a u from to, move_is_call f md n b v from to)
    (record { answer = r.answer; landed = r.here; swaps = r.swaps; declined = r.declined; form = r.form; factor = r.factor })

pub stopping-moves : (f : Format) (ld md n : ℕ) (a b u v : List Float) (from to : ℕ) → Allowed ld md n → SameRows ld md n a b → SameFactor ld md n u v
    → SameStopped ld md n (stopping_call f ld n a u from to) (stopping_call f md n b v from to)
unfolding stopping_call call_by
stopping-moves f ld md n a b u v from to w s t =
    let r = calls f ld md n a b u v from to _ _ (stopping_kinds f ld md n _) w s t in
    record { answer = r.answer; stopped = r.stopped; here = r.here; swaps = r.swaps; declined = r.declined; form = r.form; factor = r.factor }

pub exchanges : (f : Format) (ld md n : ℕ) (a b u v : List Float) (j n1 n2 : ℕ) → Allowed ld md n → SameRows ld md n a b → SameFactor ld md n u v
    → SameExchanged ld md n (exchange_call f ld n a u j n1 n2) (exchange_call f md n b v j n1 n2)
exchanges f ld md n a b u v j n1 n2 w s t =
    let k = both_rowwise ld md n w in
    let r =
    exchange_both f ld md n a b u v (SameRows ld md n) (SameFactor ld md n) (λ _. k) s t (same_rows ld md n w u v t) j n1 n2 (exchange_line-same f ld md n a b u v w s t j n1 n2) in
    record { answer = r.answer; swaps = r.swaps; declined = r.declined; form = r.form; factor = r.factor }

-- ---- rows beyond n

module _ (f : Format) (ld n : ℕ) (t u : List Float) where
  call_kept : (k : Kind) → (Rowwise ld ld n (Kept ld n t) → Kinds n (Kept ld n t) k k) → (from to : ℕ)
      → StoppedBoth (Kept ld n t) (Kept ld n u) (call_by k f ld n t u from to) (call_by k f ld n t u from to)
  call_kept k kinds from to = call_both f ld ld n t t u u _ _ (λ w. (kept_rowwise ld n t w, kept_rowwise ld n u w)) (kept-first ld n t) (kept-first ld n u) refl k k kinds from to refl

  exchange-kept : (j n1 n2 : ℕ) → ExchangedBoth (Kept ld n t) (Kept ld n u) (exchange_call f ld n t u j n1 n2) (exchange_call f ld n t u j n1 n2)
  exchange-kept j n1 n2 = exchange_both f ld ld n t t u u _ _ (λ w. (kept_rowwise ld n t w, kept_rowwise ld n u w)) (kept-first ld n t) (kept-first ld n u) refl j n1 n2 refl

  pub move-form : (from to : ℕ) → BeyondStays ld n t (move_call f ld n t u from to).form
  move-form from to = rw (move_is_call f ld n t u from to) (call_kept (goes_on f ld n) (old_kinds f ld ld n _) from to).form.stays

  pub move-factor : (from to : ℕ) → BeyondStays ld n u (move_call f ld n t u from to).factor
  move-factor from to = rw (move_is_call f ld n t u from to) (call_kept (goes_on f ld n) (old_kinds f ld ld n _) from to).factor.stays

  pub stopping-form : (from to : ℕ) → BeyondStays ld n t (stopping_call f ld n t u from to).form
  unfolding stopping_call call_by
  stopping-form from to = (call_kept (stopping f ld n) (stopping_kinds f ld ld n _) from to).form.stays

  pub stopping-factor : (from to : ℕ) → BeyondStays ld n u (stopping_call f ld n t u from to).factor
  unfolding stopping_call call_by
  stopping-factor from to = (call_kept (stopping f ld n) (stopping_kinds f ld ld n _) from to).factor.stays

  pub exchange-form : (j n1 n2 : ℕ) → BeyondStays ld n t (exchange_call f ld n t u j n1 n2).form
  exchange-form j n1 n2 = (exchange-kept j n1 n2).form.stays

  pub exchange-factor : (j n1 n2 : ℕ) → BeyondStays ld n u (exchange_call f ld n t u j n1 n2).factor
  exchange-factor j n1 n2 = (exchange-kept j n1 n2).factor.stays
