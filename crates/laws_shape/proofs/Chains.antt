-- The claims on chains of calls. Assumes nothing.
use mathlib.Core.Path.{◌≡◌, refl, ap, ap₂, ◌∙◌}
use Prim.Native.Nat.{ℕ, zero, suc, ◌+◌, ◌*◌}
use mathlib.Core.Bool.{false, not, cond}
use mathlib.Core.List.{List, [], ◌∷◌}
use lib.Dec.{eqb}
use lib.ListN.{length, length-set}
use lib.Ieee.{Float, Format}
use borrow.Author.Tests.{eqb-true}
use Rattle.std.proofs.lemmas.Bool.{cond_both}
use Rattle.model.specs.Lines.{first_of}
use Rattle.model.specs.Form.{nonzero_below, line2, line17, line3, line4, position}
use Rattle.model.specs.Exchange.{Exchanged, exchange_line, exchange_call}
use Rattle.model.specs.Move.{move_line, Moved, move_call}
use Rattle.model.specs.Stopping.{Kind, goes_on, stopping, Stopped, stopping_call}
use Rattle.model.specs.Values.{Reading, Parts, one_value, two_values, values_from, BlockValues, values_line, values_read}
use Rattle.model.specs.Vectors.{vectors_line, evd_from_real_schur, column_line}
use Rattle.laws.proofs.InOrder.{passed}
use Rattle.laws_stride.proofs.Tests.{branch}
use Rattle.laws_stride.proofs.Control.{call_by, move_is_call}
use Rattle.laws_stride.proofs.Strides.{rows-beyond}
use Rattle.laws_shape.specs.Chains.{Call, a_move, a_stop, an_exchange, Result, of_move, of_stop, of_exchange, called, form_after, answers_of, OwnLines, SentBack, factor_of, BuffersSentBack, NumbersStay, with_factor, with_factors, Lengths, SameWithout}
use Rattle.laws_shape.proofs.Numbers.{either, Numbers, numbers-of, factor_numbers}
use Rattle.laws_shape.proofs.Shape.{Shape, shape, accepted, no_line3, no_line5, no_line6}
use Rattle.laws_shape.proofs.Exchanges.{Lawful, goes_on_lawful, stopping_lawful}
use Rattle.laws_shape.proofs.Meets.{exchange-goes, walk_far}

-- ---- a call keeps the shape, and keeps numbers of the format such, turned away or not

by_line : {A : Type 0} (P : A → Type 0) (line : ℕ) (x y : A) → (line ≡ 0 → P x) → P y → P (cond (eqb line 0) x y)
by_line P line x y h k = cond_both (eqb line 0) x y P (λ e. h (eqb-true line 0 e)) (λ _. k)

-- what a form e keeps of a form t
record Back (f : Format) (ld n : ℕ) (t e : List Float) : Type 0 where
  shape : Shape f ld n t → Shape f ld n e
  numbers : Numbers f t → Numbers f e

module _ (f : Format) (ld n : ℕ) (t u : List Float) where
  same : Back f ld n t t
  same = record { shape = λ s. s; numbers = λ m. m }

  by_keeps : (k : Kind) → Lawful k f ld n → (from to : ℕ) → Back f ld n t (call_by k f ld n t u from to).form
  unfolding call_by
  by_keeps k L from to =
      by_line (λ (r : Stopped). Back f ld n t r.form) (move_line f ld n t u from to) _ _
      (λ h. let w = walk_far k f ld n L t u from to h in record { shape = λ s. w.shape; numbers = w.numbers }) same

  move_keeps : (from to : ℕ) → Back f ld n t (move_call f ld n t u from to).form
  move_keeps from to = rw (move_is_call f ld n t u from to) (by_keeps (goes_on f ld n) (goes_on_lawful f ld n) from to)

  stopping_keeps : (from to : ℕ) → Back f ld n t (stopping_call f ld n t u from to).form
  unfolding stopping_call call_by
  stopping_keeps from to = by_keeps (stopping f ld n) (stopping_lawful f ld n) from to

  exchange_keeps : (j n1 n2 : ℕ) → Back f ld n t (exchange_call f ld n t u j n1 n2).form
  unfolding exchange_call
  exchange_keeps j n1 n2 =
      by_line (λ (r : Exchanged). Back f ld n t r.form) (exchange_line f ld n t u j n1 n2) _ _
      (λ h. let w = exchange-goes f ld n t u j n1 n2 h in record { shape = λ s. w.kept.shape; numbers = w.numbers }) same

call_keeps : (f : Format) (ld n : ℕ) (t : List Float) (c : Call) → Back f ld n t (called f ld n t c).form
unfolding called
call_keeps f ld n t (a_move from to u) = move_keeps f ld n t u from to
call_keeps f ld n t (a_stop from to u) = stopping_keeps f ld n t u from to
call_keeps f ld n t (an_exchange j n1 n2 u) = exchange_keeps f ld n t u j n1 n2

chain_keeps : (f : Format) (ld n : ℕ) (cs : List Call) (t : List Float) → Back f ld n t (form_after f ld n cs t)
unfolding form_after
chain_keeps f ld n [] t = same f ld n t []
chain_keeps f ld n (c ∷ cs) t =
    let x = call_keeps f ld n t c in
    let y = chain_keeps f ld n cs (called f ld n t c).form in
    record { shape = λ s. y.shape (x.shape s); numbers = λ m. y.numbers (x.numbers m) }

-- ---- claim 1

own-lines : (f : Format) (ld n : ℕ) (t : List Float) → Shape f ld n t → OwnLines f ld n t
unfolding move_line exchange_line values_line vectors_line first_of
own-lines f ld n t s =
    record {
      moves = λ u from to. rw (s.rows, s.wide, no_line3 f ld n t s, no_line5 f ld n t s, no_line6 f ld n t s);
      exchanges = λ u j n1 n2. rw (s.rows, s.wide, no_line3 f ld n t s, no_line5 f ld n t s, no_line6 f ld n t s);
      values = λ v. rw (s.rows, s.wide, no_line3 f ld n t s, no_line5 f ld n t s, no_line6 f ld n t s);
      vectors = λ v. rw (s.rows, s.wide, no_line3 f ld n t s, no_line5 f ld n t s, no_line6 f ld n t s);
    }

pub sent_back_lem : SentBack
sent_back_lem f ld n t cs h =
    let e = form_after f ld n cs t in
    let s = (chain_keeps f ld n cs t).shape (shape f ld n t h) in
    record { deep = no_line5 f ld n e s; touching = no_line6 f ld n e s; accepted = accepted f ld n e s; own = own-lines f ld n e s }

-- ---- the buffers

factor_long : (f : Format) (ld n : ℕ) (t : List Float) (c : Call) → length (called f ld n t c).factor ≡ length (factor_of c)
unfolding called factor_of
factor_long f ld n t (a_move from to u) = (rows-beyond.move_factor f ld n t u from to).size
factor_long f ld n t (a_stop from to u) = (rows-beyond.stopping_factor f ld n t u from to).size
factor_long f ld n t (an_exchange j n1 n2 u) = (rows-beyond.exchange_factor f ld n t u j n1 n2).size

-- as many in either part
abbrev Long : Parts → Parts → Type 0
Long s r = (length r.re ≡ length s.re) × (length r.im ≡ length s.im)

from_long : (f : Format) (rd : Reading) (ld : ℕ) (t : List Float) (k j : ℕ) (s : Parts) → Long s (values_from f rd ld t k j s)
unfolding values_from one_value two_values
from_long f rd ld t zero j s = (refl, refl)
from_long f rd ld t (suc zero) j s = (simp length-set, simp length-set)
from_long f rd ld t (suc (suc k)) j s =
    either (Long s) (nonzero_below f ld t j) _ _
    (let r = from_long f rd ld t k (j + 2) (two_values f rd ld t j s) in (r.0 ∙ simp length-set, r.1 ∙ simp length-set))
    (let r = from_long f rd ld t (suc k) (j + 1) (one_value f ld t j s) in (r.0 ∙ simp length-set, r.1 ∙ simp length-set))

values_long : (f : Format) (rd : Reading) (ld n : ℕ) (t : List Float) (s : Parts) → Long s (values_read f rd ld n t s).parts
unfolding values_read
values_long f rd ld n t s = either (λ (r : BlockValues). Long s r.parts) (eqb (values_line f ld n t s) 0) _ _ (from_long f rd ld t n 0 s) (refl, refl)

column_alone : (f : Format) (ld n : ℕ) (t v : List Float) (col : ℕ) → vectors_line f ld n t v ≡ 0 → column_line ld n (evd_from_real_schur f ld n t v).v col ≡ first_of (position n col ∷ [])
unfolding vectors_line column_line first_of
column_alone f ld n t v col h =
    let p2 = passed (line2 n) 1 _ h in
    let p17 = passed (line17 ld n) 16 _ p2.1 in
    let p3 = passed (line3 ld n t) 2 _ p17.1 in
    let p4 = passed (not (eqb (length v) (ld * n))) 3 _ p3.1 in
    rw (p2.0, p17.0, (rows-beyond.vectors f ld n t v).size, p4.0)

pub buffers-sent_back : BuffersSentBack
buffers-sent_back =
    record {
      factor = factor_long;
      vectors = λ f ld n t v. (rows-beyond.vectors f ld n t v).size;
      re = λ f rd ld n t s. (values_long f rd ld n t s).0;
      im = λ f rd ld n t s. (values_long f rd ld n t s).1;
      column = column_alone;
    }

-- ---- the numbers

factor_stays : (f : Format) (ld n : ℕ) (t : List Float) (c : Call) → Numbers f (factor_of c) → Numbers f (called f ld n t c).factor
unfolding called factor_of move_call stopping_call exchange_call
factor_stays f ld n t (a_move from to u) h = either (λ (r : Moved). Numbers f r.factor) _ _ _ (factor_numbers f ld _ _ u h) h
factor_stays f ld n t (a_stop from to u) h = either (λ (r : Stopped). Numbers f r.factor) _ _ _ (factor_numbers f ld _ _ u h) h
factor_stays f ld n t (an_exchange j n1 n2 u) h = either (λ (r : Exchanged). Numbers f r.factor) _ _ _ (factor_numbers f ld _ _ u h) h

pub numbers_stay : NumbersStay
numbers_stay =
    record {
      form = λ f ld n t cs m i l. (chain_keeps f ld n cs t).numbers (numbers-of f t m) i;
      factor = λ f ld n t c m i l. factor_stays f ld n t c (numbers-of f _ m) i;
    }

-- ---- claim 2

-- all but the factor
record Alike (r s : Result) : Type 0 where
  answer : r.answer ≡ s.answer
  form : r.form ≡ s.form

module _ (f : Format) (ld n : ℕ) (t u v : List Float) (e : line4 ld n v ≡ line4 ld n u) where
  move_line_alike : (from to : ℕ) → move_line f ld n t v from to ≡ move_line f ld n t u from to
  unfolding move_line
  move_line_alike from to = rw e

  exchange_line_alike : (j n1 n2 : ℕ) → exchange_line f ld n t v j n1 n2 ≡ exchange_line f ld n t u j n1 n2
  unfolding exchange_line
  exchange_line_alike j n1 n2 = rw e

  move_alike : (from to : ℕ) → Alike (of_move (move_call f ld n t v from to)) (of_move (move_call f ld n t u from to))
  unfolding move_call
  move_alike from to =
      let l = move_line_alike from to in
      branch (λ (x y : Moved). Alike (of_move x) (of_move y)) (eqb (move_line f ld n t v from to) 0) (ap (λ (i : ℕ). eqb i 0) l) (λ _. record { answer = refl; form = refl })
      (λ _. record { answer = ap (λ (i : ℕ). record { number = i; stopped = false; landed = 0; swaps = 0; declined = 0 }) l; form = refl })

  stop_alike : (from to : ℕ) → Alike (of_stop (stopping_call f ld n t v from to)) (of_stop (stopping_call f ld n t u from to))
  unfolding stopping_call
  stop_alike from to =
      let l = move_line_alike from to in
      branch (λ (x y : Stopped). Alike (of_stop x) (of_stop y)) (eqb (move_line f ld n t v from to) 0) (ap (λ (i : ℕ). eqb i 0) l) (λ _. record { answer = refl; form = refl })
      (λ _. record { answer = ap (λ (i : ℕ). record { number = i; stopped = false; landed = 0; swaps = 0; declined = 0 }) l; form = refl })

  exchange_alike : (j n1 n2 : ℕ) → Alike (of_exchange (exchange_call f ld n t v j n1 n2)) (of_exchange (exchange_call f ld n t u j n1 n2))
  unfolding exchange_call
  exchange_alike j n1 n2 =
      let l = exchange_line_alike j n1 n2 in
      branch (λ (x y : Exchanged). Alike (of_exchange x) (of_exchange y)) (eqb (exchange_line f ld n t v j n1 n2) 0) (ap (λ (i : ℕ). eqb i 0) l) (λ _. record { answer = refl; form = refl })
      (λ _. record { answer = ap (λ (i : ℕ). record { number = i; stopped = false; landed = 0; swaps = 0; declined = 0 }) l; form = refl })

call_alike : (f : Format) (ld n : ℕ) (t v : List Float) (c : Call) → line4 ld n v ≡ line4 ld n (factor_of c) → Alike (called f ld n t (with_factor v c)) (called f ld n t c)
unfolding called with_factor factor_of
call_alike f ld n t v (a_move from to u) e = move_alike f ld n t u v e from to
call_alike f ld n t v (a_stop from to u) e = stop_alike f ld n t u v e from to
call_alike f ld n t v (an_exchange j n1 n2 u) e = exchange_alike f ld n t u v e j n1 n2

pub same_without_lem : SameWithout
unfolding form_after answers_of with_factors Lengths
same_without_lem f ld n t [] cs h = record { form = refl; answers = refl }
same_without_lem f ld n t (v ∷ vs) [] h = record { form = refl; answers = refl }
same_without_lem f ld n t (v ∷ vs) (c ∷ cs) h =
    let a = call_alike f ld n t v c h.0 in
    let r = same_without_lem f ld n (called f ld n t c).form vs cs h.1 in
    record {
      form = ap (form_after f ld n (with_factors vs cs)) a.form ∙ r.form;
      answers = ap₂ ◌∷◌ a.answer (ap (answers_of f ld n (with_factors vs cs)) a.form ∙ r.answers);
    }
