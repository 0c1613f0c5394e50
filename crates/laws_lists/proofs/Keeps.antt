-- What holds of every call holds of a list of moves at once: what each single call keeps of two states, the whole list keeps. Assumes nothing.
use mathlib.Core.Path.{◌≡◌, refl, sym, ap, ◌∙◌}
use Prim.Native.Nat.{ℕ, ◌+◌}
use mathlib.Core.List.{List, [], ◌∷◌}
use lib.Dec.{eqb}
use lib.ListN.{length, get_or, length-set}
use lib.Ieee.{Float, Format}
use Rattle.model.specs.Form.{line4}
use Rattle.model.specs.Move.{Moved, move_call}
use Rattle.model.specs.Lists.{Pair, pairs, list_line, Listed, written, one_more, in_turn, list_call}
use Rattle.laws_stride.specs.Beyond.{BeyondStays}
use Rattle.laws_stride.proofs.Tests.{branch}
use Rattle.laws_stride.proofs.Strides.{rows-beyond, two-strides}
use Rattle.laws_shape.specs.Numbers.{InFormat}
use Rattle.laws_shape.specs.Chains.{a_move, Answer, called, form_after, answers_of, factor_of, CanBeSent, with_factor, with_factors, Lengths}
use Rattle.laws_shape.proofs.Chains.{sent_back_lem, numbers_stay, same_without_lem}
use Rattle.laws_lists.specs.Keeps.{ListBeyond, SameListed, ListStrides, ListSentBack, SameButFactor, ListSameWithout}

-- ---- what a single call keeps

-- of a list call's states, at one stride and at another
module _ (f : Format) (ld md n : ℕ) (R : Listed → Listed → Type 0) (more : (q : Pair) (p : ℕ) (r s : Listed) → R r s → R (one_more f ld n q p r) (one_more f md n q p s)) where
  turns_keep : (qs : List Pair) (p : ℕ) (r s : Listed) → R r s → R (in_turn f ld n qs p r) (in_turn f md n qs p s)
  unfolding in_turn
  turns_keep [] p r s h = h
  turns_keep (q ∷ qs) p r s h = turns_keep qs (p + 4) (one_more f ld n q p r) (one_more f md n q p s) (more q p r s h)

  list_keeps : (a b u v : List Float) (ms rs : List ℕ)
      → R (record { answer = list_line ms rs; form = a; factor = u; results = rs }) (record { answer = list_line ms rs; form = b; factor = v; results = rs })
      → R (list_call f ld n a u ms rs) (list_call f md n b v ms rs)
  unfolding list_call
  list_keeps a b u v ms rs h = branch R (eqb (list_line ms rs) 0) refl (λ _. turns_keep (pairs ms) 0 _ _ h) (λ _. h)

-- of one state
one_keeps : (f : Format) (ld n : ℕ) (P : Listed → Type 0) → ((q : Pair) (p : ℕ) (s : Listed) → P s → P (one_more f ld n q p s)) → (t u : List Float) (ms rs : List ℕ)
    → P (record { answer = list_line ms rs; form = t; factor = u; results = rs })
    → P (list_call f ld n t u ms rs)
one_keeps f ld n P more t u = list_keeps f ld ld n (λ (r s : Listed). P r) (λ q p r s. more q p r) t t u u

-- ---- rows from n on

beyond_itself : (ld n : ℕ) (t : List Float) → BeyondStays ld n t t
beyond_itself ld n t = record { size = refl; beyond = λ i j g h. refl }

beyond_then : (ld n : ℕ) (a b c : List Float) → BeyondStays ld n a b → BeyondStays ld n b c → BeyondStays ld n a c
beyond_then ld n a b c x y = record { size = y.size ∙ x.size; beyond = λ i j g h. y.beyond i j g h ∙ x.beyond i j g h }

pub list-beyond : ListBeyond
unfolding one_more
list-beyond =
    record {
      form = λ f ld n t u ms rs. one_keeps f ld n (λ (s : Listed). BeyondStays ld n t s.form) (λ q p s h. beyond_then ld n t s.form _ h (rows-beyond.move_form f ld n s.form s.factor q.from q.to)) t u ms rs (beyond_itself ld n t);
      factor = λ f ld n t u ms rs. one_keeps f ld n (λ (s : Listed). BeyondStays ld n u s.factor) (λ q p s h. beyond_then ld n u s.factor _ h (rows-beyond.move_factor f ld n s.form s.factor q.from q.to)) t u ms rs (beyond_itself ld n u);
    }

-- ---- two strides

pub list_strides : ListStrides
unfolding one_more written
list_strides f ld md n a b u v ms rs w h k = list_keeps f ld md n (SameListed ld md n) more a b u v ms rs (record { answer = refl; form = h; factor = k; results = refl })
  where
    more : (q : Pair) (p : ℕ) (r s : Listed) → SameListed ld md n r s → SameListed ld md n (one_more f ld n q p r) (one_more f md n q p s)
    more q p r s e =
        let m = two-strides.moves f ld md n r.form s.form r.factor s.factor q.from q.to w e.form e.factor in
        record { answer = e.answer; form = m.form; factor = m.factor; results = rw (m.answer, m.landed, m.swaps, m.declined, e.results) }

-- ---- sent back

pub list_sent_back : ListSentBack
unfolding one_more written called form_after factor_of
list_sent_back =
    record {
      form = λ f ld n t u ms rs h. one_keeps f ld n (λ (s : Listed). CanBeSent f ld n s.form) (λ q p s k. sent_back_lem f ld n s.form (a_move q.from q.to s.factor ∷ []) k.accepted) t u ms rs (sent_back_lem f ld n t [] h);
      factor = λ f ld n t u ms rs. (list-beyond.factor f ld n t u ms rs).size;
      results = λ f ld n t u ms rs. one_keeps f ld n (λ (s : Listed). length s.results ≡ length rs) (λ q p s k. simp length-set k) t u ms rs refl;
      form_numbers = λ f ld n t u ms rs. one_keeps f ld n (λ (s : Listed). InFormat f s.form) (λ q p s k. numbers_stay.form f ld n s.form (a_move q.from q.to s.factor ∷ []) k) t u ms rs;
      factor_numbers = λ f ld n t u ms rs. one_keeps f ld n (λ (s : Listed). InFormat f s.factor) (λ q p s k. numbers_stay.factor f ld n s.form (a_move q.from q.to s.factor) k) t u ms rs;
    }

-- ---- with a factor and without

-- all but the factor
record Alike (r s : Moved) : Type 0 where
  answer : r.answer ≡ s.answer
  landed : r.landed ≡ s.landed
  swaps : r.swaps ≡ s.swaps
  declined : r.declined ≡ s.declined
  form : r.form ≡ s.form

alike : (f : Format) (ld n : ℕ) (t u v : List Float) (from to : ℕ) → line4 ld n u ≡ line4 ld n v → Alike (move_call f ld n t u from to) (move_call f ld n t v from to)
unfolding called form_after answers_of factor_of with_factor with_factors Lengths
alike f ld n t u v from to h =
    let e = same_without_lem f ld n t (u ∷ []) (a_move from to v ∷ []) (h, tt) in
    let a = ap (λ (xs : List Answer). get_or xs 0 (called f ld n t (a_move from to v)).answer) e.answers in
    record {
      answer = ap (λ (x : Answer). x.number) a;
      landed = ap (λ (x : Answer). x.landed) a;
      swaps = ap (λ (x : Answer). x.swaps) a;
      declined = ap (λ (x : Answer). x.declined) a;
      form = e.form;
    }

-- line 4 asks for a length alone, and a call leaves the factor as long as it was
line4_stays : (f : Format) (ld n : ℕ) (t u : List Float) (from to : ℕ) → line4 ld n (move_call f ld n t u from to).factor ≡ line4 ld n u
unfolding line4
line4_stays f ld n t u from to = rw (rows-beyond.move_factor f ld n t u from to).size refl

-- two states alike but for their factors, of which line 4 tells the same
record Without (ld n : ℕ) (r s : Listed) : Type 0 where
  same : SameButFactor r s
  lines : line4 ld n r.factor ≡ line4 ld n s.factor

pub list_same_without : ListSameWithout
unfolding one_more written
list_same_without f ld n t u v ms rs h =
    (list_keeps f ld ld n (Without ld n) more t t u v ms rs (record { same = record { answer = refl; form = refl; results = refl }; lines = h })).same
  where
    more : (q : Pair) (p : ℕ) (r s : Listed) → Without ld n r s → Without ld n (one_more f ld n q p r) (one_more f ld n q p s)
    more q p r s k =
        let a = alike f ld n s.form r.factor s.factor q.from q.to k.lines in
        rw k.same.form
        (record {
          same = record { answer = k.same.answer; form = a.form; results = rw (a.answer, a.landed, a.swaps, a.declined, k.same.results) };
          lines = line4_stays f ld n s.form r.factor q.from q.to ∙ k.lines ∙ sym (line4_stays f ld n s.form s.factor q.from q.to);
        })
