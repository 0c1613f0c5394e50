-- A list of moves at once is the single calls in turn, and what turns them away but for line 7 is seen before the first. Assumes nothing.
use mathlib.Core.Path.{◌≡◌, refl, sym, ap, ap₂, ◌∙◌}
use Prim.Native.Nat.{ℕ, suc, ◌+◌, ◌*◌, ◌/◌, ◌≤◌}
use native.Mathlib.Nat.{suc-add}
use native.Mathlib.Decide.{ℕ_discrete}
use native.Mathlib.Omega.{arith}
use mathlib.Core.Bool.{Bool, true, false, cond}
use mathlib.Core.List.{List, [], ◌∷◌, ◌++◌, map}
use lib.Dec.{eqb}
use lib.ListN.{length, drop}
use lib.Ieee.{Float, Format}
use borrow.Author.Tests.{eqb-true, ne_eqb, ltb-false}
use Rattle.std.proofs.lemmas.Bool.{cond_both}
use Rattle.model.specs.Lines.{first_of}
use Rattle.model.specs.Form.{line2, line17, line3, line4, line5, line6, line7, position, form_line}
use Rattle.model.specs.Move.{move_line, Moved, move_call}
use Rattle.model.specs.Lists.{Pair, pairs, line12, list_line, Listed, written, one_more, in_turn, list_call}
use Rattle.laws.proofs.InOrder.{passed}
use Rattle.laws_moves.proofs.Upper.{or_right}
use Rattle.laws_stride.proofs.Strides.{rows-beyond}
use Rattle.laws_shape.specs.Chains.{a_move, called, form_after}
use Rattle.laws_shape.proofs.Chains.{sent_back_lem}
use Rattle.laws_lists.specs.Turns.{singles, last_form, last_factor, numbers_of, InTurn, TwelveAlone, CheckedOnce, lent_line, pair_line}

-- ---- the line of a pair

-- tests one after another: the number, one more than k, of the first that applies, and else the rest
abbrev chain : List (Bool × ℕ) → ℕ → ℕ
chain [] rest = rest
chain ((b, k) ∷ tests) rest = cond b (suc k) (chain tests rest)

onward : (tests : List (Bool × ℕ)) (rest : ℕ) → chain tests rest ≡ cond (eqb (chain tests 0) 0) rest (chain tests 0)
onward [] rest = refl
onward ((true, k) ∷ tests) rest = rw (ne_eqb (suc k) 0 (λ e. absurd (omega arith))) refl
onward ((false, k) ∷ tests) rest = onward tests rest

module _ (f : Format) (ld n : ℕ) (t u : List Float) where
  pub line_of_pair : (from to : ℕ) → move_line f ld n t u from to ≡ pair_line f ld n t u (record { from = from; to = to })
  unfolding move_line pair_line lent_line
  line_of_pair from to =
      onward ((line2 n, 1) ∷ (line17 ld n, 16) ∷ (line3 ld n t, 2) ∷ (line4 ld n u, 3) ∷ (line5 f ld n t, 4) ∷ (line6 f ld n t, 5) ∷ [])
      (cond (line7 n from) 7 (cond (line7 n to) 7 0))

  -- ---- no move changes what is checked once

  -- a move that is turned away leaves all as it was
  turned_away : (from to : ℕ) → (move_line f ld n t u from to ≡ 0 → ⊥) → move_call f ld n t u from to ≡ record { answer = move_line f ld n t u from to; landed = 0; swaps = 0; declined = 0; form = t; factor = u }
  unfolding move_call
  turned_away from to h = rw (ne_eqb (move_line f ld n t u from to) 0 h)

  -- one that goes leaves an accepted form, and both buffers as long as they were
  goes : (from to : ℕ) → move_line f ld n t u from to ≡ 0 → (let m = move_call f ld n t u from to in lent_line f ld n m.form m.factor ≡ lent_line f ld n t u)
  unfolding move_line lent_line form_line line3 line4 called form_after
  goes from to h =
      let p2 = passed (line2 n) 1 _ h in
      let p17 = passed (line17 ld n) 16 _ p2.1 in
      let p3 = passed (line3 ld n t) 2 _ p17.1 in
      let p4 = passed (line4 ld n u) 3 _ p3.1 in
      let p5 = passed (line5 f ld n t) 4 _ p4.1 in
      let p6 = passed (line6 f ld n t) 5 _ p5.1 in
      let accepted : form_line f ld n t ≡ 0 = rw (p2.0, p17.0, p3.0, p5.0, p6.0) in
      let back = sent_back_lem f ld n t (a_move from to u ∷ []) accepted in
      let form = (rows-beyond.move_form f ld n t u from to).size in
      let factor = (rows-beyond.move_factor f ld n t u from to).size in
      rw (form, factor, back.deep, back.touching, p5.0, p6.0)

  pub lent_stays : (from to : ℕ) → (let m = move_call f ld n t u from to in lent_line f ld n m.form m.factor ≡ lent_line f ld n t u)
  lent_stays from to =
      elim (ℕ_discrete (move_line f ld n t u from to) 0) [
        | yes h ↦ goes from to h
        | no h ↦ ap (λ (m : Moved). lent_line f ld n m.form m.factor) (turned_away from to h)
      ]

-- ---- claim 1

-- a number in front of the results
abbrev pushed : ℕ → Listed → Listed
pushed x s = record { answer = s.answer; form = s.form; factor = s.factor; results = x ∷ s.results }

half : (ms : List ℕ) → length (pairs ms) ≡ length ms / 2
unfolding pairs
half [] = refl
half (from ∷ []) = refl
half (from ∷ to ∷ ms) = let h = half ms in omega (arith, h)

-- as many results as line 12 asks for
enough : (ms rs : List ℕ) → list_line ms rs ≡ 0 → 4 * length (pairs ms) ≤ length rs
unfolding list_line line12
enough ms rs h = let l = ltb-false (length rs) (4 * (length ms / 2)) (or_right _ _ (or_right _ _ (passed (line12 ms rs) 11 0 h).0)) in rw (half ms) l

module _ (f : Format) (ld n : ℕ) where
  -- with a number in front, all is written a place further on
  behind : (qs : List Pair) (p x : ℕ) (s : Listed) → in_turn f ld n qs (suc p) (pushed x s) ≡ pushed x (in_turn f ld n qs p s)
  unfolding in_turn one_more written
  behind [] p x s = refl
  behind (q ∷ qs) p x s = rw (suc-add p 4, suc-add p 1, suc-add p 2, suc-add p 3) (behind qs (p + 4) x (one_more f ld n q p s))

  turns : (qs : List Pair) (a : ℕ) (t u : List Float) (rs : List ℕ)
      → 4 * length qs ≤ length rs
      → (let ss = singles f ld n qs t u in
      ◌≡◌ {A = Listed} (in_turn f ld n qs 0 (record { answer = a; form = t; factor = u; results = rs })) (record { answer = a; form = last_form t ss; factor = last_factor u ss; results = numbers_of ss ++ drop (4 * length qs) rs }))
  unfolding in_turn one_more written singles last_form last_factor numbers_of
  turns [] a t u rs h = refl
  turns (q ∷ qs) a t u [] h = absurd (omega arith)
  turns (q ∷ qs) a t u (r1 ∷ []) h = absurd (omega arith)
  turns (q ∷ qs) a t u (r1 ∷ r2 ∷ []) h = absurd (omega arith)
  turns (q ∷ qs) a t u (r1 ∷ r2 ∷ r3 ∷ []) h = absurd (omega arith)
  turns (q ∷ qs) a t u (r1 ∷ r2 ∷ r3 ∷ r4 ∷ rs) h =
      let m = move_call f ld n t u q.from q.to in
      let four : 4 * length (q ∷ qs) ≡ suc (suc (suc (suc (4 * length qs)))) = omega arith in
      rw four
      (behind qs 3 m.answer _
      ∙ ap (pushed m.answer) (behind qs 2 m.landed _ ∙ ap (pushed m.landed) (behind qs 1 m.swaps _ ∙ ap (pushed m.swaps) (behind qs 0 m.declined _ ∙ ap (pushed m.declined) (turns qs a m.form m.factor rs (omega (arith, h)))))))

pub in_turn_lem : InTurn
unfolding list_call
in_turn_lem f ld n t u ms rs h = rw h (turns f ld n (pairs ms) 0 t u rs (enough ms rs h))

-- line 12 tells 12, or nothing
twelve : (ms rs : List ℕ) → (list_line ms rs ≡ 0 → ⊥) → list_line ms rs ≡ 12
unfolding list_line
twelve ms rs = cond_both (line12 ms rs) 12 0 (λ (k : ℕ). (k ≡ 0 → ⊥) → k ≡ 12) (λ _ _. refl) (λ _ h. absurd (h refl))

pub twelve_alone : TwelveAlone
unfolding list_call
twelve_alone f ld n t u ms rs = (λ h. ap (λ (s : Listed). s.answer) (in_turn_lem f ld n t u ms rs h), λ h. rw (twelve ms rs h) refl)

-- ---- claim 2

-- a single call answers its line
answers_line : (f : Format) (ld n : ℕ) (t u : List Float) (from to : ℕ) → (move_call f ld n t u from to).answer ≡ move_line f ld n t u from to
unfolding move_call
answers_line f ld n t u from to = let line = move_line f ld n t u from to in cond_both (eqb line 0) _ _ (λ (m : Moved). m.answer ≡ line) (λ e. sym (eqb-true line 0 e)) (λ _. refl)

pub checked_once : CheckedOnce
unfolding singles pair_line
checked_once f ld n t u [] = refl
checked_once f ld n t u (q ∷ qs) =
    let m = move_call f ld n t u q.from q.to in
    ap₂ ◌∷◌ (answers_line f ld n t u q.from q.to ∙ line_of_pair f ld n t u q.from q.to)
    (checked_once f ld n m.form m.factor qs ∙ ap (λ (l : ℕ). map (λ (q : Pair). cond (eqb l 0) (first_of (position n q.from ∷ position n q.to ∷ [])) l) qs) (lent_stays f ld n t u q.from q.to))
