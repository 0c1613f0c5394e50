-- The claims: a move's exchanges, and dtrexc's over any form, are chosen by place and zeros; so they are the same as long as the zeros are. Assumes nothing.
use Prim.Native.Nat.{ℕ, zero, suc, ◌+◌, ◌<◌}
use native.Mathlib.Nat.{add-sub_cancel}
use native.Mathlib.Omega.{arith}
use mathlib.Core.Path.{◌≡◌, refl, sym, ap, ap₂, subst, fun_ext, ◌∙◌}
use mathlib.Core.Option
use mathlib.Core.List.{List, [], ◌∷◌, map}
use lib.Dec.{ltb}
use lib.ListN.{take, get_elem?}
use lib.Ieee.{Float, Format}
use borrow.Author.Tests.{ltb-true, lt-ltb}
use Rattle.model.specs.Form.{zero_below}
use Rattle.model.specs.Swaps.{Change, unchanged, and_then}
use Rattle.model.specs.Move.{Exchange, move}
use Rattle.laws_dtrexc.specs.Dtrexc.{Routines}
use Rattle.laws_dtrexc.specs.Choice.{as_call, make, made}
use Rattle.laws_dtrexc.specs.Zeros.{Zeros, zeros, zeros_in, Place, next, start, exchange_of, reached, met, before, left, Fine, met_in, run, before_in, form_at, form_in, SameZeros, ChoiceReadsZeros, PlaceLands, SameZerosSameExchange, CallsMade, DtrexcReadsZeros, DtrexcSameZeros, DtrexcSameEnd}
use Rattle.laws_dtrexc.proofs.Next.{guarded, same_start, start_fits}
use Rattle.laws_dtrexc.proofs.Follow.{Follows, after, seen, Good, follows_at, follows_below, ends, ends-below, follows_both, follows_all}
use Rattle.laws_dtrexc.proofs.Ours
use Rattle.laws_dtrexc.proofs.Any

-- ---- lists

map-take : {A B : Type 0} (f : A → B) (k : ℕ) (l : List A) → take k (map f l) ≡ map f (take k l)
map-take f zero l = refl
map-take f (suc k) [] = refl
map-take f (suc k) (x ∷ xs) = ap (λ r. f x ∷ r) (map-take f k xs)

map_get : {A B : Type 0} (f : A → B) (l : List A) (k : ℕ) → get_elem? (map f l) k ≡ Option.map f (get_elem? l k)
map_get f [] k = refl
map_get f (x ∷ xs) zero = refl
map_get f (x ∷ xs) (suc k) = map_get f xs k

-- ---- ours

module _ (f : Format) (ld n : ℕ) where
  abbrev by : List Float → Exchange → List Float
  by = Ours.leaves f ld n

  -- ours never stops
  all_good : (t : List Float) (es : List Exchange) → Good n (zeros f ld n) by (λ _ _. 0) t es
  all_good t [] = tt
  all_good t (e ∷ es) = (refl, all_good (by t e) es)

  made-is : (c : Change) (es : List Exchange) → (made f ld n c es).form ≡ after n (zeros f ld n) by (λ _ _. 0) c.form es
  unfolding made and_then
  made-is c [] = refl
  made-is c (e ∷ es) = made-is (and_then c (make f ld n e)) es

  met-is : (t : List Float) (es : List Exchange) → met f ld n t es ≡ seen n (zeros f ld n) by (λ _ _. 0) t es
  unfolding met
  met-is t [] = refl
  met-is t (e ∷ es) = ap (λ Zs. zeros f ld n t ∷ Zs) (met-is (by t e) es)

  inside : (t : List Float) (j : ℕ) → j + 1 < n → zero_below f ld t j ≡ zeros f ld n t j
  unfolding zeros
  inside t j l = rw (lt-ltb (j + 1) n l)

  move_chosen : (from to : ℕ) (t : List Float) → from < n → to < n → Follows n (zeros f ld n) by (λ _ _. 0) (start n from to (zeros f ld n t)) t (move f ld n from to t).exchanges
  move_chosen from to t l k =
      subst (λ p. Follows n (zeros f ld n) by (λ _ _. 0) p t (move f ld n from to t).exchanges) (same_start n (zero_below f ld t) (zeros f ld n t) (inside t) from to l k)
      (follows_below n (zero_below f ld) (zeros f ld n) by (λ _ _. 0) inside _ t (move f ld n from to t).exchanges (start_fits n (zero_below f ld t) from to l k) (Ours.move_follows f ld n from to t l k).follows)

pub choice_reads_zeros : ChoiceReadsZeros
choice_reads_zeros f ld n from to t l k i =
    let es = before f ld n from to t i in
    follows_at n (zeros f ld n) (by f ld n) (λ _ _. 0) i _ t (move f ld n from to t).exchanges (move_chosen f ld n from to t l k) (all_good f ld n t es)
    ∙ ap₂ (λ (Zs : List Zeros) (u : List Float). exchange_of (next n (reached n (start n from to (zeros f ld n t)) Zs) (zeros f ld n u))) (sym (met-is f ld n t es)) (sym (made-is f ld n (unchanged t) es))

-- the row at the end
move-ends : (f : Format) (ld n from to : ℕ) (t : List Float) → from < n → to < n
    → ends n (zeros f ld n) (by f ld n) (λ _ _. 0) (start n from to (zeros f ld n t)) t (move f ld n from to t).exchanges ≡ (move f ld n from to t).here
move-ends f ld n from to t l k =
    let es = (move f ld n from to t).exchanges in
    let w = Ours.move_follows f ld n from to t l k in
    ap (λ (p : Place). ends n (zeros f ld n) (by f ld n) (λ _ _. 0) p t es) (sym (same_start n (zero_below f ld t) (zeros f ld n t) (inside f ld n t) from to l k))
    ∙ sym (ends-below n (zero_below f ld) (zeros f ld n) (by f ld n) (λ _ _. 0) (inside f ld n) _ t es (all_good f ld n t es) (start_fits n (zero_below f ld t) from to l k) w.follows)
    ∙ w.here

pub place_lands : PlaceLands
place_lands f ld n from to t l k =
    ap (λ (Zs : List Zeros). (reached n (start n from to (zeros f ld n t)) Zs).here) (met-is f ld n t (move f ld n from to t).exchanges) ∙ move-ends f ld n from to t l k

zeros-same : (n : ℕ) (f : Format) (ld : ℕ) (t : List Float) (g : Format) (ld' : ℕ) (u : List Float) → ((j : ℕ) → j + 1 < n → zero_below f ld t j ≡ zero_below g ld' u j) → zeros f ld n t ≡ zeros g ld' n u
unfolding zeros
zeros-same n f ld t g ld' u h = fun_ext (λ j. guarded (ltb (j + 1) n) _ _ (λ e. h j (ltb-true (j + 1) n e)))

pub same_zeros-same_exchange : SameZerosSameExchange
same_zeros-same_exchange n f ld from to t k g ld' from' to' u i a b c d p h =
    choice_reads_zeros f ld n from to t a b k
    ∙ ap₂ (λ (q : Place) (Z : Zeros). exchange_of (next n q Z)) p (zeros-same n f ld _ g ld' _ h)
    ∙ sym (choice_reads_zeros g ld' n from' to' u c d i)

-- ---- dtrexc

module _ {Form : Type 0} (r : Routines Form) (n : ℕ) where
  abbrev theirs : Form → Exchange → Form
  theirs = Any.leaves r n

  abbrev fails : Form → Exchange → ℕ
  fails = Any.fails r n

  left_is : (T : Form) (es : List Exchange) → left r T (map as_call es) ≡ after n (zeros_in r n) theirs fails T es
  unfolding left
  left_is T [] = refl
  left_is T (e ∷ es) = left_is (theirs T e) es

  met_in-is : (T : Form) (es : List Exchange) → met_in r n T (map as_call es) ≡ seen n (zeros_in r n) theirs fails T es
  unfolding met_in
  met_in-is T [] = refl
  met_in-is T (e ∷ es) = ap (λ Zs. zeros_in r n T ∷ Zs) (met_in-is (theirs T e) es)

  fine_good : (T : Form) (es : List Exchange) → Fine r T (map as_call es) → Good n (zeros_in r n) theirs fails T es
  unfolding Fine
  fine_good T [] g = tt
  fine_good T (e ∷ es) g = (g.0, fine_good (theirs T e) es g.1)

  inside_in : (T : Form) (j : ℕ) → j + 1 < n → Any.tests r n T j ≡ zeros_in r n T j
  unfolding zeros_in
  inside_in T j l = rw (lt-ltb (j + 1) n l)

  module _ (from to : ℕ) (T : Form) (l : from < n) (k : to < n) where
    abbrev run_chosen : Any.Chosen r n (start n from to (Any.tests r n T)) T (run r n from to T)
    run_chosen = Any.dtrexc_follows r n T from to l k

    all : List Exchange
    all = run_chosen.es

    all-calls : (run r n from to T).calls ≡ map as_call all
    unfolding all
    all-calls = run_chosen.calls

    first-calls : (i : ℕ) → before_in r n from to T i ≡ map as_call (take i all)
    first-calls i = ap (take i) all-calls ∙ map-take as_call i all

    run_follows : Follows n (zeros_in r n) theirs fails (start n from to (zeros_in r n T)) T all
    unfolding all
    run_follows =
        subst (λ p. Follows n (zeros_in r n) theirs fails p T all) (same_start n (Any.tests r n T) (zeros_in r n T) (inside_in T) from to l k)
        (follows_below n (Any.tests r n) (zeros_in r n) theirs fails inside_in _ T all (start_fits n (Any.tests r n T) from to l k) run_chosen.follows)

    run_ends : Good n (zeros_in r n) theirs fails T all → (run r n from to T).ILST ≡ ends n (zeros_in r n) theirs fails (start n from to (zeros_in r n T)) T all + 1
    unfolding all
    run_ends g =
        run_chosen.landed g
        ∙ ap (λ (x : ℕ). x + 1)
        (ends-below n (Any.tests r n) (zeros_in r n) theirs fails inside_in _ T all g (start_fits n (Any.tests r n T) from to l k) run_chosen.follows
        ∙ ap (λ (p : Place). ends n (zeros_in r n) theirs fails p T all) (same_start n (Any.tests r n T) (zeros_in r n T) (inside_in T) from to l k))

pub calls-made : CallsMade
calls-made Form r n from to T l k = let c = run_chosen r n from to T l k in c.form ∙ ap (left r T) (sym c.calls)

pub dtrexc_reads_zeros : DtrexcReadsZeros
dtrexc_reads_zeros Form r n from to T l k i g =
    let es = all r n from to T l k in
    let e = first-calls r n from to T l k i in
    ap (λ cs. get_elem? cs i) (all-calls r n from to T l k) ∙ map_get as_call es i
    ∙ ap (Option.map as_call) (follows_at n (zeros_in r n) (theirs r n) (fails r n) i _ T es (run_follows r n from to T l k) (fine_good r n T (take i es) (subst (Fine r T) e g)))
    ∙ ap₂ (λ (Zs : List Zeros) (U : Form). Option.map as_call (exchange_of (next n (reached n (start n from to (zeros_in r n T)) Zs) (zeros_in r n U)))) (sym (ap (met_in r n T) e ∙ met_in-is r n T (take i es)))
    (sym (ap (left r T) e ∙ left_is r n T (take i es)))

-- ---- the two beside each other

both_zeros : {Form : Type 0} (r : Routines Form) (n : ℕ) (T : Form) (f : Format) (ld : ℕ) (t : List Float) → SameZeros r n T f ld t → zeros_in r n T ≡ zeros f ld n t
unfolding zeros_in zeros
both_zeros r n T f ld t h = fun_ext (λ j. guarded (ltb (j + 1) n) _ _ (λ e. let l = ltb-true (j + 1) n e in at j l))
  where
    at : (j : ℕ) → j + 1 < n → r.is_zero T (j + 2) (j + 1) ≡ zero_below f ld t j
    at j l =
        let e : j + 2 ≡ j + 1 + 1 = omega arith in
        ap (λ I. r.is_zero T I (j + 1)) e ∙ h (j + 1) (omega arith) l ∙ ap (zero_below f ld t) (add-sub_cancel j 1)

module _ {Form : Type 0} (r : Routines Form) (T : Form) (f : Format) (ld n from to : ℕ) (t : List Float) (l : from < n) (k : to < n) where
  -- before number i
  same_at : (i : ℕ) → SameZeros r n (form_in r n from to T i) f ld (form_at f ld n from to t i)
      → zeros_in r n (after n (zeros_in r n) (theirs r n) (fails r n) T (take i (all r n from to T l k))) ≡ zeros f ld n (after n (zeros f ld n) (by f ld n) (λ _ _. 0) t (take i (move f ld n from to t).exchanges))
  same_at i h =
      let es = all r n from to T l k in
      ap (zeros_in r n) (sym (ap (left r T) (first-calls r n from to T l k i) ∙ left_is r n T (take i es)))
      ∙ both_zeros r n _ f ld _ h
      ∙ ap (zeros f ld n) (made-is f ld n (unchanged t) (take i (move f ld n from to t).exchanges))

  -- from the place where dtrexc begins
  start-same : SameZeros r n (form_in r n from to T 0) f ld (form_at f ld n from to t 0) → start n from to (zeros f ld n t) ≡ start n from to (zeros_in r n T)
  unfolding left made
  start-same h = ap (start n from to) (sym (both_zeros r n T f ld t h))

  moved-from : SameZeros r n (form_in r n from to T 0) f ld (form_at f ld n from to t 0) → Follows n (zeros f ld n) (by f ld n) (λ _ _. 0) (start n from to (zeros_in r n T)) t (move f ld n from to t).exchanges
  moved-from h = subst (λ (p : Place). Follows n (zeros f ld n) (by f ld n) (λ _ _. 0) p t (move f ld n from to t).exchanges) (start-same h) (move_chosen f ld n from to t l k)

pub dtrexc-same_zeros : DtrexcSameZeros
dtrexc-same_zeros Form r T f ld n from to t l k i same g =
    let es = all r n from to T l k in
    let ds = (move f ld n from to t).exchanges in
    ap (λ cs. get_elem? cs i) (all-calls r n from to T l k) ∙ map_get as_call es i
    ∙ ap (Option.map as_call)
    (follows_both n (zeros_in r n) (theirs r n) (fails r n) (zeros f ld n) (by f ld n) i _ T t es ds (run_follows r n from to T l k) (moved-from r T f ld n from to t l k (same 0 (omega arith)))
    (λ j b. same_at r T f ld n from to t l k j (same j b)) (fine_good r n T (take i es) (subst (Fine r T) (first-calls r n from to T l k i) g)))
    ∙ sym (map_get as_call ds i)

pub dtrexc_same_end : DtrexcSameEnd
dtrexc_same_end Form r T f ld n from to t l k same g =
    let es = all r n from to T l k in
    let ds = (move f ld n from to t).exchanges in
    let e = all-calls r n from to T l k in
    let fine = fine_good r n T es (subst (Fine r T) e g) in
    let x =
    follows_all n (zeros_in r n) (theirs r n) (fails r n) (zeros f ld n) (by f ld n) _ T t es ds (run_follows r n from to T l k) (moved-from r T f ld n from to t l k (same 0))
    (λ j. same_at r T f ld n from to t l k j (same j)) fine in
    let y = ap (λ (p : Place). ends n (zeros f ld n) (by f ld n) (λ _ _. 0) p t ds) (sym (start-same r T f ld n from to t l k (same 0))) in
    (e ∙ ap (map as_call) x.0, run_ends r n from to T l k fine ∙ ap (λ (h : ℕ). h + 1) (x.1 ∙ y ∙ move-ends f ld n from to t l k))
