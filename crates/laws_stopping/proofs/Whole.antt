-- The claim: the move that stops exchanges whole blocks only. Its exchanges are dtrexc's calls, and what dtrexc does next at a place is of whole blocks. Assumes nothing.
use Prim.Native.Nat.{ℕ, ◌+◌, ◌-◌, ◌≤◌, ◌<◌}
use native.Mathlib.Nat.{add-sub_cancel}
use native.Mathlib.Omega.{arith}
use mathlib.Core.Path.{◌≡◌, refl, sym, ap, subst, ◌∙◌}
use mathlib.Core.Logic.{inl, inr}
use mathlib.Core.Bool.{Bool, true, false, not, ◌&&◌, cond}
use mathlib.Core.List.{List, [], ◌∷◌, ◌++◌, map, append-nil}
use lib.Dec.{eqb, ltb, leb}
use lib.Ieee.{Float, Format}
use borrow.Author.Tests.{eqb-false, ltb-true}
use Rattle.model.specs.Form.{zero_below}
use Rattle.model.specs.Swaps.{Change, declined_of, unchanged, and_then}
use Rattle.laws.proofs.Runs.{declined_then}
use Rattle.model.specs.Move.{Exchange, Moving}
use Rattle.model.specs.Stopping.{Kind, stopping, try_exchange, stopping_move}
use Rattle.laws_dtrexc.specs.Dtrexc.{Routines, Call}
use Rattle.laws_dtrexc.specs.Choice.{as_call}
use Rattle.laws_dtrexc.specs.Zeros.{Zeros, size_by, above_by, Stage, between, past_one, past_two, half_past, Place, Next, ended, takes, rows, splits, step_down, next_down, step_up, next_up, next, start}
use Rattle.laws_dtrexc.proofs.Seen.{zero-at}
use Rattle.laws_dtrexc.proofs.Next.{above_cases}
use Rattle.laws_dtrexc.proofs.Follow.{Good}
use Rattle.laws_dtrexc.proofs.Any
use Rattle.laws_stopping.specs.Made.{make_by, made_by}
use Rattle.laws_stopping.specs.Follows.{exchanged_by, routines}
use Rattle.laws_stopping.specs.Whole.{WholeBlocks, AllWhole, NeverParted}
use Rattle.laws_stopping.proofs.Follows.{Ends, walk_ends, calm, stopping_is_dtrexc}

-- ---- what is next at a place is of whole blocks

abbrev WholeNext : Zeros → Next → Type 0
WholeNext Z ended = Unit {0}
WholeNext Z (takes e q) = (e.n1 ≡ 2 → Z e.row ≡ false) × (e.n2 ≡ 2 → Z (e.row + e.n1) ≡ false)

either : (Z : Zeros) (b : Bool) (x y : Next) → (b ≡ true → WholeNext Z x) → (b ≡ false → WholeNext Z y) → WholeNext Z (cond b x y)
either Z true x y h k = h refl
either Z false x y h k = k refl

-- two single rows
ones : (Z : Zeros) (j : ℕ) → (◌≡◌ {A = ℕ} 1 2 → Z j ≡ false) × (◌≡◌ {A = ℕ} 1 2 → Z (j + 1) ≡ false)
ones Z j = (λ e. absurd (omega arith), λ e. absurd (omega arith))

two_guarded : (a b : Bool) → ◌≡◌ {A = ℕ} (cond (a && not b) 2 1) 2 → b ≡ false
two_guarded true true h = absurd (omega arith)
two_guarded true false h = refl
two_guarded false b h = absurd (omega arith)

size-two : (n : ℕ) (Z : Zeros) (p : ℕ) → size_by n Z p ≡ 2 → Z p ≡ false
unfolding size_by
size-two n Z p h = two_guarded (ltb (p + 1) n) (Z p) h

above-two : (Z : Zeros) (p : ℕ) → above_by Z p ≡ 2 → Z (p - 2) ≡ false
unfolding above_by
above-two Z p h = two_guarded (leb 2 p) (Z (p - 2)) h

split-two : (Z : Zeros) (h nbf : ℕ) → splits Z h nbf ≡ 2 → Z h ≡ false
unfolding splits
split-two Z h nbf e = go (eqb nbf 2) (Z h) refl e
  where
    go : (a b : Bool) → eqb nbf 2 ≡ a → cond (a && b) 3 nbf ≡ 2 → b ≡ false
    go true true p q = absurd (omega arith)
    go true false p q = refl
    go false b p q = absurd (eqb-false nbf 2 p q)

fits-above : (Z : Zeros) (h : ℕ) → 0 < h → above_by Z h ≤ h
fits-above Z h l = elim (above_cases Z h) [ inl e ↦ omega (arith, e.0, e.1) | inr e ↦ omega arith ]

module _ (n : ℕ) (Z : Zeros) (goal h nbf : ℕ) where
  down_step_lem : (b : ℕ) → (b ≡ 2 → Z h ≡ false) → WholeNext Z (step_down n Z goal h b)
  unfolding step_down
  down_step_lem b s =
      either Z (eqb b 3) _ _ (λ _. (λ e. absurd (omega arith), λ e. let q : h + 1 + 1 ≡ h + 2 = omega arith in rw q (size-two n Z (h + 2) e)))
      (λ _. (s, λ e. size-two n Z (h + b) e))

  up_step_lem : (b : ℕ) → 0 < h → (b ≡ 2 → Z h ≡ false) → WholeNext Z (step_up Z goal h b)
  unfolding step_up
  up_step_lem b l s =
      let room = fits-above Z h l in
      let q : h - above_by Z h + above_by Z h ≡ h = omega arith in
      either Z (eqb b 3) _ _ (λ _. (λ e. rw e (above-two Z h e), λ e. absurd (omega arith))) (λ _. (λ e. rw e (above-two Z h e), λ e. rw q (s e)))

  whole-at : (d : Bool) (s : Stage) → WholeNext Z (cond d (next_down n Z goal h nbf s) (next_up Z goal h nbf s))
  unfolding next_down next_up
  whole-at true between = either Z (ltb h goal) _ _ (λ _. down_step_lem (splits Z h nbf) (split-two Z h nbf)) (λ _. tt)
  whole-at true past_one = ones Z h
  whole-at true past_two = either Z (Z (h + 1)) _ _ (λ _. ones Z h) (λ q. (λ e. absurd (omega arith), λ _. q))
  whole-at true half_past = ones Z (h + 1)
  whole-at false between = either Z (ltb goal h) _ _ (λ e. let l = ltb-true goal h e in up_step_lem (splits Z h nbf) (omega arith) (split-two Z h nbf)) (λ _. tt)
  whole-at false past_one = ones Z h
  whole-at false past_two = either Z (Z (h - 1)) _ _ (λ _. ones Z h) (λ q. (λ _. q, λ e. absurd (omega arith)))
  whole-at false half_past = ones Z (h - 1)

next-whole : (n : ℕ) (Z : Zeros) (p : Place) → WholeNext Z (next n p Z)
unfolding next
next-whole n Z p = whole-at n Z p.goal p.here p.nbf p.down p.stage

-- ---- our exchanges are dtrexc's calls

abbrev un_call : Call → Exchange
un_call c = rows (c.J1 - 1) c.N1 c.N2

back : (es : List Exchange) → map un_call (map as_call es) ≡ es
back [] = refl
back (e ∷ es) = rw (add-sub_cancel e.row 1, back es)

same-calls : (xs ys : List Exchange) → map as_call xs ≡ map as_call ys → xs ≡ ys
same-calls xs ys h = sym (back xs) ∙ ap (map un_call) h ∙ back ys

module _ (k : Kind) (f : Format) (ld n : ℕ) where
  abbrev r : Routines (List Float)
  r = routines k f ld

  abbrev tests : List Float → Zeros
  tests = Any.tests r n

  abbrev leaves : List Float → Exchange → List Float
  leaves = Any.leaves r n

  abbrev bad : List Float → Exchange → ℕ
  bad = Any.fails r n

  leaves_is : (u : List Float) (e : Exchange) → leaves u e ≡ (make_by k e u).form
  unfolding exchanged_by
  leaves_is u e = rw (add-sub_cancel e.row 1)

  bad_is : (u : List Float) (e : Exchange) → bad u e ≡ declined_of (make_by k e u)
  unfolding exchanged_by
  bad_is u e = rw (add-sub_cancel e.row 1)

  -- where nothing declined at all, none of them did
  made-least : (c : Change) (es : List Exchange) → declined_of c ≤ declined_of (made_by k c es)
  unfolding made_by
  made-least c [] = omega arith
  made-least c (e ∷ es) = let q = made-least (and_then c (make_by k e)) es in let d = declined_then c (make_by k e) in omega arith

  good : (c : Change) (es : List Exchange) → declined_of (made_by k c es) ≡ 0 → Good n tests leaves bad c.form es
  unfolding made_by and_then
  good c [] h = tt
  good c (e ∷ es) h =
      let q = made-least (and_then c (make_by k e)) es in
      let d = declined_then c (make_by k e) in
      let z = bad_is c.form e in
      (omega arith, subst (λ (u : List Float). Good n tests leaves bad u es) (sym (leaves_is c.form e)) (good (and_then c (make_by k e)) es h))

  -- one of them
  whole-one : (p q : Place) (u : List Float) (e : Exchange) → next n p (tests u) ≡ takes e q → WholeBlocks f ld u e
  whole-one p q u e h =
      let w : WholeNext (tests u) (takes e q) = subst (WholeNext (tests u)) h (next-whole n (tests u) p) in
      record { upper = λ x. sym (at u e.row) ∙ w.0 x; lower = λ x. sym (at u (e.row + e.n1)) ∙ w.1 x }
    where
      at : (u : List Float) (j : ℕ) → tests u j ≡ zero_below f ld u j
      at u j = zero-at f ld n u (j + 2) (j + 1) j (omega arith) (omega arith)

  -- all, where none but the last fails
  whole-all : (ds : List Exchange) → ((p : Place) (u : List Float) → Any.Theirs r n p u ds → AllWhole k f ld u ds) → (es : List Exchange) (p : Place) (u : List Float)
      → Any.Theirs r n p u (es ++ ds) → Good n tests leaves bad u es → AllWhole k f ld u (es ++ ds)
  unfolding AllWhole
  whole-all ds end [] p u h g = end p u h
  whole-all ds end (e ∷ es) p u h g =
      (whole-one p h.0 u e h.1, subst (λ (v : List Float). AllWhole k f ld v (es ++ ds)) (leaves_is u e) (whole-all ds end es h.0 (leaves u e) (h.2 g.0) g.1))

module _ (f : Format) (ld n : ℕ) (t : List Float) where
  abbrev K : Kind
  K = stopping f ld n

  whole-ends : (b : Bool) (m : Moving) (p : Place) → Ends (try_exchange f ld n) f ld n t (calm f ld n) b m → Any.Theirs (routines K f ld) n p t m.exchanges → AllWhole K f ld t m.exchanges
  unfolding AllWhole
  whole-ends false m p o h =
      let e = append-nil m.exchanges in
      subst (AllWhole K f ld t) e
      (whole-all K f ld n [] (λ _ _ _. tt) m.exchanges p t (subst (Any.Theirs (routines K f ld) n p t) (sym e) h) (good K f ld n (unchanged t) m.exchanges (sym (ap (λ (c : Change). declined_of c) o.done) ∙ o.quiet)))
  whole-ends true m p o h =
      rw o.exchanges
      (whole-all K f ld n (o.last ∷ []) (λ q u g. (whole-one K f ld n q g.0 u o.last g.1, tt)) o.before p t (subst (Any.Theirs (routines K f ld) n p t) o.exchanges h) (good K f ld n (unchanged t) o.before o.quiet))

pub never_parted : NeverParted
never_parted f ld n from to t l h =
    let g = stopping_move f ld n from to t in
    let r = routines (stopping f ld n) f ld in
    let c = Any.dtrexc_follows r n t from to l h in
    let e = same-calls c.es g.moving.exchanges (sym c.calls ∙ (stopping_is_dtrexc f ld n from to t l h).calls) in
    let p = start n from to (Any.tests r n t) in
    whole-ends f ld n t g.stopped g.moving p (walk_ends (try_exchange f ld n) f ld n t (calm f ld n) from to) (subst (Any.Theirs r n p t) e c.follows)
