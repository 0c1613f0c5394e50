-- The claim: a move's exchanges are dtrexc's, up to the first that declines. Assumes nothing.
use Prim.Native.Nat.{ℕ, ◌+◌, ◌-◌, ◌<◌}
use native.Mathlib.Numerals.{add-one}
use native.Mathlib.Decide.{dec_lt, ℕ_discrete}
use native.Mathlib.Omega.{arith}
use mathlib.Core.Path.{◌≡◌, refl, sym, ap, ◌∙◌}
use mathlib.Core.Logic.{inl, inr}
use mathlib.Core.Bool.{Bool, true, false, ◌&&◌, cond, false≢true}
use mathlib.Core.List.{List, [], ◌++◌, map, append-nil, map-append}
use lib.Dec.{eqb, ltb, leb, eqb-suc-suc}
use lib.Ieee.{Float, Format}
use borrow.Author.Tests.{ltb-true, ltb-false, leb-true, lt-ltb, le-ltb, eq-eqb, ne_eqb}
use Rattle.model.specs.Form.{nonzero_below, two_block}
use Rattle.model.specs.Swaps.{Change, declines_in, unchanged}
use Rattle.model.specs.Move.{Exchange, Moving, first_row, size_at, down_by, up_by, goal_down, move_from, move}
use Rattle.laws_dtrexc.specs.Dtrexc.{Control, goes, Call, Returned, returned, updated, label10, label20, dtrexc_by, dtrexc}
use Rattle.laws_dtrexc.specs.Choice.{ours, lapack, as_call, made, until_decline, SameChoice, DtrexcChoice}
use Rattle.laws_dtrexc.proofs.Lists.{until_all, until_begins}
use Rattle.laws_dtrexc.proofs.Kept.{down_by_lem, up_by_lem, Nbf, Listed, listed_more, counted}
use Rattle.laws_dtrexc.proofs.Seen.{seen, ltb_next, first-of, size-of}
use Rattle.laws_dtrexc.proofs.Agree.{Same, Stopped, Agrees}
use Rattle.laws_dtrexc.proofs.Down
use Rattle.laws_dtrexc.proofs.Up

-- ---- from agreeing to the claim

module _ (f : Format) (ld n : ℕ) (t : List Float) (goal : ℕ) where
  same-choice : (c : Control (List Float)) (m : Moving) → Listed f ld n t m → Same goal c m → SameChoice f ld n t m (returned c)
  unfolding returned
  same-choice c m h a =
      rw a.is
      (record {
        done = h;
        calls = ap (map as_call) (sym (until_all f ld n t m.exchanges (sym (counted f ld n t m h) ∙ a.quiet)));
        form_then = ap (λ (c : Change). c.form) (h ∙ ap (made f ld n (unchanged t)) (sym (until_all f ld n t m.exchanges (sym (counted f ld n t m h) ∙ a.quiet))));
        beginning = ([], sym (append-nil _));
        whole = λ _. refl;
        landed = λ _. refl;
        form = λ _. refl;
        failed = (λ _. a.quiet, λ _. refl);
      })

  stopped-choice : (c : Control (List Float)) (m : Moving) → Stopped f ld n t c m → SameChoice f ld n t m (returned c)
  unfolding returned
  stopped-choice c m a =
      let o = a.over in
      let i = a.info in
      let s = o.some in
      let u = a.calls ∙ ap (map as_call) (sym o.until) in
      let b = until_begins f ld n t m.exchanges in
      rw a.is
      (record {
        done = o.listed;
        calls = u;
        form_then = a.form ∙ ap (λ (l : List Exchange). (made f ld n (unchanged t) l).form) (sym o.until);
        beginning = (map as_call b.0, ap (map as_call) b.1 ∙ map-append as_call (until_decline f ld n t m.exchanges) b.0 ∙ ap (λ (l : List Call). l ++ map as_call b.0) (sym u));
        whole = λ e. absurd (omega arith);
        landed = λ e. absurd (omega arith);
        form = λ e. absurd (omega arith);
        failed = (λ e. absurd (omega arith), λ e. absurd (omega arith));
      })

  pub agree_choice : (c : Control (List Float)) (m : Moving) → Listed f ld n t m → Agrees f ld n t goal c m → SameChoice f ld n t m (returned c)
  agree_choice c m h a = elim a [ inl s ↦ same-choice c m h s | inr s ↦ stopped-choice c m s ]

-- ---- the start

pub eqb_next : (a b : ℕ) → eqb (a + 1) (b + 1) ≡ eqb a b
eqb_next a b = rw (add-one a, add-one b) (eqb-suc-suc a b)

module _ (f : Format) (ld n : ℕ) (t : List Float) where
  -- the block in row a, before the first step
  abbrev start : ℕ → Moving
  start a = record { here = a; nbf = size_at f ld n t a; change = unchanged t; exchanges = [] }

  start_listed : (a : ℕ) → Listed f ld n t (start a)
  unfolding made
  start_listed a = refl

  start-nbf : (a : ℕ) → Nbf (start a)
  unfolding size_at
  start-nbf a = go (two_block f ld n t a)
    where
      go : (b : Bool) → Nbf (record { here = a; nbf = cond b 2 1; change = unchanged t; exchanges = [] })
      go true = record { low = omega arith; high = omega arith }
      go false = record { low = omega arith; high = omega arith }

  -- the row below a 2-block's first is no block's first row, unless a 2-block begins there too
  gap : (a to : ℕ) → to < n → two_block f ld n t a ≡ true → two_block f ld n t (first_row f ld t to) ≡ false → first_row f ld t to ≡ a + 1 → ⊥
  unfolding first_row two_block
  gap a to l x y e = go (ltb 0 to) (nonzero_below f ld t (to - 1)) refl refl y e
    where
      inside : (b c : Bool) → (b && c) ≡ true → c ≡ true
      inside true c h = h
      inside false c h = absurd (false≢true h)

      go : (p q : Bool) → ltb 0 to ≡ p → nonzero_below f ld t (to - 1) ≡ q
          → (ltb (cond (p && q) (to - 1) to + 1) n && nonzero_below f ld t (cond (p && q) (to - 1) to)) ≡ false → cond (p && q) (to - 1) to ≡ a + 1 → ⊥
      go true true e₁ e₂ y₁ r =
          let k = ltb-true 0 to e₁ in
          let w : ltb (to - 1 + 1) n ≡ true = lt-ltb (to - 1 + 1) n (omega arith) in
          false≢true (sym y₁ ∙ rw (w, e₂))
      go true false e₁ e₂ y₁ r =
          let k : to - 1 ≡ a = omega arith in
          false≢true (sym e₂ ∙ rw k (inside (ltb (a + 1) n) (nonzero_below f ld t a) x))
      go false q e₁ e₂ y₁ r = let k = ltb-false 0 to e₁ in omega arith

  -- going down, ILST is updated to our goal, which is below the start
  pub goal-is : (a b : ℕ) → a < b → updated (size_at f ld n t a) (size_at f ld n t b) (b + 1) ≡ goal_down (size_at f ld n t a) (size_at f ld n t b) b + 1
  unfolding updated goal_down size_at
  goal-is a b l = go (two_block f ld n t a) (two_block f ld n t b)
    where
      go : (x y : Bool) → updated (cond x 2 1) (cond y 2 1) (b + 1) ≡ goal_down (cond x 2 1) (cond y 2 1) b + 1
      go true true = refl
      go true false = omega arith
      go false true = refl
      go false false = refl

  pub goal-below : (a to : ℕ) → to < n → a < first_row f ld t to → ltb a (goal_down (size_at f ld n t a) (size_at f ld n t (first_row f ld t to)) (first_row f ld t to)) ≡ true
  unfolding goal_down size_at
  goal-below a to l k = go (two_block f ld n t a) (two_block f ld n t b) refl refl
    where
      b : ℕ
      b = first_row f ld t to

      go : (x y : Bool) → two_block f ld n t a ≡ x → two_block f ld n t b ≡ y → ltb a (goal_down (cond x 2 1) (cond y 2 1) b) ≡ true
      go true true e₁ e₂ = lt-ltb a b k
      go true false e₁ e₂ = lt-ltb a (b - 1) (let g = gap a to l e₁ e₂ in omega arith)
      go false true e₁ e₂ = lt-ltb a (b + 1) (omega arith)
      go false false e₁ e₂ = lt-ltb a b k

  -- ---- the whole, of two first rows a and b

  -- dtrexc, once it knows them
  runs : ℕ → ℕ → Returned (List Float)
  runs a b =
      let r = ours f ld n in
      let nbf = size_at f ld n t a in
      cond (eqb (a + 1) (b + 1)) (record { T = t; ILST = b + 1; INFO = 0; calls = [] })
      (cond (ltb (a + 1) (b + 1)) (returned (label10 r n n (record { T = t; ILST = updated nbf (size_at f ld n t b) (b + 1); HERE = a + 1; NBF = nbf; INFO = 0; calls = [] })))
      (returned (label20 r n (record { T = t; ILST = b + 1; HERE = a + 1; NBF = nbf; INFO = 0; calls = [] }))))

  lapack-runs : (from to : ℕ) → leb n 1 ≡ false → lapack f ld n from to t ≡ runs (first_row f ld t from) (first_row f ld t to)
  unfolding dtrexc dtrexc_by runs
  lapack-runs from to e = rw (e, first-of f ld n t from, first-of f ld n t to, size-of f ld n t (first_row f ld t from), size-of f ld n t (first_row f ld t to))

  -- nowhere to go
  stays : (a b : ℕ) → a ≡ b → SameChoice f ld n t (start a) (record { T = t; ILST = b + 1; INFO = 0; calls = [] })
  unfolding returned declines_in
  stays a b e = rw (← e) (agree_choice f ld n t a (goes (seen 0 a (start a))) (start a) (start_listed a) (inl (record { is = refl; quiet = refl })))

  down : (a b goal : ℕ) → updated (size_at f ld n t a) (size_at f ld n t b) (b + 1) ≡ goal + 1 → ltb a goal ≡ true
      → SameChoice f ld n t (down_by n f ld n goal (start a)) (returned (label10 (ours f ld n) n n (record { T = t; ILST = updated (size_at f ld n t a) (size_at f ld n t b) (b + 1); HERE = a + 1; NBF = size_at f ld n t a; INFO = 0; calls = [] })))
  unfolding declines_in
  down a b goal e l =
      rw e
      (agree_choice f ld n t goal _ _ (down_by_lem f ld n (Listed f ld n t) (listed_more f ld n t) (λ row c x o. o) n goal (start a) (start_listed a))
      (Down.loop f ld n t goal n (start a) (start_listed a) (start-nbf a) refl l))

  up : (a b : ℕ) → ltb b a ≡ true → SameChoice f ld n t (up_by n f ld n b (start a)) (returned (label20 (ours f ld n) n (record { T = t; ILST = b + 1; HERE = a + 1; NBF = size_at f ld n t a; INFO = 0; calls = [] })))
  unfolding declines_in
  up a b l =
      agree_choice f ld n t b _ _ (up_by_lem f ld n (Listed f ld n t) (listed_more f ld n t) (λ row c x o. o) n b (start a) (start_listed a))
      (Up.loop f ld n t b n (start a) (start_listed a) (start-nbf a) refl l)

  moves : (a to : ℕ) → to < n → SameChoice f ld n t (move_from f ld n a (first_row f ld t to) t) (runs a (first_row f ld t to))
  unfolding move_from runs
  moves a to l =
      let b = first_row f ld t to in
      elim (ℕ_discrete a b) [
        | yes p ↦ rw (eqb_next a b, eq-eqb a b p) (stays a b p)
        | no p ↦ rw (eqb_next a b, ltb_next a b, ne_eqb a b p)
            (elim (dec_lt a b) [
              | yes q ↦ rw (lt-ltb a b q) (down a b _ (goal-is a b q) (goal-below a to l q))
              | no q ↦ rw (le-ltb a b (omega arith)) (up a b (lt-ltb b a (omega arith)))
            ])
      ]

  -- a form of one row
  single : (from to : ℕ) → from < n → to < n → leb n 1 ≡ true → SameChoice f ld n t (move f ld n from to t) (lapack f ld n from to t)
  unfolding move move_from first_row dtrexc dtrexc_by
  single from to l k e =
      let o = leb-true n 1 e in
      let p : from ≡ 0 = omega arith in
      let q : to ≡ 0 = omega arith in
      rw (e, p, q) (stays 0 0 refl)

  choice : (from to : ℕ) → from < n → to < n → SameChoice f ld n t (move f ld n from to t) (lapack f ld n from to t)
  unfolding move
  choice from to l k = go (leb n 1) refl
    where
      go : (b : Bool) → leb n 1 ≡ b → SameChoice f ld n t (move f ld n from to t) (lapack f ld n from to t)
      go true e = single from to l k e
      go false e = rw (lapack-runs from to e) (moves (first_row f ld t from) to k)

pub dtrexc-choice : DtrexcChoice
dtrexc-choice f ld n from to t l k = choice f ld n t from to l k
