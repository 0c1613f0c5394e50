-- Our move does what is next at each place, from its first exchange to its last, whatever declines. Assumes nothing.
use Prim.Native.Nat.{ℕ, zero, suc, ◌+◌, ◌-◌, ◌≤◌, ◌<◌}
use native.Mathlib.Decide.{dec_lt, ℕ_discrete}
use native.Mathlib.Omega.{arith}
use mathlib.Core.Path.{◌≡◌, refl, sym, ap, subst, ◌∙◌}
use mathlib.Core.Logic.{inl, inr}
use mathlib.Core.Bool.{Bool, true, false, cond}
use mathlib.Core.List.{List, [], ◌∷◌, ◌++◌, append-nil, append_assoc}
use lib.Dec.{eqb, ltb}
use lib.Ieee.{Float, Format, ne}
use borrow.Author.Tests.{ltb-true, lt-ltb, le-ltb, eq-eqb, ne_eqb}
use Rattle.model.specs.Form.{zero_below, two_block}
use Rattle.model.specs.Swaps.{unchanged, and_then}
use Rattle.model.specs.Move.{Exchange, Moving, first_row, size_at, size_above, exchanging, arrived, landed_whole, down_whole, down_past_two, down_apart, down_step, down_by, up_whole, up_past_two, up_apart, up_step, up_by, move_from, move}
use Rattle.laws_dtrexc.specs.Choice.{make}
use Rattle.laws_dtrexc.specs.Zeros.{first_by, size_by, above_by, Place, between, past_one, past_two, half_past, takes, ended, rows, lower, upper, splits, next, start, reached}
use Rattle.laws_dtrexc.proofs.Next
use Rattle.laws_dtrexc.proofs.Next.{size_cases, above_cases, Settled, settled_three, settled_split, settled_size, down-split, up_split, down_there, up_there, down-whole, down-apart, up_whole_lem, up_apart_lem, down-one, down-two, down_half, down_rest, up_one, up_two, up_half, up_rest}
use Rattle.laws_dtrexc.proofs.Arrives.{first_le, goal_le}
use Rattle.laws_dtrexc.proofs.Follow.{Follows, follows_as, ends, ends_more, ends_as}

module _ (f : Format) (ld n : ℕ) where
  abbrev pub leaves : List Float → Exchange → List Float
  leaves t e = (make f ld n e t).form

  abbrev pub Ours : Place → List Float → List Exchange → Type 0
  Ours p t es = Follows n (zero_below f ld) leaves (λ _ _. 0) p t es

  -- our sizes are those of the zeros
  size_is : (t : List Float) (p : ℕ) → size_by n (zero_below f ld t) p ≡ size_at f ld n t p
  unfolding size_by size_at two_block ne
  size_is t p = refl

  above-is : (t : List Float) (p : ℕ) → above_by (zero_below f ld t) p ≡ size_above f ld t p
  unfolding above_by size_above ne
  above-is t p = refl

  first-is : (t : List Float) (p : ℕ) → first_by (zero_below f ld t) p ≡ first_row f ld t p
  unfolding first_by first_row ne
  first-is t p = refl

  some_size : (t : List Float) (p : ℕ) → 1 ≤ size_at f ld n t p
  some_size t p = subst (λ (k : ℕ). 1 ≤ k) (size_is t p) (Next.some_size n (zero_below f ld t) p)

  some-above : (t : List Float) (p : ℕ) → 1 ≤ size_above f ld t p
  some-above t p = subst (λ (k : ℕ). 1 ≤ k) (above-is t p) (Next.some-above (zero_below f ld t) p)

  -- a move that had made the exchanges l is r at its end, and what came on follows from the place p and the form t on
  pub record Rest (l : List Exchange) (r : Moving) (p : Place) (t : List Float) : Type 0 where
    pub es : List Exchange
    pub all : r.exchanges ≡ l ++ es
    pub follows : Ours p t es
    pub here : ends n (zero_below f ld) leaves (λ _ _. 0) p t es ≡ r.here

  more : (l : List Exchange) (r : Moving) (e : Exchange) (p q : Place) (t : List Float) → next n p (zero_below f ld t) ≡ takes e q → Rest (l ++ (e ∷ [])) r q (leaves t e) → Rest l r p t
  more l r e p q t h k = record { es = e ∷ k.es; all = k.all ∙ append_assoc l (e ∷ []) k.es; follows = (q, h, λ _. k.follows); here = ends_more n (zero_below f ld) leaves (λ _ _. 0) p q t e k.es h ∙ k.here }

  over : (m : Moving) (p : Place) → p.here ≡ m.here → next n p (zero_below f ld m.change.form) ≡ ended → Rest m.exchanges m p m.change.form
  unfolding reached
  over m p e h = record { es = []; all = sym (append-nil m.exchanges); follows = h; here = e }

  rest_as : (l : List Exchange) (r : Moving) (p q : Place) (t : List Float) → p.here ≡ q.here → next n p (zero_below f ld t) ≡ next n q (zero_below f ld t) → Rest l r q t → Rest l r p t
  rest_as l r p q t i e k =
      record {
        es = k.es;
        all = k.all;
        follows = follows_as n (zero_below f ld) leaves (λ _ _. 0) p q t k.es e k.follows;
        here = ends_as n (zero_below f ld) leaves (λ _ _. 0) p q t k.es i e k.follows ∙ k.here;
      }

  abbrev Ready : Moving → Type 0
  Ready m = Settled (zero_below f ld m.change.form) m.here m.nbf

  module _ (goal : ℕ) (G : Moving → Moving) where
    -- ---- down

    abbrev below : Moving → Place
    below m = lower goal m.here m.nbf between

    -- whatever comes after a step that ends in a row further down
    abbrev Down : ℕ → Type 0
    Down h = (m : Moving) → Ready m → h < m.here → Rest m.exchanges (G m) (below m) m.change.form

    whole-down : (m : Moving) → Ready m → ltb m.here goal ≡ true → eqb m.nbf 3 ≡ false → Down m.here → Rest m.exchanges (G (down_whole f ld n m)) (below m) m.change.form
    unfolding down_whole landed_whole exchanging and_then splits
    whole-down m s l e c =
        let h = m.here in
        let b = m.nbf in
        let t = m.change.form in
        let k = size_at f ld n t (h + b) in
        let u = leaves t (rows h b k) in
        let i = some_size t (h + b) in
        more _ _ (rows h b k) (below m) (lower goal (h + k) b between) t (down-whole n (zero_below f ld t) goal h b s l e k (size_is t (h + b)))
        (rest_as _ _ _ (lower goal (h + k) (splits (zero_below f ld u) (h + k) b) between) u refl (down-split n (zero_below f ld u) goal (h + k) b)
        (c (landed_whole f ld (h + k) (exchanging f ld n h b k m)) (settled_split (zero_below f ld u) (h + k) b) (omega arith)))

    -- past a 2-block
    past_down : (m : Moving) → eqb m.nbf 3 ≡ true → Down m.here → Rest m.exchanges (G (down_past_two f ld n m)) (lower goal m.here m.nbf past_two) m.change.form
    unfolding down_past_two arrived exchanging and_then
    past_down m e c = go (zero_below f ld t (h + 1)) refl
      where
        h : ℕ
        h = m.here

        b : ℕ
        b = m.nbf

        t : List Float
        t = m.change.form

        one : Moving
        one = exchanging f ld n h 1 1 m

        go : (q : Bool) → zero_below f ld t (h + 1) ≡ q
            → Rest m.exchanges (G (arrived (h + 2) (cond q (exchanging f ld n (h + 1) 1 1 one) (exchanging f ld n h 1 2 m)))) (lower goal h b past_two) t
        go true q =
            more _ _ (rows h 1 1) _ (lower goal h b half_past) t (down_half n (zero_below f ld t) goal h b q)
            (more _ _ (rows (h + 1) 1 1) _ (lower goal (h + 2) b between) (leaves t (rows h 1 1)) (down_rest n (zero_below f ld (leaves t (rows h 1 1))) goal h b)
            (c (arrived (h + 2) (exchanging f ld n (h + 1) 1 1 one)) (settled_three _ (h + 2) b e) (omega arith)))
        go false q = more _ _ (rows h 1 2) _ (lower goal (h + 2) b between) t (down-two n (zero_below f ld t) goal h b q) (c (arrived (h + 2) (exchanging f ld n h 1 2 m)) (settled_three _ (h + 2) b e) (omega arith))

    apart-down : (m : Moving) → Ready m → ltb m.here goal ≡ true → eqb m.nbf 3 ≡ true → Down m.here → Rest m.exchanges (G (down_apart f ld n m)) (below m) m.change.form
    unfolding down_apart arrived exchanging and_then
    apart-down m s l e c =
        let h = m.here in
        let b = m.nbf in
        let t = m.change.form in
        let Z = zero_below f ld t in
        let z = size_is t (h + 2) in
        elim (size_cases n Z (h + 2)) [
          | inl q ↦ rw (sym z ∙ q.0) (more _ _ (rows (h + 1) 1 2) _ (lower goal h b past_two) t (down-apart n Z goal h b s l e 2 q.0) (past_down (exchanging f ld n (h + 1) 1 2 m) e c))
          | inr q ↦ rw (sym z ∙ q)
              (more _ _ (rows (h + 1) 1 1) _ (lower goal h b past_one) t (down-apart n Z goal h b s l e 1 q)
              (more _ _ (rows h 1 1) _ (lower goal (h + 1) b between) (leaves t (rows (h + 1) 1 1)) (down-one n (zero_below f ld (leaves t (rows (h + 1) 1 1))) goal h b)
              (c (arrived (h + 1) (exchanging f ld n h 1 1 (exchanging f ld n (h + 1) 1 1 m))) (settled_three _ (h + 1) b e) (omega arith))))
        ]

    once-down : (m : Moving) → Ready m → ltb m.here goal ≡ true → Down m.here → Rest m.exchanges (G (down_step f ld n m)) (below m) m.change.form
    unfolding down_step
    once-down m s l c = go (eqb m.nbf 3) refl
      where
        go : (b : Bool) → eqb m.nbf 3 ≡ b → Rest m.exchanges (G (cond b (down_apart f ld n m) (down_whole f ld n m))) (below m) m.change.form
        go true e = apart-down m s l e c
        go false e = whole-down m s l e c

    -- ---- up

    abbrev above : Moving → Place
    above m = upper goal m.here m.nbf between

    -- whatever comes after a step that ends in a row further up
    abbrev Up : ℕ → Type 0
    Up h = (m : Moving) → Ready m → m.here < h → Rest m.exchanges (G m) (above m) m.change.form

    whole_up_lem : (m : Moving) → Ready m → ltb goal m.here ≡ true → eqb m.nbf 3 ≡ false → Up m.here → Rest m.exchanges (G (up_whole f ld n m)) (above m) m.change.form
    unfolding up_whole landed_whole exchanging and_then splits
    whole_up_lem m s l e c =
        let h = m.here in
        let b = m.nbf in
        let t = m.change.form in
        let k = size_above f ld t h in
        let u = leaves t (rows (h - k) k b) in
        let i = some-above t h in
        let p = ltb-true goal h l in
        more _ _ (rows (h - k) k b) (above m) (upper goal (h - k) b between) t (up_whole_lem n (zero_below f ld t) goal h b s l e k (above-is t h))
        (rest_as _ _ _ (upper goal (h - k) (splits (zero_below f ld u) (h - k) b) between) u refl (up_split n (zero_below f ld u) goal (h - k) b)
        (c (landed_whole f ld (h - k) (exchanging f ld n (h - k) k b m)) (settled_split (zero_below f ld u) (h - k) b) (omega arith)))

    past_up : (m : Moving) → eqb m.nbf 3 ≡ true → 0 < m.here → Up m.here → Rest m.exchanges (G (up_past_two f ld n m)) (upper goal m.here m.nbf past_two) m.change.form
    unfolding up_past_two arrived exchanging and_then
    past_up m e p c = go (zero_below f ld t (h - 1)) refl
      where
        h : ℕ
        h = m.here

        b : ℕ
        b = m.nbf

        t : List Float
        t = m.change.form

        one : Moving
        one = exchanging f ld n h 1 1 m

        go : (q : Bool) → zero_below f ld t (h - 1) ≡ q
            → Rest m.exchanges (G (arrived (h - 2) (cond q (exchanging f ld n (h - 1) 1 1 one) (exchanging f ld n (h - 1) 2 1 m)))) (upper goal h b past_two) t
        go true q =
            more _ _ (rows h 1 1) _ (upper goal h b half_past) t (up_half n (zero_below f ld t) goal h b q)
            (more _ _ (rows (h - 1) 1 1) _ (upper goal (h - 2) b between) (leaves t (rows h 1 1)) (up_rest n (zero_below f ld (leaves t (rows h 1 1))) goal h b)
            (c (arrived (h - 2) (exchanging f ld n (h - 1) 1 1 one)) (settled_three _ (h - 2) b e) (omega arith)))
        go false q =
            more _ _ (rows (h - 1) 2 1) _ (upper goal (h - 2) b between) t (up_two n (zero_below f ld t) goal h b q) (c (arrived (h - 2) (exchanging f ld n (h - 1) 2 1 m)) (settled_three _ (h - 2) b e) (omega arith))

    apart_up_lem : (m : Moving) → Ready m → ltb goal m.here ≡ true → eqb m.nbf 3 ≡ true → Up m.here → Rest m.exchanges (G (up_apart f ld n m)) (above m) m.change.form
    unfolding up_apart arrived exchanging and_then
    apart_up_lem m s l e c =
        let h = m.here in
        let b = m.nbf in
        let t = m.change.form in
        let Z = zero_below f ld t in
        let z = above-is t h in
        let p = ltb-true goal h l in
        elim (above_cases Z h) [
          | inl q ↦ rw (sym z ∙ q.0) (more _ _ (rows (h - 2) 2 1) _ (upper goal h b past_two) t (up_apart_lem n Z goal h b s l e 2 q.0) (past_up (exchanging f ld n (h - 2) 2 1 m) e (omega arith) c))
          | inr q ↦ rw (sym z ∙ q)
              (more _ _ (rows (h - 1) 1 1) _ (upper goal h b past_one) t (up_apart_lem n Z goal h b s l e 1 q)
              (more _ _ (rows h 1 1) _ (upper goal (h - 1) b between) (leaves t (rows (h - 1) 1 1)) (up_one n (zero_below f ld (leaves t (rows (h - 1) 1 1))) goal h b)
              (c (arrived (h - 1) (exchanging f ld n h 1 1 (exchanging f ld n (h - 1) 1 1 m))) (settled_three _ (h - 1) b e) (omega arith))))
        ]

    once_up : (m : Moving) → Ready m → ltb goal m.here ≡ true → Up m.here → Rest m.exchanges (G (up_step f ld n m)) (above m) m.change.form
    unfolding up_step
    once_up m s l c = go (eqb m.nbf 3) refl
      where
        go : (b : Bool) → eqb m.nbf 3 ≡ b → Rest m.exchanges (G (cond b (up_apart f ld n m) (up_whole f ld n m))) (above m) m.change.form
        go true e = apart_up_lem m s l e c
        go false e = whole_up_lem m s l e c

  -- ---- the loops

  down_loop : (k goal : ℕ) (m : Moving) → Ready m → goal ≤ m.here + k → Rest m.exchanges (down_by k f ld n goal m) (lower goal m.here m.nbf between) m.change.form
  unfolding down_by
  down_loop zero goal m s g = over m _ refl (down_there n _ goal m.here m.nbf (le-ltb m.here goal (omega arith)))
  down_loop (suc k) goal m s g =
      elim (dec_lt m.here goal) [
        | yes p ↦ let l = lt-ltb m.here goal p in rw l (once-down goal (down_by k f ld n goal) m s l (λ x r q. down_loop k goal x r (omega arith)))
        | no p ↦ let l = le-ltb m.here goal (omega arith) in rw l (over m _ refl (down_there n _ goal m.here m.nbf l))
      ]

  up_loop : (k goal : ℕ) (m : Moving) → Ready m → m.here ≤ goal + k → Rest m.exchanges (up_by k f ld n goal m) (upper goal m.here m.nbf between) m.change.form
  unfolding up_by
  up_loop zero goal m s g = over m _ refl (up_there n _ goal m.here m.nbf (le-ltb goal m.here (omega arith)))
  up_loop (suc k) goal m s g =
      elim (dec_lt goal m.here) [
        | yes p ↦ let l = lt-ltb goal m.here p in rw l (once_up goal (up_by k f ld n goal) m s l (λ x r q. up_loop k goal x r (omega arith)))
        | no p ↦ let l = le-ltb goal m.here (omega arith) in rw l (over m _ refl (up_there n _ goal m.here m.nbf l))
      ]

  -- ---- the whole

  -- the block in row a, before the first step
  abbrev begins : List Float → ℕ → Moving
  begins t a = record { here = a; nbf = size_at f ld n t a; change = unchanged t; exchanges = [] }

  ready : (t : List Float) (a : ℕ) → Ready (begins t a)
  ready t a = subst (λ (b : ℕ). Settled (zero_below f ld t) a b) (size_is t a) (settled_size n (zero_below f ld t) a)

  -- from its start to its end
  pub record Whole (p : Place) (t : List Float) (m : Moving) : Type 0 where
    pub follows : Ours p t m.exchanges
    pub here : ends n (zero_below f ld) leaves (λ _ _. 0) p t m.exchanges ≡ m.here

  whole : (m : Moving) (p : Place) (t : List Float) → Rest [] m p t → Whole p t m
  whole m p t k =
      record { follows = subst (Ours p t) (sym k.all) k.follows; here = ap (λ (es : List Exchange). ends n (zero_below f ld) leaves (λ _ _. 0) p t es) k.all ∙ k.here }

  pub move_follows : (from to : ℕ) (t : List Float) → from < n → to < n → Whole (start n from to (zero_below f ld t)) t (move f ld n from to t)
  unfolding move move_from start
  move_follows from to t l k =
      let Z = zero_below f ld t in
      let a = first_row f ld t from in
      let b = first_row f ld t to in
      let p = first_le f ld n t from in
      let o = first_le f ld n t to in
      let g = goal_le f ld n t a b in
      rw (first-is t from, first-is t to, size_is t a, size_is t b)
      (elim (ℕ_discrete a b) [
        | yes e ↦ rw (eq-eqb a b e, le-ltb a b (omega arith)) (whole (begins t a) _ t (over (begins t a) _ refl (up_there n Z b a (size_at f ld n t a) (le-ltb b a (omega arith)))))
        | no e ↦ rw (ne_eqb a b e)
            (elim (dec_lt a b) [
              | yes q ↦ rw (lt-ltb a b q) (whole _ _ t (down_loop n _ (begins t a) (ready t a) (omega arith)))
              | no q ↦ rw (le-ltb a b (omega arith)) (whole _ _ t (up_loop n b (begins t a) (ready t a) (omega arith)))
            ])
      ])
