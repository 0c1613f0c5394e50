-- Two moves beside each other, each by its own stride and with its own exchange, over any relation of changes that makes the n rows read alike, that an exchange of rows below n keeps, and under which both decline or neither. Both make the same exchanges, stop or do not, and end in the same row, with the relation kept. 01's move and the move that stops are two cases. Assumes nothing.
use mathlib.Core.Path.{◌≡◌, refl, ap, ap₂}
use Prim.Native.Nat.{ℕ, zero, suc, ◌+◌, ◌-◌, ◌≤◌, ◌<◌}
use native.Mathlib.Decide.{ℕ_discrete}
use native.Mathlib.Omega.{arith}
use mathlib.Core.Bool.{Bool, true, false, not, ◌&&◌, cond}
use mathlib.Core.List.{List, [], ◌∷◌, ◌++◌}
use lib.Dec.{eqb, ltb, leb}
use lib.Ieee.{Float, Format}
use borrow.Author.Tests.{eqb-true, eqb-false, ltb-true, leb-true}
use Rattle.model.specs.Form.{zero_below, nonzero_below, two_block}
use Rattle.model.specs.Swaps.{Change, unchanged, and_then, declined_of}
use Rattle.model.specs.Move.{first_row, size_at, size_above, Exchange, Moving, arrived, landed_whole, goal_down}
use Rattle.model.specs.Stopping.{Kind, Going, goes, onward, trying, whole_down, past_two_down, apart_down, step_down, walk_down, whole_up, past_two_up, apart_up, step_up, walk_up, walk_from, walk}
use Rattle.laws_stride.proofs.Tests.{guarded, is-two, branch}
use Rattle.laws_stride.proofs.Rowwise.{ReadsAs, zero_same, nonzero_same}
use Rattle.laws_stride.proofs.Changes.{Room}

-- such a relation, for moves of the kinds k and l, that stop alike
pub record Exchanges (ld md n : ℕ) (k l : Kind) (Q : Change → Change → Type 0) : Type 0 where
  pub reads : {c d : Change} → Q c d → ReadsAs ld md n c.form d.form
  pub more : (j n1 n2 : ℕ) {c d : Change} → Room n j n1 n2 → Q c d → Q (and_then c (k.exchange j n1 n2)) (and_then d (l.exchange j n1 n2))
  pub declines : (j n1 n2 : ℕ) {c d : Change} → Room n j n1 n2 → Q c d → declined_of (k.exchange j n1 n2 c.form) ≡ declined_of (l.exchange j n1 n2 d.form)
  pub stops : k.stops ≡ l.stops

-- Where a block of s rows stands below n while it moves: nbf is s, or 3 where two rows have split.
pub record Standing (n s here nbf : ℕ) : Type 0 where
  pub some : 1 ≤ s
  pub most : s ≤ 2
  pub low : s ≤ nbf
  pub high : nbf + 1 ≤ s + s
  pub below : here + s ≤ n

-- two moves that stand alike
pub record Beside (n : ℕ) (Q : Change → Change → Type 0) (s : ℕ) (m w : Moving) : Type 0 where
  pub here : m.here ≡ w.here
  pub nbf : m.nbf ≡ w.nbf
  pub exchanges : m.exchanges ≡ w.exchanges
  pub change : Q m.change w.change
  pub stands : Standing n s m.here m.nbf

-- and that have stopped both, or neither
pub record Abreast (n : ℕ) (Q : Change → Change → Type 0) (s : ℕ) (g h : Going) : Type 0 where
  pub stopped : g.stopped ≡ h.stopped
  pub moving : Beside n Q s g.moving h.moving

-- ---- sizes

-- one row, or two, of k
pub record Size (k x : ℕ) : Type 0 where
  pub some : 1 ≤ x
  pub most : x ≤ 2
  pub within : x ≤ k

one_or_two : (k : ℕ) (a b : Bool) → 1 ≤ k → (a ≡ true → 2 ≤ k) → Size k (cond (a && b) 2 1)
one_or_two k true true h t = let l = t refl in omega arith
one_or_two k true false h t = omega arith
one_or_two k false b h t = omega arith

pub size_in : (f : Format) (ld n p : ℕ) (t : List Float) → p < n → Size (n - p) (size_at f ld n t p)
unfolding size_at two_block
size_in f ld n p t h = one_or_two (n - p) (ltb (p + 1) n) (nonzero_below f ld t p) (omega arith) (λ e. let l = ltb-true (p + 1) n e in omega arith)

pub above_in : (f : Format) (ld p : ℕ) (t : List Float) → 0 < p → Size p (size_above f ld t p)
unfolding size_above
above_in f ld p t h = one_or_two p (leb 2 p) (nonzero_below f ld t (p - 2)) h (leb-true 2 p)

pub first_below : (f : Format) (ld n p : ℕ) (t : List Float) → p < n → first_row f ld t p < n
unfolding first_row
first_below f ld n p t h = go (ltb 0 p && nonzero_below f ld t (p - 1))
  where
    go : (b : Bool) → cond b (p - 1) p < n
    go true = omega arith
    go false = h

-- a block of k rows at its goal, the block there before of l rows
pub goal-below : (n k l to : ℕ) → 1 ≤ k → k ≤ 2 → 0 < to → to < n → Size (n - to) l → goal_down k l to + k ≤ n
unfolding goal_down
goal-below n k l to g h t m z =
    elim (ℕ_discrete k 1) [
      | yes p ↦ elim (ℕ_discrete l 1) [ yes q ↦ rw (p, q) (omega arith) | no q ↦ let r : l ≡ 2 = omega arith in rw (p, r) (omega arith) ]
      | no p ↦
          let d : k ≡ 2 = omega arith in
          elim (ℕ_discrete l 1) [ yes q ↦ rw (d, q) (omega arith) | no q ↦ let r : l ≡ 2 = omega arith in rw (d, r) (omega arith) ]
    ]

-- after a landing
landed : {n s here k : ℕ} (row : ℕ) (b : Bool) → row + s ≤ n → Standing n s here k → (b ≡ true → k ≡ 2) → Standing n s row (cond b 3 k)
landed row true h w e = let q = e refl in omega arith
landed row false h w e = omega arith

module _ (f : Format) (ld md n : ℕ) (k l : Kind) (Q : Change → Change → Type 0) (K : Exchanges ld md n k l Q) where
  -- ---- what is read

  zero-at : {c d : Change} (j : ℕ) {j' : ℕ} → j ≡ j' → j + 1 < n → Q c d → zero_below f ld c.form j ≡ zero_below f md d.form j'
  zero-at j e h q = rw (← e) (zero_same f j h (K.reads q))

  size_same : {c d : Change} (p : ℕ) {p' : ℕ} → p ≡ p' → Q c d → size_at f ld n c.form p ≡ size_at f md n d.form p'
  unfolding size_at two_block
  size_same p e q = rw (← e) (ap (λ (b : Bool). cond b 2 1) (guarded (ltb (p + 1) n) _ _ (λ g. nonzero_same f p (ltb-true (p + 1) n g) (K.reads q))))

  above_same : {c d : Change} (p : ℕ) {p' : ℕ} → p ≡ p' → p < n → Q c d → size_above f ld c.form p ≡ size_above f md d.form p'
  unfolding size_above
  above_same p e h q = rw (← e) (ap (λ (b : Bool). cond b 2 1) (guarded (leb 2 p) _ _ (λ g. let l = leb-true 2 p g in nonzero_same f (p - 2) (omega arith) (K.reads q))))

  first-same : {c d : Change} (p : ℕ) → p < n → Q c d → first_row f ld c.form p ≡ first_row f md d.form p
  unfolding first_row
  first-same p h q = ap (λ (b : Bool). cond b (p - 1) p) (guarded (ltb 0 p) _ _ (λ g. let l = ltb-true 0 p g in nonzero_same f (p - 1) (omega arith) (K.reads q)))

  -- ---- parts of a step

  module _ (s : ℕ) where
    abbrev Pair : Moving → Moving → Type 0
    Pair = Beside n Q s

    abbrev Both : Going → Going → Type 0
    Both = Abreast n Q s

    on : {m w : Moving} → Pair m w → Both (goes m) (goes w)
    on b = record { stopped = refl; moving = b }

    -- on with both, unless they have stopped
    both_onward : {g h : Going} (next next' : Moving → Going) → Both g h → (Pair g.moving h.moving → Both (next g.moving) (next' h.moving)) → Both (onward g next) (onward h next')
    unfolding onward
    both_onward {g} next next' b more = branch Both g.stopped b.stopped (λ _. b) (λ _. more b.moving)

    both_try : (j n1 n2 : ℕ) {j' n1' n2' : ℕ} {m w : Moving} → j ≡ j' → n1 ≡ n1' → n2 ≡ n2' → Room n j n1 n2 → Pair m w → Both (trying k j n1 n2 m) (trying l j' n1' n2' w)
    unfolding trying
    both_try j n1 n2 p q r h b =
        rw (← p, ← q, ← r)
        (record {
          stopped = ap₂ (λ (x : Bool) (i : ℕ). x && not (eqb i 0)) K.stops (K.declines j n1 n2 h b.change);
          moving =
              record {
                here = b.here;
                nbf = b.nbf;
                exchanges = ap (λ (es : List Exchange). es ++ (record { row = j; n1 = n1; n2 = n2 } ∷ [])) b.exchanges;
                change = K.more j n1 n2 h b.change;
                stands = b.stands;
              };
        })

    arrive : (row : ℕ) {row' : ℕ} {m w : Moving} → row ≡ row' → row + s ≤ n → Pair m w → Both (goes (arrived row m)) (goes (arrived row' w))
    unfolding arrived
    arrive row e h b = on (record { here = e; nbf = b.nbf; exchanges = b.exchanges; change = b.change; stands = omega arith })

    land : (row : ℕ) {row' : ℕ} {m w : Moving} → row ≡ row' → row + s ≤ n → Pair m w → Both (goes (landed_whole f ld row m)) (goes (landed_whole f md row' w))
    unfolding landed_whole
    land row {m = m} {w} e h b =
        rw (← e)
        (on
        (record {
          here = refl;
          nbf = rw b.nbf (ap (λ (x : Bool). cond x 3 w.nbf) (guarded (eqb w.nbf 2) _ _ (λ e. let q = eqb-true w.nbf 2 e in zero_same f row (omega arith) (K.reads b.change))));
          exchanges = b.exchanges;
          change = b.change;
          stands = landed row _ h b.stands (is-two m.nbf _);
        }))

    -- ---- down

    whole-down : {m w : Moving} → m.here + s < n → eqb m.nbf 3 ≡ false → Pair m w → Both (whole_down k f ld n m) (whole_down l f md n w)
    unfolding whole_down
    whole-down {m} h e b =
        let d = eqb-false m.nbf 3 e in
        let x = size_in f ld n (m.here + m.nbf) m.change.form (omega arith) in
        let q = size_same (m.here + m.nbf) (ap₂ ◌+◌ b.here b.nbf) b.change in
        both_onward _ _ (both_try _ _ _ b.here b.nbf q (omega arith) b) (land _ (ap₂ ◌+◌ b.here q) (omega arith))

    past_two-down : {m w : Moving} → m.here + 4 ≤ n → Pair m w → Both (past_two_down k f ld n m) (past_two_down l f md n w)
    unfolding past_two_down
    past_two-down {m} h b =
        let p = ap (◌+ 1) b.here in
        both_onward _ _
        (branch Both (zero_below f ld m.change.form (m.here + 1)) (zero-at _ p (omega arith) b.change)
        (λ _. both_onward _ _ (both_try _ 1 1 b.here refl refl (omega arith) b) (both_try _ 1 1 p refl refl (omega arith)))
        (λ _. both_try _ 1 2 b.here refl refl (omega arith) b))
        (arrive _ (ap (◌+ 2) b.here) (omega arith))

    apart-down : {m w : Moving} → m.here + s < n → eqb m.nbf 3 ≡ true → Pair m w → Both (apart_down k f ld n m) (apart_down l f md n w)
    unfolding apart_down trying
    apart-down {m} h e b =
        let d = eqb-true m.nbf 3 e in
        let next = size_at f ld n m.change.form (m.here + 2) in
        let x = size_in f ld n (m.here + 2) m.change.form (omega arith) in
        let q = size_same (m.here + 2) (ap (◌+ 2) b.here) b.change in
        let p = ap (◌+ 1) b.here in
        both_onward _ _ (both_try (m.here + 1) 1 next p refl q (omega arith) b)
        (λ c. branch Both (eqb next 1) (ap (λ (i : ℕ). eqb i 1) q) (λ _. both_onward _ _ (both_try _ 1 1 b.here refl refl (omega arith) c) (arrive _ p (omega arith)))
        (λ g. let o = eqb-false next 1 g in past_two-down (omega arith) c))

    step_down_lem : {m w : Moving} → m.here + s < n → Pair m w → Both (step_down k f ld n m) (step_down l f md n w)
    unfolding step_down
    step_down_lem {m} h b = branch Both (eqb m.nbf 3) (ap (λ (i : ℕ). eqb i 3) b.nbf) (λ e. apart-down h e b) (λ e. whole-down h e b)

    walk-down : (i goal : ℕ) {m w : Moving} → goal + s ≤ n → Pair m w → Both (walk_down k i f ld n goal m) (walk_down l i f md n goal w)
    unfolding walk_down
    walk-down zero goal h b = on b
    walk-down (suc i) goal {m} h b =
        branch Both (ltb m.here goal) (ap (λ (x : ℕ). ltb x goal) b.here)
        (λ e. let o = ltb-true m.here goal e in both_onward _ _ (step_down_lem (omega arith) b) (walk-down i goal h))
        (λ _. on b)

    -- ---- up

    whole_up_lem : {m w : Moving} → 0 < m.here → eqb m.nbf 3 ≡ false → Pair m w → Both (whole_up k f ld n m) (whole_up l f md n w)
    unfolding whole_up
    whole_up_lem {m} h e b =
        let d = eqb-false m.nbf 3 e in
        let x = above_in f ld m.here m.change.form h in
        let q = above_same m.here b.here (omega arith) b.change in
        let p = ap₂ ◌-◌ b.here q in
        both_onward _ _ (both_try _ _ _ p q b.nbf (omega arith) b) (land _ p (omega arith))

    past_two_up_lem : {m w : Moving} → 2 ≤ m.here → m.here + 2 ≤ n → Pair m w → Both (past_two_up k f ld n m) (past_two_up l f md n w)
    unfolding past_two_up
    past_two_up_lem {m} h g b =
        let p = ap (◌- 1) b.here in
        both_onward _ _
        (branch Both (zero_below f ld m.change.form (m.here - 1)) (zero-at _ p (omega arith) b.change)
        (λ _. both_onward _ _ (both_try _ 1 1 b.here refl refl (omega arith) b) (both_try _ 1 1 p refl refl (omega arith)))
        (λ _. both_try _ 2 1 p refl refl (omega arith) b))
        (arrive _ (ap (◌- 2) b.here) (omega arith))

    apart_up_lem : {m w : Moving} → 0 < m.here → eqb m.nbf 3 ≡ true → Pair m w → Both (apart_up k f ld n m) (apart_up l f md n w)
    unfolding apart_up trying
    apart_up_lem {m} h e b =
        let d = eqb-true m.nbf 3 e in
        let next = size_above f ld m.change.form m.here in
        let x = above_in f ld m.here m.change.form h in
        let q = above_same m.here b.here (omega arith) b.change in
        both_onward _ _ (both_try (m.here - next) next 1 (ap₂ ◌-◌ b.here q) q refl (omega arith) b)
        (λ c. branch Both (eqb next 1) (ap (λ (i : ℕ). eqb i 1) q)
        (λ _. both_onward _ _ (both_try _ 1 1 b.here refl refl (omega arith) c) (arrive _ (ap (◌- 1) b.here) (omega arith)))
        (λ g. let o = eqb-false next 1 g in past_two_up_lem (omega arith) (omega arith) c))

    step_up_lem : {m w : Moving} → 0 < m.here → Pair m w → Both (step_up k f ld n m) (step_up l f md n w)
    unfolding step_up
    step_up_lem {m} h b = branch Both (eqb m.nbf 3) (ap (λ (i : ℕ). eqb i 3) b.nbf) (λ e. apart_up_lem h e b) (λ e. whole_up_lem h e b)

    walk_up_lem : (i goal : ℕ) {m w : Moving} → Pair m w → Both (walk_up k i f ld n goal m) (walk_up l i f md n goal w)
    unfolding walk_up
    walk_up_lem zero goal b = on b
    walk_up_lem (suc i) goal {m} b =
        branch Both (ltb goal m.here) (ap (λ (x : ℕ). ltb goal x) b.here)
        (λ e. let o = ltb-true goal m.here e in both_onward _ _ (step_up_lem (omega arith) b) (walk_up_lem i goal))
        (λ _. on b)

  -- ---- the move

  module _ (a b : List Float) (q : Q (unchanged a) (unchanged b)) where
    walk_from_lem : (from to : ℕ) → from < n → to < n → Abreast n Q (size_at f ld n a from) (walk_from k f ld n from to a) (walk_from l f md n from to b)
    unfolding walk_from
    walk_from_lem from to h g =
        branch (Both s) (eqb from to) refl (λ _. on s (start _ same))
        (λ _. branch (Both s) (ltb from to) refl
        (λ e. let o = ltb-true from to e in
        rw (← same, ← size_same to refl q) (walk-down s n (goal_down s (size_at f ld n a to) to) (goal-below n s _ to x.some x.most (omega arith) g (size_in f ld n to a g)) (start s refl)))
        (λ _. walk_up_lem s n to (start _ same)))
      where
        s : ℕ
        s = size_at f ld n a from

        same : size_at f ld n a from ≡ size_at f md n b from
        same = size_same from refl q

        x : Size (n - from) s
        x = size_in f ld n from a h

        start : (i : ℕ) → s ≡ i → Pair s (record { here = from; nbf = s; change = unchanged a; exchanges = [] }) (record { here = from; nbf = i; change = unchanged b; exchanges = [] })
        start i e =
            let y = x in
            record { here = refl; nbf = e; exchanges = refl; change = q; stands = omega arith }

    pub walk_abreast : (from to : ℕ) → from < n → to < n → Abreast n Q (size_at f ld n a (first_row f ld a from)) (walk k f ld n from to a) (walk l f md n from to b)
    unfolding walk
    walk_abreast from to h g =
        rw (← first-same from h q, ← first-same to g q) (walk_from_lem _ _ (first_below f ld n from a h) (first_below f ld n to a g))
