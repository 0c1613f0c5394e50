-- What is next at a place: which zeros it reads, that the rows stay inside the form, and its cases. Assumes nothing.
use Prim.Native.Nat.{ℕ, ◌+◌, ◌-◌, ◌≤◌, ◌<◌}
use native.Mathlib.Omega.{arith}
use mathlib.Core.Path.{◌≡◌, refl, sym, ap, ◌∙◌}
use mathlib.Core.Logic.{◌⊎◌, inl, inr}
use mathlib.Core.Bool.{Bool, true, false, not, ◌&&◌, cond, false≢true}
use lib.Dec.{eqb, ltb, leb}
use borrow.Author.Tests.{eqb-true, eqb-false, ltb-true, ltb-false, leb-true, lt-ltb}
use Rattle.model.specs.Move.{goal_down}
use Rattle.laws_dtrexc.specs.Zeros.{Zeros, first_by, size_by, above_by, Stage, between, past_one, past_two, half_past, Place, Next, ended, takes, rows, lower, upper, splits, step_down, next_down, step_up, next_up, next, start}

-- ---- sizes

pub size_cases : (n : ℕ) (Z : Zeros) (p : ℕ) → ((size_by n Z p ≡ 2) × (p + 1 < n)) ⊎ (size_by n Z p ≡ 1)
unfolding size_by
size_cases n Z p = go (ltb (p + 1) n) (Z p) refl
  where
    go : (a b : Bool) → ltb (p + 1) n ≡ a → ((◌≡◌ {A = ℕ} (cond (a && not b) 2 1) 2) × (p + 1 < n)) ⊎ (◌≡◌ {A = ℕ} (cond (a && not b) 2 1) 1)
    go true false e = inl (refl, ltb-true (p + 1) n e)
    go true true e = inr refl
    go false b e = inr refl

pub above_cases : (Z : Zeros) (p : ℕ) → ((above_by Z p ≡ 2) × (2 ≤ p)) ⊎ (above_by Z p ≡ 1)
unfolding above_by
above_cases Z p = go (leb 2 p) (Z (p - 2)) refl
  where
    go : (a b : Bool) → leb 2 p ≡ a → ((◌≡◌ {A = ℕ} (cond (a && not b) 2 1) 2) × (2 ≤ p)) ⊎ (◌≡◌ {A = ℕ} (cond (a && not b) 2 1) 1)
    go true false e = inl (refl, leb-true 2 p e)
    go true true e = inr refl
    go false b e = inr refl

pub some_size : (n : ℕ) (Z : Zeros) (p : ℕ) → 1 ≤ size_by n Z p
some_size n Z p = elim (size_cases n Z p) [ inl e ↦ omega (arith, e.0) | inr e ↦ omega (arith, e) ]

pub some-above : (Z : Zeros) (p : ℕ) → 1 ≤ above_by Z p
some-above Z p = elim (above_cases Z p) [ inl e ↦ omega (arith, e.0) | inr e ↦ omega (arith, e) ]

-- ---- the cases of a place between two steps, with a block that has been asked whether it splits

pub Settled : Zeros → ℕ → ℕ → Type 0
Settled Z h nbf = (eqb nbf 2 && Z h) ≡ false

pub settled_three : (Z : Zeros) (h nbf : ℕ) → eqb nbf 3 ≡ true → Settled Z h nbf
unfolding Settled
settled_three Z h nbf e = rw (eqb-true nbf 3 e)

pub settled_split : (Z : Zeros) (h nbf : ℕ) → Settled Z h (splits Z h nbf)
unfolding Settled splits
settled_split Z h nbf = go (eqb nbf 2 && Z h) refl
  where
    go : (b : Bool) → (eqb nbf 2 && Z h) ≡ b → (eqb (cond b 3 nbf) 2 && Z h) ≡ false
    go true e = refl
    go false e = e

pub split_settled : (Z : Zeros) (h nbf : ℕ) → Settled Z h nbf → splits Z h nbf ≡ nbf
unfolding Settled splits
split_settled Z h nbf s = rw s

pub settled_size : (n : ℕ) (Z : Zeros) (h : ℕ) → Settled Z h (size_by n Z h)
unfolding Settled size_by
settled_size n Z h = go (ltb (h + 1) n) (Z h)
  where
    go : (a b : Bool) → (eqb (cond (a && not b) 2 1) 2 && b) ≡ false
    go true true = refl
    go true false = refl
    go false b = refl

module _ (n : ℕ) (Z : Zeros) (goal h nbf : ℕ) where
  -- asking once more changes nothing
  pub down-split : next n (lower goal h nbf between) Z ≡ next n (lower goal h (splits Z h nbf) between) Z
  unfolding next next_down
  down-split = rw (split_settled Z h (splits Z h nbf) (settled_split Z h nbf))

  pub up_split : next n (upper goal h nbf between) Z ≡ next n (upper goal h (splits Z h nbf) between) Z
  unfolding next next_up
  up_split = rw (split_settled Z h (splits Z h nbf) (settled_split Z h nbf))

  pub down_there : ltb h goal ≡ false → next n (lower goal h nbf between) Z ≡ ended
  unfolding next next_down
  down_there l = rw l

  pub up_there : ltb goal h ≡ false → next n (upper goal h nbf between) Z ≡ ended
  unfolding next next_up
  up_there l = rw l

  module _ (s : Settled Z h nbf) where
    pub down-whole : ltb h goal ≡ true → eqb nbf 3 ≡ false → (k : ℕ) → size_by n Z (h + nbf) ≡ k → next n (lower goal h nbf between) Z ≡ takes (rows h nbf k) (lower goal (h + k) nbf between)
    unfolding next next_down step_down
    down-whole l e k q = rw (l, split_settled Z h nbf s, e, q)

    pub down-apart : ltb h goal ≡ true → eqb nbf 3 ≡ true → (k : ℕ) → size_by n Z (h + 2) ≡ k → next n (lower goal h nbf between) Z ≡ takes (rows (h + 1) 1 k) (lower goal h nbf (cond (eqb k 1) past_one past_two))
    unfolding next next_down step_down
    down-apart l e k q = rw (l, split_settled Z h nbf s, e, q)

    pub up_whole_lem : ltb goal h ≡ true → eqb nbf 3 ≡ false → (k : ℕ) → above_by Z h ≡ k → next n (upper goal h nbf between) Z ≡ takes (rows (h - k) k nbf) (upper goal (h - k) nbf between)
    unfolding next next_up step_up
    up_whole_lem l e k q = rw (l, split_settled Z h nbf s, e, q)

    pub up_apart_lem : ltb goal h ≡ true → eqb nbf 3 ≡ true → (k : ℕ) → above_by Z h ≡ k → next n (upper goal h nbf between) Z ≡ takes (rows (h - k) k 1) (upper goal h nbf (cond (eqb k 1) past_one past_two))
    unfolding next next_up step_up
    up_apart_lem l e k q = rw (l, split_settled Z h nbf s, e, q)

  -- and inside a step
  pub down-one : next n (lower goal h nbf past_one) Z ≡ takes (rows h 1 1) (lower goal (h + 1) nbf between)
  unfolding next next_down
  down-one = refl

  pub down-two : Z (h + 1) ≡ false → next n (lower goal h nbf past_two) Z ≡ takes (rows h 1 2) (lower goal (h + 2) nbf between)
  unfolding next next_down
  down-two e = rw e

  pub down_half : Z (h + 1) ≡ true → next n (lower goal h nbf past_two) Z ≡ takes (rows h 1 1) (lower goal h nbf half_past)
  unfolding next next_down
  down_half e = rw e

  pub down_rest : next n (lower goal h nbf half_past) Z ≡ takes (rows (h + 1) 1 1) (lower goal (h + 2) nbf between)
  unfolding next next_down
  down_rest = refl

  pub up_one : next n (upper goal h nbf past_one) Z ≡ takes (rows h 1 1) (upper goal (h - 1) nbf between)
  unfolding next next_up
  up_one = refl

  pub up_two : Z (h - 1) ≡ false → next n (upper goal h nbf past_two) Z ≡ takes (rows (h - 1) 2 1) (upper goal (h - 2) nbf between)
  unfolding next next_up
  up_two e = rw e

  pub up_half : Z (h - 1) ≡ true → next n (upper goal h nbf past_two) Z ≡ takes (rows h 1 1) (upper goal h nbf half_past)
  unfolding next next_up
  up_half e = rw e

  pub up_rest : next n (upper goal h nbf half_past) Z ≡ takes (rows (h - 1) 1 1) (upper goal (h - 2) nbf between)
  unfolding next next_up
  up_rest = refl

-- ---- a place inside a form of n rows

-- the rows of a block
pub wide : ℕ → ℕ
wide nbf = cond (eqb nbf 1) 1 2

wide_in : (nbf : ℕ) → (1 ≤ wide nbf) × (wide nbf ≤ 2)
unfolding wide
wide_in nbf = go (eqb nbf 1)
  where
    go : (b : Bool) → (1 ≤ cond b 1 2) × (cond b 1 2 ≤ 2)
    go true = (omega arith, omega arith)
    go false = (omega arith, omega arith)

wide_is : (nbf : ℕ) → 1 ≤ nbf → nbf ≤ 3 → eqb nbf 3 ≡ false → wide nbf ≡ nbf
unfolding wide
wide_is nbf a b e = go (eqb nbf 1) refl
  where
    go : (c : Bool) → eqb nbf 1 ≡ c → cond c 1 2 ≡ nbf
    go true q = let x = eqb-true nbf 1 q in omega arith
    go false q = let x = eqb-false nbf 1 q in let y = eqb-false nbf 3 e in omega (arith, x, y)

wide-three : (nbf : ℕ) → eqb nbf 3 ≡ true → wide nbf ≡ 2
unfolding wide
wide-three nbf e = rw (eqb-true nbf 3 e)

-- a block that splits keeps its rows, and nbf is still 1, 2 or 3
module _ (Z : Zeros) (h nbf : ℕ) where
  split-wide : wide (splits Z h nbf) ≡ wide nbf
  unfolding splits wide
  split-wide = go (eqb nbf 2) (Z h) refl
    where
      go : (a b : Bool) → eqb nbf 2 ≡ a → wide (cond (a && b) 3 nbf) ≡ wide nbf
      go true true e = rw (eqb-true nbf 2 e)
      go true false e = refl
      go false b e = refl

  pub split_in : 1 ≤ nbf → nbf ≤ 3 → (1 ≤ splits Z h nbf) × (splits Z h nbf ≤ 3)
  unfolding splits
  split_in a b = go (eqb nbf 2 && Z h)
    where
      go : (c : Bool) → (1 ≤ cond c 3 nbf) × (cond c 3 nbf ≤ 3)
      go true = (omega arith, omega arith)
      go false = (a, b)

-- the rows from `here` on that the rest of the step may touch
pub need : Bool → ℕ → Stage → ℕ
need true nbf between = wide nbf
need true nbf past_one = 3
need true nbf past_two = 4
need true nbf half_past = 4
need false nbf between = wide nbf
need false nbf past_one = 2
need false nbf past_two = 2
need false nbf half_past = 2

pub record Fits (n : ℕ) (p : Place) : Type 0 where
  pub low : 1 ≤ p.nbf
  pub high : p.nbf ≤ 3
  pub room : p.here + need p.down p.nbf p.stage ≤ n
  pub far : p.down ≡ true → p.goal + wide p.nbf ≤ n

-- where something is next, its place is inside
abbrev pub Stays : ℕ → Next → Type 0
Stays n ended = Unit {0}
Stays n (takes e q) = Fits n q

stays_cond : (n : ℕ) (b : Bool) (x y : Next) → (b ≡ true → Stays n x) → (b ≡ false → Stays n y) → Stays n (cond b x y)
stays_cond n true x y h k = h refl
stays_cond n false x y h k = k refl

module _ (n : ℕ) (Z : Zeros) (goal h nbf : ℕ) (low : 1 ≤ nbf) (high : nbf ≤ 3) where
  -- going down
  lower_in : (here : ℕ) (s : Stage) → here + need true nbf s ≤ n → goal + wide nbf ≤ n → Fits n (lower goal here nbf s)
  lower_in here s a b = record { low = low; high = high; room = a; far = λ _. b }

  step_down_lem : h < goal → goal + wide nbf ≤ n → Stays n (step_down n Z goal h nbf)
  unfolding step_down need
  step_down_lem l g =
      stays_cond n (eqb nbf 3) _ _
      (λ e. let w = wide-three nbf e in
      elim (size_cases n Z (h + 2)) [ inl q ↦ rw q.0 (let r = q.1 in lower_in h past_two (omega arith) g) | inr q ↦ rw q (lower_in h past_one (omega arith) g) ])
      (λ e. let w = wide_is nbf low high e in
      elim (size_cases n Z (h + nbf)) [ inl q ↦ rw q.0 (let r = q.1 in lower_in (h + 2) between (omega arith) g) | inr q ↦ rw q (lower_in (h + 1) between (omega arith) g) ])

  -- going up
  upper_in : (here : ℕ) (s : Stage) → here + need false nbf s ≤ n → Fits n (upper goal here nbf s)
  upper_in here s a = record { low = low; high = high; room = a; far = λ e. absurd (false≢true e) }

  step_up_lem : h + wide nbf ≤ n → Stays n (step_up Z goal h nbf)
  unfolding step_up need
  step_up_lem l =
      let k = above_by Z h in
      stays_cond n (eqb nbf 3) _ _ (λ e. elim (above_cases Z h) [ inl q ↦ rw q.0 (let w = wide-three nbf e in upper_in h past_two (omega arith)) | inr q ↦ rw q (let w = wide-three nbf e in upper_in h past_one (omega arith)) ]) (λ e. upper_in (h - k) between (omega arith))

module _ (n : ℕ) (Z : Zeros) (g h b : ℕ) where
  stays_at : (d : Bool) (s : Stage) → 1 ≤ b → b ≤ 3 → h + need d b s ≤ n → (d ≡ true → g + wide b ≤ n) → Stays n (cond d (next_down n Z g h b s) (next_up Z g h b s))
  unfolding next_down next_up need
  stays_at true between low high room far =
      let k = split_in Z h b low high in
      let w = split-wide Z h b in
      let f = far refl in
      stays_cond n (ltb h g) _ _ (λ e. step_down_lem n Z g h (splits Z h b) k.0 k.1 (ltb-true h g e) (omega arith)) (λ _. tt)
  stays_at true past_one low high room far = let w = wide_in b in lower_in n Z g h b low high (h + 1) between (omega (arith, w.1)) (far refl)
  stays_at true past_two low high room far =
      let w = wide_in b in
      stays_cond n (Z (h + 1)) _ _ (λ _. lower_in n Z g h b low high h half_past room (far refl)) (λ _. lower_in n Z g h b low high (h + 2) between (omega (arith, w.1)) (far refl))
  stays_at true half_past low high room far = let w = wide_in b in lower_in n Z g h b low high (h + 2) between (omega (arith, w.1)) (far refl)
  stays_at false between low high room far =
      let k = split_in Z h b low high in
      let w = split-wide Z h b in
      stays_cond n (ltb g h) _ _ (λ e. step_up_lem n Z g h (splits Z h b) k.0 k.1 (omega arith)) (λ _. tt)
  stays_at false past_one low high room far = let w = wide_in b in upper_in n Z g h b low high (h - 1) between (omega (arith, w.1))
  stays_at false past_two low high room far =
      let w = wide_in b in
      stays_cond n (Z (h - 1)) _ _ (λ _. upper_in n Z g h b low high h half_past room) (λ _. upper_in n Z g h b low high (h - 2) between (omega (arith, w.1)))
  stays_at false half_past low high room far = let w = wide_in b in upper_in n Z g h b low high (h - 2) between (omega (arith, w.1))

pub next-stays : (n : ℕ) (Z : Zeros) (p : Place) → Fits n p → Stays n (next n p Z)
unfolding next
next-stays n Z p i = stays_at n Z p.goal p.here p.nbf p.down p.stage i.low i.high i.room i.far

-- ---- only zeros below n are read

pub guarded : (a x y : Bool) → (a ≡ true → x ≡ y) → (a && x) ≡ (a && y)
guarded true x y h = h refl
guarded false x y h = refl

module _ (n : ℕ) (Z W : Zeros) (same : (j : ℕ) → j + 1 < n → Z j ≡ W j) where
  same_size : (p : ℕ) → size_by n Z p ≡ size_by n W p
  unfolding size_by
  same_size p = ap (λ (b : Bool). cond b 2 1) (guarded (ltb (p + 1) n) _ _ (λ e. ap not (same p (ltb-true (p + 1) n e))))

  same_above : (p : ℕ) → p < n → above_by Z p ≡ above_by W p
  unfolding above_by
  same_above p l = ap (λ (b : Bool). cond b 2 1) (guarded (leb 2 p) _ _ (λ e. let k = leb-true 2 p e in ap not (same (p - 2) (omega arith))))

  same_first : (p : ℕ) → p < n → first_by Z p ≡ first_by W p
  unfolding first_by
  same_first p l = ap (λ (b : Bool). cond b (p - 1) p) (guarded (ltb 0 p) _ _ (λ e. let k = ltb-true 0 p e in ap not (same (p - 1) (omega arith))))

  same-splits : (h nbf : ℕ) → h + wide nbf ≤ n → splits Z h nbf ≡ splits W h nbf
  unfolding splits wide
  same-splits h nbf l = ap (λ (b : Bool). cond b 3 nbf) (guarded (eqb nbf 2) _ _ (λ e. let k : h + 2 ≤ n = rw (eqb-true nbf 2 e) at l in same h (omega arith)))

  same_at : (g h b : ℕ) (d : Bool) (s : Stage) → h + need d b s ≤ n → cond d (next_down n Z g h b s) (next_up Z g h b s) ≡ cond d (next_down n W g h b s) (next_up W g h b s)
  unfolding next_down next_up need step_down step_up
  same_at g h b true between room = rw (same-splits h b room, same_size (h + 2), same_size (h + splits W h b))
  same_at g h b true past_one room = refl
  same_at g h b true past_two room = rw (same (h + 1) (omega arith))
  same_at g h b true half_past room = refl
  same_at g h b false between room = rw (same-splits h b room, same_above h (let w = wide_in b in omega (arith, w.0)))
  same_at g h b false past_one room = refl
  same_at g h b false past_two room = rw (same (h - 1) (omega arith))
  same_at g h b false half_past room = refl

  pub same_next : (p : Place) → Fits n p → next n p Z ≡ next n p W
  unfolding next
  same_next p i = same_at p.goal p.here p.nbf p.down p.stage i.room

  pub same_start : (from to : ℕ) → from < n → to < n → start n from to Z ≡ start n from to W
  unfolding start
  same_start from to l k = rw (same_first from l, same_first to k, same_size (first_by W from), same_size (first_by W to))

-- ---- the start

module _ (n : ℕ) (Z : Zeros) where
  pub first_in : (p : ℕ) → p < n → first_by Z p < n
  unfolding first_by
  first_in p l = go (ltb 0 p && not (Z (p - 1)))
    where
      go : (b : Bool) → cond b (p - 1) p < n
      go true = omega arith
      go false = l

  -- the row below a 2-block's first is no block's first row, unless a 2-block begins there too
  gap : (a to : ℕ) → to < n → size_by n Z a ≡ 2 → size_by n Z (first_by Z to) ≡ 1 → first_by Z to ≡ a + 1 → ⊥
  unfolding first_by size_by
  gap a to l x y e = go (ltb 0 to) (Z (to - 1)) refl refl y e
    where
      inside : (b c : Bool) → ◌≡◌ {A = ℕ} (cond (b && not c) 2 1) 2 → c ≡ false
      inside true true h = absurd (omega arith)
      inside true false h = refl
      inside false c h = absurd (omega arith)

      go : (p q : Bool) → ltb 0 to ≡ p → Z (to - 1) ≡ q
          → ◌≡◌ {A = ℕ} (cond (ltb (cond (p && not q) (to - 1) to + 1) n && not (Z (cond (p && not q) (to - 1) to))) 2 1) 1 → cond (p && not q) (to - 1) to ≡ a + 1 → ⊥
      go true false e₁ e₂ y₁ r =
          let k = ltb-true 0 to e₁ in
          let w : ltb (to - 1 + 1) n ≡ true = lt-ltb (to - 1 + 1) n (omega arith) in
          let v : ◌≡◌ {A = ℕ} 2 1 = rw (w, e₂) at y₁ in
          omega arith
      go true true e₁ e₂ y₁ r =
          let k : to - 1 ≡ a = omega arith in
          false≢true (sym (inside (ltb (a + 1) n) (Z a) x) ∙ rw k at e₂)
      go false q e₁ e₂ y₁ r = let k = ltb-false 0 to e₁ in omega arith

  -- going down, the goal is below the start and inside
  pub goal_in : (a to : ℕ) → to < n → a < first_by Z to
      → (a < goal_down (size_by n Z a) (size_by n Z (first_by Z to)) (first_by Z to)) × (goal_down (size_by n Z a) (size_by n Z (first_by Z to)) (first_by Z to) + size_by n Z a ≤ n)
  unfolding goal_down
  goal_in a to l k =
      let b = first_by Z to in
      let m = first_in to l in
      elim (size_cases n Z a) [
        | inl x ↦ elim (size_cases n Z b) [
          | inl y ↦ let r = y.1 in rw (x.0, y.0) (k, omega arith)
          | inr y ↦ let g = gap a to l x.0 y in rw (x.0, y) (omega (arith, g), omega arith)
        ]
        | inr x ↦ elim (size_cases n Z b) [ inl y ↦ let r = y.1 in rw (x, y.0) (omega arith, omega arith) | inr y ↦ rw (x, y) (k, omega arith) ]
      ]

  pub size_in : (a : ℕ) → (1 ≤ size_by n Z a) × (size_by n Z a ≤ 2) × (wide (size_by n Z a) ≡ size_by n Z a) × (a < n → a + size_by n Z a ≤ n)
  unfolding wide
  size_in a =
      elim (size_cases n Z a) [
        | inl x ↦ let r = x.1 in rw x.0 (omega arith, omega arith, refl, λ l. omega arith)
        | inr x ↦ rw x (omega arith, omega arith, refl, λ l. omega arith)
      ]

  pub start_fits : (from to : ℕ) → from < n → to < n → Fits n (start n from to Z)
  unfolding start need
  start_fits from to l k = go (ltb a b) refl
    where
      a : ℕ
      a = first_by Z from

      b : ℕ
      b = first_by Z to

      s : (1 ≤ size_by n Z a) × (size_by n Z a ≤ 2) × (wide (size_by n Z a) ≡ size_by n Z a) × (a < n → a + size_by n Z a ≤ n)
      s = size_in a

      go : (c : Bool) → ltb a b ≡ c → Fits n (cond c (lower (goal_down (size_by n Z a) (size_by n Z b) b) a (size_by n Z a) between) (upper b a (size_by n Z a) between))
      go true e =
          let g = (goal_in a to k (ltb-true a b e)).1 in
          let r = s.3 (first_in from l) in
          record { low = s.0; high = omega (arith, s.1); room = omega (arith, s.2, r); far = λ _. omega (arith, s.2, g) }
      go false e =
          let r = s.3 (first_in from l) in
          record { low = s.0; high = omega (arith, s.1); room = omega (arith, s.2, r); far = λ d. absurd (false≢true d) }
