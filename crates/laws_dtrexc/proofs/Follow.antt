-- A list of exchanges that does what is next at each place, over any form and whatever an exchange does to it, up to the first that fails. Two such lists agree as long as the zeros do. Assumes nothing.
use Prim.Native.Nat.{ℕ, zero, suc, ◌+◌, ◌≤◌, ◌<◌}
use native.Mathlib.Omega.{arith}
use mathlib.Core.Path.{◌≡◌, refl, sym, ap, ap₂, subst, ◌∙◌}
use mathlib.Core.Option.{none-ne-some, some-injective}
use mathlib.Core.List.{List, [], ◌∷◌}
use lib.ListN.{take, get_elem?}
use Rattle.model.specs.Move.{Exchange}
use Rattle.laws_dtrexc.specs.Zeros.{Zeros, Place, Next, ended, takes, next, exchange_of, place_of, reached}
use Rattle.laws_dtrexc.proofs.Next.{Fits, Stays, next-stays, same_next}

-- z is what zeros a form has, by what an exchange leaves, bad whether it fails
module _ (n : ℕ) {X : Type 0} (z : X → Zeros) (by : X → Exchange → X) (bad : X → Exchange → ℕ) where
  abbrev pub Follows : Place → X → List Exchange → Type 0
  Follows p x [] = next n p (z x) ≡ ended
  Follows p x (e ∷ es) = (q : Place) × (next n p (z x) ≡ takes e q) × (bad x e ≡ 0 → Follows q (by x e) es)

  abbrev pub after : X → List Exchange → X
  after x [] = x
  after x (e ∷ es) = after (by x e) es

  abbrev pub seen : X → List Exchange → List Zeros
  seen x [] = []
  seen x (e ∷ es) = z x ∷ seen (by x e) es

  abbrev pub Good : X → List Exchange → Type 0
  Good x [] = Unit {0}
  Good x (e ∷ es) = (bad x e ≡ 0) × Good (by x e) es

  -- at another place with the same next
  pub follows_as : (p q : Place) (x : X) (es : List Exchange) → next n p (z x) ≡ next n q (z x) → Follows q x es → Follows p x es
  follows_as p q x [] e h = e ∙ h
  follows_as p q x (d ∷ es) e h = (h.0, e ∙ h.1, h.2)

  -- the row of the place at the end
  abbrev pub ends : Place → X → List Exchange → ℕ
  ends p x es = (reached n p (seen x es)).here

  pub ends_more : (p q : Place) (x : X) (e : Exchange) (es : List Exchange) → next n p (z x) ≡ takes e q → ends p x (e ∷ es) ≡ ends q (by x e) es
  unfolding reached place_of
  ends_more p q x e es h = ap (λ (m : Next). (reached n (place_of p m) (seen (by x e) es)).here) h

  pub ends_as : (p q : Place) (x : X) (es : List Exchange) → p.here ≡ q.here → next n p (z x) ≡ next n q (z x) → Follows q x es → ends p x es ≡ ends q x es
  unfolding reached
  ends_as p q x [] k e h = k
  ends_as p q x (d ∷ es) k e h = ends_more p h.0 x d es (e ∙ h.1) ∙ sym (ends_more q h.0 x d es h.1)

  -- number k is the next at the place reached
  pub follows_at : (k : ℕ) (p : Place) (x : X) (es : List Exchange) → Follows p x es → Good x (take k es) → get_elem? es k ≡ exchange_of (next n (reached n p (seen x (take k es))) (z (after x (take k es))))
  unfolding reached place_of exchange_of
  follows_at zero p x [] h g = ap exchange_of (sym h)
  follows_at zero p x (e ∷ es) h g = ap exchange_of (sym h.1)
  follows_at (suc k) p x [] h g = ap exchange_of (sym h)
  follows_at (suc k) p x (e ∷ es) h g =
      follows_at k h.0 (by x e) es (h.2 g.0) g.1
      ∙ ap (λ (m : Next). exchange_of (next n (reached n (place_of p m) (seen (by x e) (take k es))) (z (after (by x e) (take k es))))) (sym h.1)

-- only what stands below n is read
module _ (n : ℕ) {X : Type 0} (z w : X → Zeros) (by : X → Exchange → X) (bad : X → Exchange → ℕ) (same : (x : X) (j : ℕ) → j + 1 < n → z x j ≡ w x j) where
  pub follows_below : (p : Place) (x : X) (es : List Exchange) → Fits n p → Follows n z by bad p x es → Follows n w by bad p x es
  follows_below p x [] i h = sym (same_next n (z x) (w x) (same x) p i) ∙ h
  follows_below p x (e ∷ es) i h =
      let q = h.0 in
      (q, sym (same_next n (z x) (w x) (same x) p i) ∙ h.1, λ g. follows_below q (by x e) es (subst (Stays n) h.1 (next-stays n (z x) p i)) (h.2 g))

  pub ends-below : (p : Place) (x : X) (es : List Exchange) → Good n z by bad x es → Fits n p → Follows n z by bad p x es → ends n z by bad p x es ≡ ends n w by bad p x es
  unfolding reached
  ends-below p x [] g i h = refl
  ends-below p x (e ∷ es) g i h =
      let q = h.0 in
      ends_more n z by bad p q x e es h.1
      ∙ ends-below q (by x e) es g.1 (subst (Stays n) h.1 (next-stays n (z x) p i)) (h.2 g.0)
      ∙ sym (ends_more n w by bad p q x e es (sym (same_next n (z x) (w x) (same x) p i) ∙ h.1))

-- two of them, of which the second never fails
takes-exchange : (e d : Exchange) (p q : Place) → takes e p ≡ takes d q → e ≡ d
unfolding exchange_of
takes-exchange e d p q h = some-injective e d (ap exchange_of h)

takes-place : (e d : Exchange) (p q : Place) → takes e p ≡ takes d q → p ≡ q
unfolding place_of
takes-place e d p q h = ap (place_of p) h

ended_not : (e : Exchange) (q : Place) → ended ≡ takes e q → ⊥
unfolding exchange_of
ended_not e q h = none-ne-some e (ap exchange_of h)

module _ (n : ℕ) {X Y : Type 0} (z : X → Zeros) (by : X → Exchange → X) (bad : X → Exchange → ℕ) (z' : Y → Zeros) (by' : Y → Exchange → Y) where
  pub follows_both : (k : ℕ) (p : Place) (x : X) (y : Y) (es ds : List Exchange) → Follows n z by bad p x es → Follows n z' by' (λ _ _. 0) p y ds
      → ((i : ℕ) → i ≤ k → z (after n z by bad x (take i es)) ≡ z' (after n z' by' (λ _ _. 0) y (take i ds))) → Good n z by bad x (take k es) → get_elem? es k ≡ get_elem? ds k
  unfolding reached
  follows_both zero p x y es ds h l same g =
      follows_at n z by bad zero p x es h tt ∙ ap (λ (c : Zeros). exchange_of (next n p c)) (same 0 (omega arith)) ∙ sym (follows_at n z' by' (λ _ _. 0) zero p y ds l tt)
  follows_both (suc k) p x y [] [] h l same g = refl
  follows_both (suc k) p x y [] (d ∷ ds) h l same g = absurd (ended_not d l.0 (sym h ∙ ap (next n p) (same 0 (omega arith)) ∙ l.1))
  follows_both (suc k) p x y (e ∷ es) [] h l same g = absurd (ended_not e h.0 (sym l ∙ sym (ap (next n p) (same 0 (omega arith))) ∙ h.1))
  follows_both (suc k) p x y (e ∷ es) (d ∷ ds) h l same g =
      let m = sym h.1 ∙ ap (next n p) (same 0 (omega arith)) ∙ l.1 in
      let q = takes-place e d h.0 l.0 m in
      follows_both k h.0 (by x e) (by' y d) es ds (h.2 g.0) (subst (λ (r : Place). Follows n z' by' (λ _ _. 0) r (by' y d) ds) (sym q) (l.2 refl)) (λ i b. same (suc i) (omega arith)) g.1

  -- and to the end, if nothing fails
  pub follows_all : (p : Place) (x : X) (y : Y) (es ds : List Exchange) → Follows n z by bad p x es → Follows n z' by' (λ _ _. 0) p y ds
      → ((i : ℕ) → z (after n z by bad x (take i es)) ≡ z' (after n z' by' (λ _ _. 0) y (take i ds))) → Good n z by bad x es
      → (es ≡ ds) × (ends n z by bad p x es ≡ ends n z' by' (λ _ _. 0) p y ds)
  unfolding reached
  follows_all p x y [] [] h l same g = (refl, refl)
  follows_all p x y [] (d ∷ ds) h l same g = absurd (ended_not d l.0 (sym h ∙ ap (next n p) (same 0) ∙ l.1))
  follows_all p x y (e ∷ es) [] h l same g = absurd (ended_not e h.0 (sym l ∙ sym (ap (next n p) (same 0)) ∙ h.1))
  follows_all p x y (e ∷ es) (d ∷ ds) h l same g =
      let m = sym h.1 ∙ ap (next n p) (same 0) ∙ l.1 in
      let q = takes-place e d h.0 l.0 m in
      let r =
      follows_all h.0 (by x e) (by' y d) es ds (h.2 g.0) (subst (λ (r : Place). Follows n z' by' (λ _ _. 0) r (by' y d) ds) (sym q) (l.2 refl)) (λ i. same (suc i)) g.1 in (
        ap₂ (λ (a : Exchange) (b : List Exchange). a ∷ b) (takes-exchange e d h.0 l.0 m) r.0,
        ends_more n z by bad p h.0 x e es h.1 ∙ r.1 ∙ sym (ends_more n z' by' (λ _ _. 0) p h.0 y d ds (l.1 ∙ ap (takes d) (sym q))),
      )
