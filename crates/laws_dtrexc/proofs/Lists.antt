-- Lists of exchanges that are made one after the other, and their part up to the first that declines. Assumes nothing.
use Prim.Native.Nat.{ℕ, ◌+◌, ◌<◌}
use native.Mathlib.Nat.{add_assoc, add-zero}
use native.Mathlib.Omega.{arith}
use mathlib.Core.Path.{◌≡◌, refl, sym, ap, ◌∙◌}
use mathlib.Core.Bool.{Bool, true, false, cond}
use mathlib.Core.List.{List, [], ◌∷◌, ◌++◌}
use lib.Dec.{eqb}
use lib.Ieee.{Float, Format}
use borrow.Author.Tests.{eqb-true, eq-eqb}
use Rattle.model.specs.Swaps.{Change, declined_of, and_then}
use Rattle.laws.proofs.Runs.{declined_then}
use Rattle.model.specs.Move.{Exchange}
use Rattle.laws_dtrexc.specs.Choice.{make, made, until_decline}

-- how many swaps of a list decline, made from the form t on
pub declines : Format → ℕ → ℕ → List Float → List Exchange → ℕ
declines f ld n t [] = 0
declines f ld n t (e ∷ es) = declined_of (make f ld n e t) + declines f ld n (make f ld n e t).form es

both : (b : Bool) → ◌≡◌ {A = List Exchange} (cond b [] []) []
both true = refl
both false = refl

module _ (f : Format) (ld n : ℕ) where
  pub made-append : (c : Change) (xs ys : List Exchange) → made f ld n c (xs ++ ys) ≡ made f ld n (made f ld n c xs) ys
  unfolding made
  made-append c [] ys = refl
  made-append c (x ∷ xs) ys = made-append (and_then c (make f ld n x)) xs ys

  pub made-declined : (c : Change) (xs : List Exchange) → declined_of (made f ld n c xs) ≡ declined_of c + declines f ld n c.form xs
  unfolding made declines and_then
  made-declined c [] = sym (add-zero (declined_of c))
  made-declined c (x ∷ xs) =
      made-declined (and_then c (make f ld n x)) xs
      ∙ ap (λ (k : ℕ). k + declines f ld n (and_then c (make f ld n x)).form xs) (declined_then c (make f ld n x))
      ∙ add_assoc (declined_of c) (declined_of (make f ld n x c.form)) _

  -- after a list in which nothing declines, one exchange more
  pub until_more : (t : List Float) (xs : List Exchange) (x : Exchange) → declines f ld n t xs ≡ 0 → until_decline f ld n t (xs ++ (x ∷ [])) ≡ xs ++ (x ∷ [])
  unfolding until_decline declines
  until_more t [] x h = ap (λ (r : List Exchange). x ∷ r) (both (eqb (declined_of (make f ld n x t)) 0))
  until_more t (y ∷ ys) x h =
      let c = make f ld n y t in
      let q : declined_of c ≡ 0 = omega arith in
      rw (eq-eqb (declined_of c) 0 q) (ap (λ (r : List Exchange). y ∷ r) (until_more c.form ys x (omega arith)))

  -- a list in which nothing declines is whole
  pub until_all : (t : List Float) (xs : List Exchange) → declines f ld n t xs ≡ 0 → until_decline f ld n t xs ≡ xs
  unfolding until_decline declines
  until_all t [] h = refl
  until_all t (y ∷ ys) h =
      let c = make f ld n y t in
      let q : declined_of c ≡ 0 = omega arith in
      rw (eq-eqb (declined_of c) 0 q) (ap (λ (r : List Exchange). y ∷ r) (until_all c.form ys (omega arith)))

  -- what comes after a decline does not count
  pub until_over : (t : List Float) (xs ys : List Exchange) → 0 < declines f ld n t xs → until_decline f ld n t (xs ++ ys) ≡ until_decline f ld n t xs
  unfolding until_decline declines
  until_over t [] ys h = absurd (omega arith)
  until_over t (x ∷ xs) ys h = ap (λ (r : List Exchange). x ∷ r) (go (eqb (declined_of c) 0) refl (λ k. until_over c.form xs ys k))
    where
      c : Change
      c = make f ld n x t

      go : (b : Bool) → eqb (declined_of c) 0 ≡ b → (0 < declines f ld n c.form xs → until_decline f ld n c.form (xs ++ ys) ≡ until_decline f ld n c.form xs)
          → cond b (until_decline f ld n c.form (xs ++ ys)) [] ≡ cond b (until_decline f ld n c.form xs) []
      go true e more = let q = eqb-true (declined_of c) 0 e in more (omega arith)
      go false e more = refl

  pub until_begins : (t : List Float) (xs : List Exchange) → (rest : List Exchange) × (xs ≡ until_decline f ld n t xs ++ rest)
  unfolding until_decline
  until_begins t [] = ([], refl)
  until_begins t (x ∷ xs) = go (eqb (declined_of (make f ld n x t)) 0) (until_begins (make f ld n x t).form xs)
    where
      go : (b : Bool) → (rest : List Exchange) × (xs ≡ until_decline f ld n (make f ld n x t).form xs ++ rest)
          → (rest : List Exchange) × (x ∷ xs ≡ x ∷ cond b (until_decline f ld n (make f ld n x t).form xs) [] ++ rest)
      go true r = (r.0, ap (λ (l : List Exchange). x ∷ l) r.1)
      go false r = (xs, refl)
