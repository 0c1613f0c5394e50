-- What an exchange more keeps, and a new row for the block, with nbf as it was or 3, every step of a move keeps. So the list of exchanges is what was done, nbf stays 1, 2 or 3, and the list up to a decline stays. Assumes nothing.
use Prim.Native.Nat.{ℕ, zero, suc, ◌+◌, ◌-◌, ◌≤◌, ◌<◌}
use native.Mathlib.Nat.{zero-add}
use native.Mathlib.Omega.{arith}
use mathlib.Core.Path.{◌≡◌, refl, sym, ap, ◌∙◌}
use mathlib.Core.Logic.{◌⊎◌, inl, inr}
use mathlib.Core.Bool.{Bool, true, false, ◌&&◌, ◌||◌, cond}
use mathlib.Core.List.{List, [], ◌∷◌}
use lib.Dec.{eqb, ltb}
use lib.Ieee.{Float, Format}
use borrow.Author.Tests.{eqb-true, eqb-false, eq-eqb, ne_eqb}
use Rattle.model.specs.Form.{zero_below}
use Rattle.model.specs.Swaps.{Change, declines_in, declined_of, unchanged, and_then}
use Rattle.laws.proofs.Runs.{declined_then}
use Rattle.model.specs.Exchange.{exchange}
use Rattle.model.specs.Move.{Exchange, Moving, size_at, size_above, exchanging, arrived, landed_whole, down_whole, down_past_two, down_apart, down_step, down_by, up_whole, up_past_two, up_apart, up_step, up_by}
use Rattle.laws_dtrexc.specs.Choice.{made, until_decline}
use Rattle.laws_dtrexc.proofs.Lists.{declines, made-append, made-declined, until_over}

-- m with the block in another row, and split or not
abbrev pub placed : ℕ → Bool → Moving → Moving
placed row b m = record { here = row; nbf = cond b 3 m.nbf; change = m.change; exchanges = m.exchanges }

module _ (f : Format) (ld n : ℕ) (P : Moving → Type 0) (more : (j n1 n2 : ℕ) (m : Moving) → P m → P (exchanging f ld n j n1 n2 m)) (put : (row : ℕ) (b : Bool) (m : Moving) → P m → P (placed row b m)) where
  either : (b : Bool) (x y : Moving) → P x → P y → P (cond b x y)
  either true x y h k = h
  either false x y h k = k

  arrive : (row : ℕ) (m : Moving) → P m → P (arrived row m)
  unfolding arrived
  arrive row m h = put row false m h

  land : (row : ℕ) (m : Moving) → P m → P (landed_whole f ld row m)
  unfolding landed_whole
  land row m h = put row (eqb m.nbf 2 && zero_below f ld m.change.form row) m h

  down_past : (m : Moving) → P m → P (down_past_two f ld n m)
  unfolding down_past_two
  down_past m h = arrive _ _ (either (zero_below f ld m.change.form (m.here + 1)) _ _ (more _ _ _ _ (more _ _ _ m h)) (more _ _ _ m h))

  pub down_step_lem : (m : Moving) → P m → P (down_step f ld n m)
  unfolding down_step down_whole down_apart
  down_step_lem m h =
      let next = size_at f ld n m.change.form (m.here + 2) in
      either (eqb m.nbf 3) _ _ (either (eqb next 1) _ _ (arrive _ _ (more _ _ _ _ (more _ _ _ m h))) (down_past _ (more _ _ _ m h))) (land _ _ (more _ _ _ m h))

  pub down_by_lem : (k goal : ℕ) (m : Moving) → P m → P (down_by k f ld n goal m)
  unfolding down_by
  down_by_lem zero goal m h = h
  down_by_lem (suc k) goal m h = either (ltb m.here goal) _ _ (down_by_lem k goal (down_step f ld n m) (down_step_lem m h)) h

  up_past : (m : Moving) → P m → P (up_past_two f ld n m)
  unfolding up_past_two
  up_past m h = arrive _ _ (either (zero_below f ld m.change.form (m.here - 1)) _ _ (more _ _ _ _ (more _ _ _ m h)) (more _ _ _ m h))

  pub up_step_lem : (m : Moving) → P m → P (up_step f ld n m)
  unfolding up_step up_whole up_apart
  up_step_lem m h =
      let next = size_above f ld m.change.form m.here in
      either (eqb m.nbf 3) _ _ (either (eqb next 1) _ _ (arrive _ _ (more _ _ _ _ (more _ _ _ m h))) (up_past _ (more _ _ _ m h))) (land _ _ (more _ _ _ m h))

  pub up_by_lem : (k goal : ℕ) (m : Moving) → P m → P (up_by k f ld n goal m)
  unfolding up_by
  up_by_lem zero goal m h = h
  up_by_lem (suc k) goal m h = either (ltb goal m.here) _ _ (up_by_lem k goal (up_step f ld n m) (up_step_lem m h)) h

-- nbf is 1, 2 or 3
pub record Nbf (m : Moving) : Type 0 where
  pub low : 1 ≤ m.nbf
  pub high : m.nbf ≤ 3

pub nbf-more : (f : Format) (ld n j n1 n2 : ℕ) (m : Moving) → Nbf m → Nbf (exchanging f ld n j n1 n2 m)
unfolding exchanging
nbf-more f ld n j n1 n2 m h = record { low = h.low; high = h.high }

pub nbf-put : (row : ℕ) (b : Bool) (m : Moving) → Nbf m → Nbf (placed row b m)
nbf-put row true m h = record { low = omega arith; high = omega arith }
nbf-put row false m h = record { low = h.low; high = h.high }

-- and tells whether the block is whole
pub kind : (k : ℕ) → 1 ≤ k → k ≤ 3 → ((eqb k 3 ≡ true) × ((eqb k 1 || eqb k 2) ≡ false)) ⊎ ((eqb k 3 ≡ false) × ((eqb k 1 || eqb k 2) ≡ true))
kind k low high = go (eqb k 1) (eqb k 2) refl refl
  where
    Kind : Bool → Bool → Type 0
    Kind a b = ((eqb k 3 ≡ true) × ((a || b) ≡ false)) ⊎ ((eqb k 3 ≡ false) × ((a || b) ≡ true))

    go : (a b : Bool) → eqb k 1 ≡ a → eqb k 2 ≡ b → Kind a b
    go true b p q = inr (ne_eqb k 3 (λ e. let r = eqb-true k 1 p in omega arith), refl)
    go false true p q = inr (ne_eqb k 3 (λ e. let r = eqb-true k 2 q in omega arith), refl)
    go false false p q = inl (eq-eqb k 3 (omega (arith, eqb-false k 1 p, eqb-false k 2 q, low, high)), refl)

pub nbf_kind : (m : Moving) → Nbf m → ((eqb m.nbf 3 ≡ true) × ((eqb m.nbf 1 || eqb m.nbf 2) ≡ false)) ⊎ ((eqb m.nbf 3 ≡ false) × ((eqb m.nbf 1 || eqb m.nbf 2) ≡ true))
nbf_kind m h = kind m.nbf h.low h.high

module _ (f : Format) (ld n : ℕ) (t : List Float) where
  -- the list of exchanges is what was done
  abbrev pub Listed : Moving → Type 0
  Listed m = m.change ≡ made f ld n (unchanged t) m.exchanges

  pub listed_more : (j n1 n2 : ℕ) (m : Moving) → Listed m → Listed (exchanging f ld n j n1 n2 m)
  unfolding exchanging made
  listed_more j n1 n2 m h = ap (λ (c : Change). and_then c (exchange f ld n j n1 n2)) h ∙ sym (made-append f ld n (unchanged t) m.exchanges (record { row = j; n1 = n1; n2 = n2 } ∷ []))

  pub counted : (m : Moving) → Listed m → declined_of m.change ≡ declines f ld n t m.exchanges
  unfolding declines_in
  counted m h = ap (λ (c : Change). declined_of c) h ∙ made-declined f ld n (unchanged t) m.exchanges ∙ zero-add _

  -- something has declined, and l is the list up to there
  pub record Over (l : List Exchange) (m : Moving) : Type 0 where
    pub listed : Listed m
    pub some : 0 < declined_of m.change
    pub until : until_decline f ld n t m.exchanges ≡ l

  pub over_more : (l : List Exchange) (j n1 n2 : ℕ) (m : Moving) → Over l m → Over l (exchanging f ld n j n1 n2 m)
  unfolding exchanging
  over_more l j n1 n2 m o =
      let c = counted m o.listed in
      let e = declined_then m.change (exchange f ld n j n1 n2) in
      record { listed = listed_more j n1 n2 m o.listed; some = omega (arith, o.some); until = until_over f ld n t m.exchanges _ (omega (arith, o.some, c)) ∙ o.until }

  pub over_put : (l : List Exchange) (row : ℕ) (b : Bool) (m : Moving) → Over l m → Over l (placed row b m)
  over_put l row b m o = record { listed = o.listed; some = o.some; until = o.until }

  pub over_land : (l : List Exchange) (row : ℕ) (m : Moving) → Over l m → Over l (landed_whole f ld row m)
  unfolding landed_whole
  over_land l row m o = over_put l row (eqb m.nbf 2 && zero_below f ld m.change.form row) m o
