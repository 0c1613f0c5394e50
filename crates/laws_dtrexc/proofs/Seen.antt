-- A move on its way, seen as dtrexc's variables: a call of DLAEXC is one exchange more, and the tests against zero are ours. Assumes nothing.
use Prim.Native.Nat.{ℕ, suc, ◌+◌, ◌-◌, ◌<◌}
use native.Mathlib.Nat.{add-sub_cancel}
use native.Mathlib.Numerals.{add-one}
use native.Mathlib.Omega.{arith}
use mathlib.Core.Path.{◌≡◌, refl, ap, ◌∙◌}
use mathlib.Core.Bool.{Bool, true, false, ◌&&◌, cond}
use mathlib.Core.List.{List, map, map-append}
use lib.Dec.{eqb, ltb, leb, leb-suc-suc}
use lib.Ieee.{Float, Format, ne}
use borrow.Author.Tests.{ltb-true, leb-true}
use Rattle.model.specs.Form.{zero_below, nonzero_below, two_block}
use Rattle.model.specs.Swaps.{declined_of, and_then}
use Rattle.model.specs.Exchange.{exchange}
use Rattle.model.specs.Move.{Moving, size_at, size_above, first_row, exchanging, arrived, landed_whole}
use Rattle.laws_dtrexc.specs.Dtrexc.{Variables, goes, returns, NE, call, call_or_return, ilst_here, to_row, breaks, first_of, size_of}
use Rattle.laws_dtrexc.specs.Choice.{zero_at, exchange_at, ours, as_call}

-- m on its way to a goal, with INFO
abbrev pub seen : ℕ → ℕ → Moving → Variables (List Float)
seen info goal m = record { T = m.change.form; ILST = goal + 1; HERE = m.here + 1; NBF = m.nbf; INFO = info; calls = map as_call m.exchanges }

-- two tests under one guard
pub guard : (a b x y : Bool) → a ≡ b → (b ≡ true → x ≡ y) → (a && x) ≡ (b && y)
guard a true x y e h = rw e (h refl)
guard a false x y e h = rw e

-- a test of two rows, each counted from 1
pub ltb_next : (a b : ℕ) → ltb (a + 1) (b + 1) ≡ ltb a b
ltb_next a b = rw (add-one a, add-one b) (leb-suc-suc (suc a) b)

-- the guard of a row above
pub guard_above : (k p : ℕ) → leb (suc k) (p + 1) ≡ leb k p
guard_above k p = rw (add-one p) (leb-suc-suc k p)

module _ (f : Format) (ld n : ℕ) where
  -- the declines of one exchange more
  abbrev pub dec : ℕ → ℕ → ℕ → Moving → ℕ
  dec j n1 n2 m = declined_of (exchange f ld n j n1 n2 m.change.form)

  pub called : (i goal at j n1 n2 : ℕ) (m : Moving) → at ≡ j + 1 → call (ours f ld n) at n1 n2 (seen i goal m) ≡ seen (dec j n1 n2 m) goal (exchanging f ld n j n1 n2 m)
  unfolding call exchange_at exchanging and_then
  called i goal at j n1 n2 m e = rw (e, add-sub_cancel j 1, map-append)

  pub calls_on : (i goal at j n1 n2 : ℕ) (m : Moving) → at ≡ j + 1 → dec j n1 n2 m ≡ 0 → call (ours f ld n) at n1 n2 (seen i goal m) ≡ seen 0 goal (exchanging f ld n j n1 n2 m)
  calls_on i goal at j n1 n2 m e q = rw (called i goal at j n1 n2 m e, q)

  pub goes_on_lem : (i goal at j n1 n2 : ℕ) (m : Moving) → at ≡ j + 1 → dec j n1 n2 m ≡ 0 → call_or_return (ours f ld n) at n1 n2 (seen i goal m) ≡ goes (seen 0 goal (exchanging f ld n j n1 n2 m))
  unfolding call_or_return
  goes_on_lem i goal at j n1 n2 m e q = rw (called i goal at j n1 n2 m e, q)

  pub turns_back : (i goal at j n1 n2 : ℕ) (m : Moving) → at ≡ j + 1 → eqb (dec j n1 n2 m) 0 ≡ false
      → call_or_return (ours f ld n) at n1 n2 (seen i goal m) ≡ returns (ilst_here (seen (dec j n1 n2 m) goal (exchanging f ld n j n1 n2 m)))
  unfolding call_or_return
  turns_back i goal at j n1 n2 m e q = rw (called i goal at j n1 n2 m e, q)

  -- T( I, K ) is the entry just below the diagonal in our column j
  pub zero-at : (t : List Float) (I K j : ℕ) → I - 1 ≡ j + 1 → K - 1 ≡ j → zero_at f ld t I K ≡ zero_below f ld t j
  unfolding zero_at
  zero-at t I K j p q = rw (p, q)

  pub ne_at : (t : List Float) (I K j : ℕ) → I - 1 ≡ j + 1 → K - 1 ≡ j → NE (ours f ld n) t I K ≡ nonzero_below f ld t j
  unfolding ne
  ne_at t I K j p q = rw (zero-at t I K j p q)

  -- NBNEXT of the block that begins in our row j
  pub next-below : (t : List Float) (I K j : ℕ) → I ≡ j + 2 → K ≡ j + 1 → cond (leb I n && NE (ours f ld n) t I K) 2 1 ≡ size_at f ld n t j
  unfolding size_at two_block
  next-below t I K j p q =
      let e : I ≡ suc (j + 1) = omega arith in
      ap (λ (b : Bool). cond b 2 1) (guard _ _ _ _ (ap (λ (k : ℕ). leb k n) e) (λ _. ne_at t I K j (omega arith) (omega arith)))

  -- NBF and NBL
  pub size-of : (t : List Float) (p : ℕ) → size_of (ours f ld n) n t (p + 1) ≡ size_at f ld n t p
  unfolding size_of size_at two_block
  size-of t p = rw (ne_at t (p + 1 + 1) (p + 1) p (omega arith) (omega arith))

  -- NBNEXT of the block that ends above our row p
  pub next-above : (t : List Float) (p : ℕ) → cond (leb 3 (p + 1) && NE (ours f ld n) t (p + 1 - 1) (p + 1 - 2)) 2 1 ≡ size_above f ld t p
  unfolding size_above
  next-above t p =
      ap (λ (b : Bool). cond b 2 1) (guard _ _ _ _ (guard_above 2 p) (λ h. let l = leb-true 2 p h in ne_at t (p + 1 - 1) (p + 1 - 2) (p - 2) (omega arith) (omega arith)))

  -- IFST and ILST, back at the first row of the block
  pub first-of : (t : List Float) (p : ℕ) → first_of (ours f ld n) n t (p + 1) ≡ first_row f ld t p + 1
  unfolding first_of first_row
  first-of t p =
      ap (λ (b : Bool). cond b (p + 1 - 1) (p + 1))
      (guard (ltb 1 (p + 1)) (ltb 0 p) _ _ (guard_above 1 p) (λ h. let l = ltb-true 0 p h in ne_at t (p + 1) (p + 1 - 1) (p - 1) (omega arith) (omega arith)))
      ∙ back (ltb 0 p) (nonzero_below f ld t (p - 1)) (ltb-true 0 p)
    where
      back : (b c : Bool) → (b ≡ true → 0 < p) → cond (b && c) (p + 1 - 1) (p + 1) ≡ cond (b && c) (p - 1) p + 1
      back true true h = let l = h refl in omega arith
      back true false h = refl
      back false c h = refl

  -- HERE = ROW, and the test whether a 2 by 2 block breaks
  pub row_at : (goal ROW row : ℕ) (m : Moving) → ROW ≡ row + 1 → to_row ROW (seen 0 goal m) ≡ seen 0 goal (arrived row m)
  unfolding to_row arrived
  row_at goal ROW row m e = rw e

  pub breaks-at : (goal ROW row : ℕ) (m : Moving) → ROW ≡ row + 1 → breaks (ours f ld n) (to_row ROW (seen 0 goal m)) ≡ seen 0 goal (landed_whole f ld row m)
  unfolding breaks to_row landed_whole
  breaks-at goal ROW row m e = rw (e, zero-at m.change.form (row + 1 + 1) (row + 1) row (omega arith) (omega arith))
