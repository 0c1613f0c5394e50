-- How many swaps an exchange counts: one for each that is not parted, so that a pair with a zero inside counts twice, and two such pairs four times. Assumes nothing.
use mathlib.Core.Path.{◌≡◌, refl, sym, ap, ◌∙◌}
use mathlib.Core.Logic.{◌⊎◌, inl, inr}
use Prim.Native.Nat.{ℕ, ◌+◌, ◌-◌, ◌≤◌}
use native.Mathlib.Omega.{arith}
use mathlib.Core.Bool.{Bool, true, false, ◌||◌, cond, true≢false}
use mathlib.Core.List.{List, []}
use lib.Dec.{eqb, lit≤}
use lib.Ieee.{Float, Format, eq, ne}
use borrow.Author.Tests.{eqb-true, ltb-false, lt-ltb, not-false}
use Rattle.model.specs.Arith.{zero_of}
use Rattle.model.specs.Form.{zero_below, two_block, line2, line17, line3, line4, line5, line6, line7}
use Rattle.model.specs.Swaps.{Change, unchanged, and_then, swaps_of, declining, swap11, swap12, swap21, window_at, solution_of, reflectors4, declines, swap22_by, swap22, swap_of, standardise}
use Rattle.model.specs.Exchange.{standardise_if, exchange_whole, exchange, line8, line9, crosses, line10, exchange_line, exchange_call}
use Rattle.laws.proofs.InOrder.{passed}
use Rattle.laws.proofs.Runs.{swaps_then}
use Rattle.laws_moves.proofs.Swap.{after, after_else}
use Rattle.laws_moves.proofs.Upper.{or_left, or_right}
use Rattle.laws_exchange.specs.Counts.{BothParted, OneToFour, CountsOfExchange}
use Rattle.laws_exchange.proofs.Parts.{both_true, upper-apart, lower-apart, none_apart}

-- ---- a swap is one run, and standardising is none

-- 2 against 2, declined or not
pub pair-counts : (f : Format) (ld n j : ℕ) (t : List Float) → swaps_of (swap22 f ld n j t) ≡ 1
unfolding swap22 swap22_by
pair-counts f ld n j t = go (declines f (reflectors4 f (solution_of f (window_at ld t j))) (window_at ld t j))
  where
    go : (b : Bool) → swaps_of (cond b (declining j 2 2 t) (swap22_by f ld n j (reflectors4 f (solution_of f (window_at ld t j))) t)) ≡ 1
    go true = refl
    go false = refl

swap_counts : (f : Format) (ld n j n1 n2 : ℕ) (t : List Float) → swaps_of (swap_of f ld n j n1 n2 t) ≡ 1
unfolding swap_of swap11 swap12 swap21
swap_counts f ld n j n1 n2 t = go (eqb n1 1) (eqb n2 1)
  where
    go : (a b : Bool) → swaps_of (cond a (cond b (swap11 f ld n j t) (swap12 f ld n j t)) (cond b (swap21 f ld n j t) (swap22 f ld n j t))) ≡ 1
    go true true = refl
    go true false = refl
    go false true = refl
    go false false = pair-counts f ld n j t

pub standard-runs : (f : Format) (ld n size j : ℕ) (t : List Float) → (standardise_if f ld n size j t).runs ≡ []
unfolding standardise_if standardise
standard-runs f ld n size j t = go (eqb size 2)
  where
    go : (b : Bool) → (cond b (standardise f ld n j t) (unchanged t)).runs ≡ []
    go true = refl
    go false = refl

whole-counts : (f : Format) (ld n j n1 n2 : ℕ) (t : List Float) → swaps_of (exchange_whole f ld n j n1 n2 t) ≡ 1
unfolding exchange_whole
whole-counts f ld n j n1 n2 t = simp (swaps_then, standard-runs, swap_counts)

-- ---- one row against one, one against two, two against one

module _ (f : Format) (ld n j : ℕ) (t : List Float) where
  ones : swaps_of (exchange f ld n j 1 1 t) ≡ 1
  ones = ap swaps_of (none_apart f ld n j 1 1 t (omega arith) refl refl) ∙ whole-counts f ld n j 1 1 t

module _ (f : Format) (ld n j : ℕ) (t : List Float) where
  one-two : swaps_of (exchange f ld n j 1 2 t) ≡ cond (zero_below f ld t (j + 1)) 2 1
  one-two = go (zero_below f ld t (j + 1)) refl
    where
      go : (b : Bool) → zero_below f ld t (j + 1) ≡ b → swaps_of (exchange f ld n j 1 2 t) ≡ cond b 2 1
      go true e = ap swaps_of (lower-apart f ld n j 1 2 t refl e) ∙ simp (swaps_then, ones)
      go false e = ap swaps_of (none_apart f ld n j 1 2 t (omega arith) refl e) ∙ whole-counts f ld n j 1 2 t

  two-one : swaps_of (exchange f ld n j 2 1 t) ≡ cond (zero_below f ld t j) 2 1
  two-one = go (zero_below f ld t j) refl
    where
      go : (b : Bool) → zero_below f ld t j ≡ b → swaps_of (exchange f ld n j 2 1 t) ≡ cond b 2 1
      go true e = ap swaps_of (upper-apart f ld n j 2 1 t e) ∙ simp (swaps_then, ones)
      go false e = ap swaps_of (none_apart f ld n j 2 1 t (omega arith) e refl) ∙ whole-counts f ld n j 2 1 t

-- ---- two against two

module _ (f : Format) (ld n j : ℕ) (t : List Float) where
  first-parted : zero_below f ld t j ≡ true
      → swaps_of (exchange f ld n j 2 2 t) ≡ cond (zero_below f ld t (j + 1 + 1)) 2 1 + cond (zero_below f ld (exchange f ld n (j + 1) 1 2 t).form (j + 1)) 2 1
  first-parted e = ap swaps_of (upper-apart f ld n j 2 2 t e) ∙ simp (swaps_then, one-two)

  second-parted : zero_below f ld t j ≡ false → zero_below f ld t (j + 2) ≡ true
      → swaps_of (exchange f ld n j 2 2 t) ≡ 1 + cond (zero_below f ld (exchange f ld n j 2 1 t).form (j + 1)) 2 1
  second-parted e g = ap swaps_of (lower-apart f ld n j 2 2 t e g) ∙ simp (swaps_then, two-one, e)

  none-parted : zero_below f ld t j ≡ false → zero_below f ld t (j + 2) ≡ false → swaps_of (exchange f ld n j 2 2 t) ≡ 1
  none-parted e g = ap swaps_of (none_apart f ld n j 2 2 t (omega arith) e g) ∙ whole-counts f ld n j 2 2 t

  -- the entry between two pairs of single rows is not written while the lower row of the first passes the second
  between_stays : n ≤ ld → j + 4 ≤ n → zero_below f ld t (j + 1 + 1) ≡ true → zero_below f ld (exchange f ld n (j + 1) 1 2 t).form (j + 1) ≡ zero_below f ld t (j + 1)
  unfolding and_then
  between_stays w h e =
      ap (λ (c : Change). zero_below f ld c.form (j + 1)) (lower-apart f ld n (j + 1) 1 2 t refl e)
      ∙ ap (λ (x : Float). eq x (zero_of f))
      (after_else f ld n (j + 1 + 1) (after f ld n (j + 1) t) w (omega arith) (j + 1 + 1) (j + 1) (omega arith) (omega arith) (λ p q. omega arith) (λ p q. omega arith)
      ∙ after_else f ld n (j + 1) t w (omega arith) (j + 1 + 1) (j + 1) (omega arith) (omega arith) (λ p q. omega arith) (λ p q. omega arith))

-- ---- one to four

one_or_two : (b : Bool) → (1 ≤ cond b 2 1) × (cond b 2 1 ≤ 2)
one_or_two true = (lit≤ tt, lit≤ tt)
one_or_two false = (lit≤ tt, lit≤ tt)

-- below four, and the two pairs are not both parted
below-four : {f : Format} {ld : ℕ} {t : List Float} {j n1 n2 : ℕ} (x : ℕ) → 1 ≤ x → x ≤ 3 → (BothParted f ld t j n1 n2 → ⊥) → OneToFour f ld t j n1 n2 x
below-four x a b d = record { least = a; most = omega arith; four = λ e. absurd (omega arith); parted = λ p. absurd (d p) }

by_zero : {f : Format} {ld : ℕ} {t : List Float} {j n1 n2 : ℕ} (x : ℕ) (b : Bool) → x ≡ cond b 2 1 → (BothParted f ld t j n1 n2 → ⊥) → OneToFour f ld t j n1 n2 x
by_zero x b e d = let k = one_or_two b in below-four x (omega arith) (omega arith) d

module _ (f : Format) (ld n j : ℕ) (t : List Float) (w : n ≤ ld) where
  two-two : j + 4 ≤ n → zero_below f ld t (j + 1) ≡ true → OneToFour f ld t j 2 2 (swaps_of (exchange f ld n j 2 2 t))
  two-two h m = go (zero_below f ld t j) refl (zero_below f ld t (j + 2)) refl
    where
      next : j + 1 + 1 ≡ j + 2
      next = omega arith

      go : (a : Bool) → zero_below f ld t j ≡ a → (b : Bool) → zero_below f ld t (j + 2) ≡ b → OneToFour f ld t j 2 2 (swaps_of (exchange f ld n j 2 2 t))
      go true e true g =
          let z : zero_below f ld t (j + 1 + 1) ≡ true = rw next g in
          let x : swaps_of (exchange f ld n j 2 2 t) ≡ 4 = first-parted f ld n j t e ∙ rw (between_stays f ld n j t w h z, z, m) in
          record { least = omega arith; most = omega arith; four = λ _. record { two1 = refl; zero1 = e; two2 = refl; zero2 = g }; parted = λ _. x }
      go true e false g =
          let z : zero_below f ld t (j + 1 + 1) ≡ false = rw next g in
          let b = zero_below f ld (exchange f ld n (j + 1) 1 2 t).form (j + 1) in
          let x : swaps_of (exchange f ld n j 2 2 t) ≡ 1 + cond b 2 1 = first-parted f ld n j t e ∙ rw z in
          let k = one_or_two b in
          below-four _ (omega arith) (omega arith) (λ p. true≢false (sym p.zero2 ∙ g))
      go false e true g =
          let b = zero_below f ld (exchange f ld n j 2 1 t).form (j + 1) in
          let x = second-parted f ld n j t e g in
          let k = one_or_two b in
          below-four _ (omega arith) (omega arith) (λ p. true≢false (sym p.zero1 ∙ e))
      go false e false g = let x = none-parted f ld n j t e g in below-four _ (omega arith) (omega arith) (λ p. true≢false (sym p.zero1 ∙ e))

  counted : (n1 n2 : ℕ) → (n1 ≡ 1) ⊎ (n1 ≡ 2) → (n2 ≡ 1) ⊎ (n2 ≡ 2) → j + n1 + n2 ≤ n → zero_below f ld t (j + n1 - 1) ≡ true → OneToFour f ld t j n1 n2 (swaps_of (exchange f ld n j n1 n2 t))
  counted n1 n2 (inl a) (inl b) h m = rw (a, b) (by_zero _ false (ones f ld n j t) (λ p. let q = p.two1 in omega arith))
  counted n1 n2 (inl a) (inr b) h m = rw (a, b) (by_zero _ (zero_below f ld t (j + 1)) (one-two f ld n j t) (λ p. let q = p.two1 in omega arith))
  counted n1 n2 (inr a) (inl b) h m = rw (a, b) (by_zero _ (zero_below f ld t j) (two-one f ld n j t) (λ p. let q = p.two2 in omega arith))
  counted n1 n2 (inr a) (inr b) h m =
      let e : j + n1 - 1 ≡ j + 1 = omega arith in
      rw (a, b) (two-two (omega arith) (rw e at m))

-- ---- what no line turns away

size_is : (k : ℕ) → (eqb k 1 || eqb k 2) ≡ true → (k ≡ 1) ⊎ (k ≡ 2)
size_is k h = go (eqb k 1) refl (eqb k 2) refl h
  where
    go : (a : Bool) → eqb k 1 ≡ a → (b : Bool) → eqb k 2 ≡ b → a || b ≡ true → (k ≡ 1) ⊎ (k ≡ 2)
    go true e b g i = inl (eqb-true k 1 e)
    go false e true g i = inr (eqb-true k 2 g)
    go false e false g i = absurd (true≢false (sym i))

one_at_least : (k : ℕ) → (k ≡ 1) ⊎ (k ≡ 2) → 1 ≤ k
one_at_least k (inl e) = omega arith
one_at_least k (inr e) = omega arith

module _ (f : Format) (ld n : ℕ) (t u : List Float) (j n1 n2 : ℕ) (h : exchange_line f ld n t u j n1 n2 ≡ 0) where
  pub last-lines : (line8 n1 n2 ≡ false) × (line9 n j n1 n2 ≡ false) × (line10 f ld n t j n1 n2 ≡ false)
  unfolding exchange_line
  last-lines =
      let p2 = passed (line2 n) 1 _ h in
      let p17 = passed (line17 ld n) 16 _ p2.1 in
      let p3 = passed (line3 ld n t) 2 _ p17.1 in
      let p4 = passed (line4 ld n u) 3 _ p3.1 in
      let p5 = passed (line5 f ld n t) 4 _ p4.1 in
      let p6 = passed (line6 f ld n t) 5 _ p5.1 in
      let p7 = passed (line7 n j) 6 _ p6.1 in
      let p8 = passed (line8 n1 n2) 7 _ p7.1 in
      let p9 = passed (line9 n j n1 n2) 8 _ p8.1 in
      (p8.0, p9.0, (passed (line10 f ld n t j n1 n2) 9 0 p9.1).0)

  sizes-are : ((n1 ≡ 1) ⊎ (n1 ≡ 2)) × ((n2 ≡ 1) ⊎ (n2 ≡ 2))
  unfolding line8
  sizes-are = let k = both_true (eqb n1 1 || eqb n1 2) (eqb n2 1 || eqb n2 2) (not-false _ last-lines.0) in (size_is n1 k.0, size_is n2 k.1)

  rows_are : j + n1 + n2 ≤ n
  unfolding line9
  rows_are = ltb-false n (j + n1 + n2) last-lines.1

  -- no 2-block lies across the middle
  middle_zero : zero_below f ld t (j + n1 - 1) ≡ true
  unfolding line10 crosses two_block ne
  middle_zero =
      let a = or_left (crosses f ld n t (j + n1)) _ (or_right (crosses f ld n t j) _ last-lines.2) in
      let o = one_at_least n1 sizes-are.0 in
      let p = one_at_least n2 sizes-are.1 in
      let r = rows_are in
      not-false _ (rw (lt-ltb 0 (j + n1) (omega arith), lt-ltb (j + n1 - 1 + 1) n (omega arith)) at a)

  calls-exchange : (exchange_call f ld n t u j n1 n2).swaps ≡ swaps_of (exchange f ld n j n1 n2 t)
  unfolding exchange_call
  calls-exchange = rw h

pub counts-of_exchange : CountsOfExchange
counts-of_exchange f ld n t u j n1 n2 w h =
    let s = sizes-are f ld n t u j n1 n2 h in
    rw (calls-exchange f ld n t u j n1 n2 h) (counted f ld n j t w n1 n2 s.0 s.1 (rows_are f ld n t u j n1 n2 h) (middle_zero f ld n t u j n1 n2 h))
