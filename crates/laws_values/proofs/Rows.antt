-- What an accepted call leaves at each row, by any reading: by induction over the rows that are left, with nothing written above them. Assumes nothing.
use mathlib.Core.Path.{◌≡◌, refl, sym, ◌∙◌}
use mathlib.Core.Bool.{Bool, true, false, ◌&&◌, cond, true≢false}
use mathlib.Core.Logic.{◌⊎◌, inl, inr}
use mathlib.Core.List.{List}
use Prim.Native.Nat.{ℕ, zero, suc, ◌+◌, ◌-◌, ◌<◌, ◌≤◌}
use native.Mathlib.Omega.{arith}
use native.Mathlib.Nat.{eq-or-lt_of_le}
use lib.Dec.{ltb}
use lib.ListN.{length, set, length-set}
use lib.Seq.{get_or-set_same, get_or-set_other}
use lib.Ieee.{Float, nan, Format}
use borrow.Author.Tests.{eqb-true, eq-eqb, not-false, ltb-true, lt-ltb}
use Rattle.model.specs.Arith.{zero_of}
use Rattle.model.specs.Form.{at, entry, nonzero_below, two_block, line2, line17, line3, line5, line6, touching_in}
use Rattle.model.specs.Schur22.{values_of}
use Rattle.model.specs.Values.{Reading, read_at, Parts, one_value, two_values, values_from, values_line, values_read}
use Rattle.laws.proofs.InOrder.{passed}
use Rattle.laws_moves.proofs.Upper.{none-at}
use Rattle.laws_exchange.proofs.Parts.{both_true}
use Rattle.laws_values.specs.Rows.{OneBlock, PairAt, RowsRead}

-- ---- a number put in

set_here : (l : List Float) (n i : ℕ) (x : Float) → length l ≡ n → i < n → at (set l i x) i ≡ x
set_here l n i x e h = get_or-set_same l i x nan (omega arith)

set_away : (l : List Float) (i j : ℕ) (x : Float) → (j ≡ i → ⊥) → at (set l i x) j ≡ at l j
set_away l i j x h = get_or-set_other l i j x nan h

set_below : (l : List Float) (j i : ℕ) (x y : Float) → i < j → at (set (set l (j + 1) y) j x) i ≡ at l i
set_below l j i x y h = set_away (set l (j + 1) y) j i x (λ e. omega (arith, e, h)) ∙ set_away l (j + 1) i y (λ e. omega (arith, e, h))

set-length : (l : List Float) (n i : ℕ) (x : Float) → length l ≡ n → length (set l i x) ≡ n
set-length l n i x e = length-set l i x ∙ e

-- ---- the rows of the first block, and those after it

past_one_lem : (j i : ℕ) → j ≤ i → (j ≡ i) ⊎ (j + 1 ≤ i)
past_one_lem j i h = go (eq-or-lt_of_le h)
  where
    go : (j ≡ i) ⊎ (j < i) → (j ≡ i) ⊎ (j + 1 ≤ i)
    go (inl e) = inl e
    go (inr l) = inr (omega arith)

past_two_lem : (j i : ℕ) → j ≤ i → (j ≡ i) ⊎ ((j + 1 ≡ i) ⊎ (j + 2 ≤ i))
past_two_lem j i h = go (past_one_lem j i h)
  where
    on : (j + 1 ≡ i) ⊎ (j + 1 + 1 ≤ i) → (j ≡ i) ⊎ ((j + 1 ≡ i) ⊎ (j + 2 ≤ i))
    on (inl e) = inr (inl e)
    on (inr l) = inr (inr (omega arith))

    go : (j ≡ i) ⊎ (j + 1 ≤ i) → (j ≡ i) ⊎ ((j + 1 ≡ i) ⊎ (j + 2 ≤ i))
    go (inl e) = inl e
    go (inr l) = on (past_one_lem (j + 1) i l)

-- both buffers have n places
pub record Long (n : ℕ) (s : Parts) : Type 0 where
  pub re : length s.re ≡ n
  pub im : length s.im ≡ n

-- the rows above row j are as they were, and those from it on are read
record Walked (f : Format) (rd : Reading) (ld n : ℕ) (t : List Float) (j : ℕ) (s p : Parts) : Type 0 where
  pub kept_re : (i : ℕ) → i < j → at p.re i ≡ at s.re i
  pub kept_im : (i : ℕ) → i < j → at p.im i ≡ at s.im i
  pub one_re : (i : ℕ) → j ≤ i → i < n → OneBlock f ld n t i → at p.re i ≡ entry ld t i i
  pub one_im : (i : ℕ) → j ≤ i → i < n → OneBlock f ld n t i → at p.im i ≡ zero_of f
  pub two : (i : ℕ) → j ≤ i → two_block f ld n t i ≡ true → PairAt p i (values_of f (read_at rd ld t i))
  pub long : Long n p

module _ (f : Format) (ld n : ℕ) (t : List Float) where
  pub two-inside : (i : ℕ) → two_block f ld n t i ≡ true → i + 1 < n
  unfolding two_block
  two-inside i h = ltb-true (i + 1) n (both_true (ltb (i + 1) n) (nonzero_below f ld t i) h).0

  -- a row that is no 2-block's first
  no_two : (i : ℕ) → (i + 1 < n → nonzero_below f ld t i ≡ false) → two_block f ld n t i ≡ false
  unfolding two_block
  no_two i h = go (ltb (i + 1) n) (ltb-true (i + 1) n)
    where
      go : (b : Bool) → (b ≡ true → i + 1 < n) → (b && nonzero_below f ld t i) ≡ false
      go true g = h (g refl)
      go false g = refl

  pub a-two : (i : ℕ) → i + 1 < n → nonzero_below f ld t i ≡ true → two_block f ld n t i ≡ true
  unfolding two_block
  a-two i h z = rw (lt-ltb (i + 1) n h, z)

module _ (f : Format) (rd : Reading) (ld n : ℕ) (t : List Float) where
  nothing_left : (j : ℕ) (s : Parts) → n ≤ j → Long n s → Walked f rd ld n t j s s
  nothing_left j s h l =
      record {
        kept_re = λ i k. refl;
        kept_im = λ i k. refl;
        one_re = λ i k g o. absurd (omega (arith, h, k, g));
        one_im = λ i k g o. absurd (omega (arith, h, k, g));
        two = λ i k b. absurd (omega (arith, h, k, two-inside f ld n t i b));
        long = l;
      }

  one_long : (j : ℕ) (s : Parts) → Long n s → Long n (one_value f ld t j s)
  unfolding one_value
  one_long j s l = record { re = set-length s.re n j _ l.re; im = set-length s.im n j _ l.im }

  two_long : (j : ℕ) (s : Parts) → Long n s → Long n (two_values f rd ld t j s)
  unfolding two_values
  two_long j s l = record { re = simp length-set l.re; im = simp length-set l.im }

  -- a 1-block in row j, and then the rest
  then_one : (j : ℕ) (s p : Parts) → j < n → two_block f ld n t j ≡ false → Long n s → Walked f rd ld n t (j + 1) (one_value f ld t j s) p → Walked f rd ld n t j s p
  unfolding one_value
  then_one j s p h z l w =
      record {
        kept_re = λ i k. w.kept_re i (omega (arith, k)) ∙ set_away s.re j i _ (λ e. omega (arith, k, e));
        kept_im = λ i k. w.kept_im i (omega (arith, k)) ∙ set_away s.im j i _ (λ e. omega (arith, k, e));
        one_re = λ i k g o. own-re i g o (past_one_lem j i k);
        one_im = λ i k g o. own-im i g o (past_one_lem j i k);
        two = λ i k b. other i b (past_one_lem j i k);
        long = w.long;
      }
    where
      own-re : (i : ℕ) → i < n → OneBlock f ld n t i → (j ≡ i) ⊎ (j + 1 ≤ i) → at p.re i ≡ entry ld t i i
      own-re i g o (inl e) = rw (← e) (w.kept_re j (omega arith) ∙ set_here s.re n j _ l.re h)
      own-re i g o (inr k) = w.one_re i k g o

      own-im : (i : ℕ) → i < n → OneBlock f ld n t i → (j ≡ i) ⊎ (j + 1 ≤ i) → at p.im i ≡ zero_of f
      own-im i g o (inl e) = rw (← e) (w.kept_im j (omega arith) ∙ set_here s.im n j _ l.im h)
      own-im i g o (inr k) = w.one_im i k g o

      other : (i : ℕ) → two_block f ld n t i ≡ true → (j ≡ i) ⊎ (j + 1 ≤ i) → PairAt p i (values_of f (read_at rd ld t i))
      other i b (inl e) = absurd (true≢false (sym (rw (← e) at b) ∙ z))
      other i b (inr k) = w.two i k b

  -- a 2-block in rows j and j + 1, and then the rest
  then_two : (j : ℕ) (s p : Parts) → two_block f ld n t j ≡ true → two_block f ld n t (j + 1) ≡ false → Long n s → Walked f rd ld n t (j + 2) (two_values f rd ld t j s) p → Walked f rd ld n t j s p
  unfolding two_values
  then_two j s p z q l w =
      let v = values_of f (read_at rd ld t j) in
      record {
        kept_re = λ i k. w.kept_re i (omega (arith, k)) ∙ set_below s.re j i v.re1 v.re2 k;
        kept_im = λ i k. w.kept_im i (omega (arith, k)) ∙ set_below s.im j i v.im1 v.im2 k;
        one_re = λ i k g o. rest_re i g o (past_two_lem j i k);
        one_im = λ i k g o. rest_im i g o (past_two_lem j i k);
        two = λ i k b. other i b (past_two_lem j i k);
        long = w.long;
      }
    where
      inside : j + 1 < n
      inside = two-inside f ld n t j z

      no_row : (i : ℕ) → OneBlock f ld n t i → (j ≡ i) ⊎ (j + 1 ≡ i) → ⊥
      no_row i o (inl e) = true≢false (sym (rw e at z) ∙ o.below)
      no_row i o (inr e) = true≢false (sym z ∙ o.above j e)

      rest_re : (i : ℕ) → i < n → OneBlock f ld n t i → (j ≡ i) ⊎ ((j + 1 ≡ i) ⊎ (j + 2 ≤ i)) → at p.re i ≡ entry ld t i i
      rest_re i g o (inl e) = absurd (no_row i o (inl e))
      rest_re i g o (inr (inl e)) = absurd (no_row i o (inr e))
      rest_re i g o (inr (inr k)) = w.one_re i k g o

      rest_im : (i : ℕ) → i < n → OneBlock f ld n t i → (j ≡ i) ⊎ ((j + 1 ≡ i) ⊎ (j + 2 ≤ i)) → at p.im i ≡ zero_of f
      rest_im i g o (inl e) = absurd (no_row i o (inl e))
      rest_im i g o (inr (inl e)) = absurd (no_row i o (inr e))
      rest_im i g o (inr (inr k)) = w.one_im i k g o

      own : PairAt p j (values_of f (read_at rd ld t j))
      own =
          let v = values_of f (read_at rd ld t j) in
          let re = set s.re (j + 1) v.re2 in
          let im = set s.im (j + 1) v.im2 in
          record {
            re1 = w.kept_re j (omega arith) ∙ set_here re n j v.re1 (set-length s.re n (j + 1) v.re2 l.re) (omega (arith, inside));
            im1 = w.kept_im j (omega arith) ∙ set_here im n j v.im1 (set-length s.im n (j + 1) v.im2 l.im) (omega (arith, inside));
            re2 = w.kept_re (j + 1) (omega arith) ∙ set_away re j (j + 1) v.re1 (λ e. omega (arith, e)) ∙ set_here s.re n (j + 1) v.re2 l.re inside;
            im2 = w.kept_im (j + 1) (omega arith) ∙ set_away im j (j + 1) v.im1 (λ e. omega (arith, e)) ∙ set_here s.im n (j + 1) v.im2 l.im inside;
          }

      other : (i : ℕ) → two_block f ld n t i ≡ true → (j ≡ i) ⊎ ((j + 1 ≡ i) ⊎ (j + 2 ≤ i)) → PairAt p i (values_of f (read_at rd ld t i))
      other i b (inl e) = rw (← e) own
      other i b (inr (inl e)) = absurd (true≢false (sym (rw (← e) at b) ∙ q))
      other i b (inr (inr k)) = w.two i k b

  module _ (apart : (j : ℕ) → j < n - 2 → touching_in f ld t j ≡ false) where
    -- below a 2-block none begins
    after_two : (j : ℕ) → nonzero_below f ld t j ≡ true → two_block f ld n t (j + 1) ≡ false
    unfolding touching_in
    after_two j z = no_two f ld n t (j + 1) (λ h. rw z at (apart j (omega (arith, h))))

    walk : (k j : ℕ) (s : Parts) → j + k ≡ n → Long n s → Walked f rd ld n t j s (values_from f rd ld t k j s)
    unfolding values_from
    walk zero j s e l = nothing_left j s (omega arith) l
    walk (suc zero) j s e l =
        then_one j s _ (omega arith) (no_two f ld n t j (λ h. absurd (omega (arith, h)))) l (nothing_left (j + 1) _ (omega arith) (one_long j s l))
    walk (suc (suc k)) j s e l =
        go (nonzero_below f ld t j) refl (walk k (j + 2) (two_values f rd ld t j s) (omega arith) (two_long j s l)) (walk (suc k) (j + 1) (one_value f ld t j s) (omega arith) (one_long j s l))
      where
        go : (b : Bool) → nonzero_below f ld t j ≡ b
            → Walked f rd ld n t (j + 2) (two_values f rd ld t j s) (values_from f rd ld t k (j + 2) (two_values f rd ld t j s))
            → Walked f rd ld n t (j + 1) (one_value f ld t j s) (values_from f rd ld t (suc k) (j + 1) (one_value f ld t j s))
            → Walked f rd ld n t j s (cond b (values_from f rd ld t k (j + 2) (two_values f rd ld t j s)) (values_from f rd ld t (suc k) (j + 1) (one_value f ld t j s)))
        go true z v w = then_two j s _ (a-two f ld n t j (omega arith) z) (after_two j z) l v
        go false z v w = then_one j s _ (omega arith) (no_two f ld n t j (λ h. z)) l w

-- ---- the whole call

module _ (f : Format) (ld n : ℕ) (t : List Float) (s : Parts) (h : values_line f ld n t s ≡ 0) where
  lines : Long n s × (line6 f ld n t ≡ false)
  unfolding values_line
  lines =
      let p2 = passed (line2 n) 1 _ h in
      let p17 = passed (line17 ld n) 16 _ p2.1 in
      let p3 = passed (line3 ld n t) 2 _ p17.1 in
      let pr = passed _ 3 _ p3.1 in
      let pi = passed _ 3 _ pr.1 in
      let p5 = passed (line5 f ld n t) 4 _ pi.1 in
      let p6 = passed (line6 f ld n t) 5 _ p5.1 in
      (record { re = eqb-true _ _ (not-false _ pr.0); im = eqb-true _ _ (not-false _ pi.0) }, p6.0)

  neighbours : (j : ℕ) → j < n - 2 → touching_in f ld t j ≡ false
  unfolding line6
  neighbours = none-at (n - 2) (touching_in f ld t) lines.1

pub rows_read : RowsRead
unfolding values_read
rows_read f rd ld n t s h =
    let w = walk f rd ld n t (neighbours f ld n t s h) n 0 s (omega arith) (lines f ld n t s h).0 in
    rw (eq-eqb (values_line f ld n t s) 0 h) (record {
      one_real = λ i g o. w.one_re i (omega arith) g o;
      one_imaginary = λ i g o. w.one_im i (omega arith) g o;
      two = λ j b. w.two j (omega arith) b;
      reals = w.long.re;
      imaginaries = w.long.im;
    })
