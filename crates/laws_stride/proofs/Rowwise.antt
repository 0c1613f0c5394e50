-- Two lists, each by its own stride, that go by their n rows: the numbers there are read alike, and a number put in the same row and column of both leaves what they have alike. Two relations are such: the same n rows, and one list twice with its rows from n on as they were. Assumes nothing.
use mathlib.Core.Path.{◌≡◌, refl, ap}
use Prim.Native.Nat.{ℕ, ◌+◌, ◌≤◌, ◌<◌}
use native.Mathlib.Omega.{arith}
use mathlib.Core.List.{List}
use lib.ListN.{set}
use lib.Ieee.{Float, Format, eq, ne}
use Rattle.model.specs.Arith.{zero_of}
use Rattle.model.specs.Form.{place, at, entry, zero_below, nonzero_below}
use Rattle.model.specs.Swaps.{put}
use Rattle.laws_moves.proofs.Upper.{at_least}
use Rattle.laws_stride.specs.Beyond.{BeyondStays}
use Rattle.laws_stride.specs.Strides.{Allowed, SameRows}
use Rattle.laws_stride.proofs.Put.{put_same, put-beyond}

-- the n rows of a, by the stride ld, read as those of b do by the stride md
pub record ReadsAs (ld md n : ℕ) (a b : List Float) : Type 0 where
  pub same : (i j : ℕ) → i < n → j < n → entry ld a i j ≡ entry md b i j

-- a relation that goes by the n rows
pub record Rowwise (ld md n : ℕ) (R : List Float → List Float → Type 0) : Type 0 where
  pub reads : {a b : List Float} → R a b → ReadsAs ld md n a b
  pub puts : {a b : List Float} (i j : ℕ) (v : Float) → i < n → j < n → R a b → R (put ld i j v a) (put md i j v b)

-- ---- what is just below the diagonal

pub zero_same : {ld md n : ℕ} {a b : List Float} (f : Format) (j : ℕ) → j + 1 < n → ReadsAs ld md n a b → zero_below f ld a j ≡ zero_below f md b j
zero_same f j h r = ap (λ (x : Float). eq x (zero_of f)) (r.same (j + 1) j h (omega arith))

pub nonzero_same : {ld md n : ℕ} {a b : List Float} (f : Format) (j : ℕ) → j + 1 < n → ReadsAs ld md n a b → nonzero_below f ld a j ≡ nonzero_below f md b j
nonzero_same f j h r = ap (λ (x : Float). ne x (zero_of f)) (r.same (j + 1) j h (omega arith))

-- ---- places

-- p by the stride ld and q by the stride md are the place of row i, column j, both below n
pub record Cell (ld md n p q i j : ℕ) : Type 0 where
  pub low : i < n
  pub left : j < n
  pub first : p ≡ place ld i j
  pub second : q ≡ place md i j

-- of some row and column
pub record Paired (ld md n p q : ℕ) : Type 0 where
  pub row : ℕ
  pub col : ℕ
  pub here : Cell ld md n p q row col

pub cell : {ld md n p q : ℕ} (i j : ℕ) → Cell ld md n p q i j → Paired ld md n p q
cell i j h = record { row = i; col = j; here = h }

pub same_at : {ld md n p q : ℕ} {a b : List Float} → ReadsAs ld md n a b → Paired ld md n p q → at a p ≡ at b q
same_at r c = let h = c.here in rw (h.first, h.second) (r.same c.row c.col h.low h.left)

pub set_at : {ld md n p q : ℕ} {R : List Float → List Float → Type 0} {a b : List Float} {x y : Float} → Rowwise ld md n R → Paired ld md n p q → x ≡ y → R a b → R (set a p x) (set b q y)
set_at {y = y} k c e r = let h = c.here in rw (h.first, h.second, e) (k.puts c.row c.col y h.low h.left r)

-- ---- the same n rows

pub rows_read : {ld md n : ℕ} {a b : List Float} → SameRows ld md n a b → ReadsAs ld md n a b
rows_read s = record { same = s.same }

pub same_rowwise : (ld md n : ℕ) → Allowed ld md n → Rowwise ld md n (SameRows ld md n)
same_rowwise ld md n w =
    record { reads = rows_read; puts = λ i j v g h s. put_same ld md n i j v _ _ (at_least ld n w.first) (at_least md n w.second) g h s }

-- ---- one list, twice, with the rows from n on as in o

pub record Kept (ld n : ℕ) (o a b : List Float) : Type 0 where
  pub same : a ≡ b
  pub stays : BeyondStays ld n o a

pub kept-first : (ld n : ℕ) (o : List Float) → Kept ld n o o o
kept-first ld n o = record { same = refl; stays = record { size = refl; beyond = λ i j g h. refl } }

pub kept_rowwise : (ld n : ℕ) (o : List Float) → n ≤ ld → Rowwise ld ld n (Kept ld n o)
kept_rowwise ld n o w =
    record {
      reads = λ s. record { same = λ i j g h. ap (λ (t : List Float). entry ld t i j) s.same };
      puts = λ i j v g h s. record { same = ap (put ld i j v) s.same; stays = put-beyond ld n i j v o _ w g s.stays };
    }
