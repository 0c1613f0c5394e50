-- The row list beside a form: taking out, putting in, and two neighbours that change places. A form's diagonal is the first form's, read by the row list, and the exchange of two rows keeps that. Assumes nothing.
use mathlib.Core.Path.{◌≡◌, refl, ap, ◌∙◌}
use mathlib.Core.Logic.{◌≢◌}
use Prim.Native.Nat.{ℕ, zero, suc, ◌+◌, ◌<◌}
use native.Mathlib.Nat.{le_of_suc-le-suc, not-suc-le-zero}
use native.Mathlib.Numerals.{add-one}
use native.Mathlib.Decide.{ℕ_discrete}
use native.Mathlib.Omega.{arith}
use mathlib.Core.List.{List, [], ◌∷◌}
use lib.ListN.{length, get_or, set, length-set}
use lib.Seq.{get_or-set_same, get_or-set_other}
use lib.Ieee.{Float, Format}
use Rattle.model.specs.Form.{entry}
use Rattle.laws_moves.specs.Lists.{take_out, put_in, count_from}
use Rattle.laws_moves.proofs.Swap.{after, after_else, after_upper, after_lower}
use Rattle.laws_moves.proofs.Upper.{Upper, upper_after}

-- ---- lists

-- the numbers at j and j + 1 change places
abbrev pub cross_at : ℕ → List ℕ → List ℕ
cross_at j rs = set (set rs j (get_or rs (suc j) 0)) (suc j) (get_or rs j 0)

pub put-lower : (x k : ℕ) (rs : List ℕ) → k < length rs → cross_at k (put_in x k rs) ≡ put_in x (suc k) rs
unfolding put_in
put-lower x k [] h = absurd (not-suc-le-zero h)
put-lower x zero (r ∷ rs) h = refl
put-lower x (suc k) (r ∷ rs) h = ap (λ (l : List ℕ). r ∷ l) (put-lower x k rs (le_of_suc-le-suc h))

pub put_higher : (x k : ℕ) (rs : List ℕ) → k < length rs → cross_at k (put_in x (suc k) rs) ≡ put_in x k rs
unfolding put_in
put_higher x k [] h = absurd (not-suc-le-zero h)
put_higher x zero (r ∷ rs) h = refl
put_higher x (suc k) (r ∷ rs) h = ap (λ (l : List ℕ). r ∷ l) (put_higher x k rs (le_of_suc-le-suc h))

pub put_back : (k : ℕ) (rs : List ℕ) → k < length rs → put_in (get_or rs k 0) k (take_out k rs) ≡ rs
unfolding put_in take_out
put_back k [] h = absurd (not-suc-le-zero h)
put_back zero (r ∷ rs) h = refl
put_back (suc k) (r ∷ rs) h = ap (λ (l : List ℕ). r ∷ l) (put_back k rs (le_of_suc-le-suc h))

pub one_out : (k : ℕ) (rs : List ℕ) → k < length rs → suc (length (take_out k rs)) ≡ length rs
unfolding take_out
one_out k [] h = absurd (not-suc-le-zero h)
one_out zero (r ∷ rs) h = refl
one_out (suc k) (r ∷ rs) h = ap suc (one_out k rs (le_of_suc-le-suc h))

-- 0, 1, up to n - 1
pub count-length : (k i : ℕ) → length (count_from k i) ≡ k
unfolding count_from
count-length zero i = refl
count-length (suc k) i = ap suc (count-length k (i + 1))

pub count_at : (k i j : ℕ) → j < k → get_or (count_from k i) j 0 ≡ i + j
unfolding count_from
count_at zero i j h = absurd (not-suc-le-zero h)
count_at (suc k) i zero h = omega arith
count_at (suc k) i (suc j) h = let e = count_at k (i + 1) j (le_of_suc-le-suc h) in omega arith

-- ---- the diagonal, read by the row list

pub record Tracks (f : Format) (ld n : ℕ) (a t : List Float) (rs : List ℕ) : Type 0 where
  pub upper : Upper f ld n t
  pub size : length rs ≡ n
  pub inside : (i : ℕ) → i < n → get_or rs i 0 < n
  pub row : (i : ℕ) → i < n → entry ld t i i ≡ entry ld a (get_or rs i 0) (get_or rs i 0)

-- from which row the number in row i comes, on the diagonal and in the row list
record From (f : Format) (ld n j i : ℕ) (t : List Float) (rs : List ℕ) : Type 0 where
  source : ℕ
  below : source < n
  number : entry ld (after f ld n j t) i i ≡ entry ld t source source
  listed : get_or (cross_at j rs) i 0 ≡ get_or rs source 0

from-lower : (f : Format) (ld n j : ℕ) (t : List Float) (rs : List ℕ) → Upper f ld n t → length rs ≡ n → j + 1 < n → From f ld n j j t rs
from-lower f ld n j t rs l m g =
    let x : j ≢ suc j = omega arith in
    let y : j < length rs = omega arith in
    record { source = j + 1; below = g; number = after_upper f ld n j t (omega arith) g l.size; listed = rw (add-one, get_or-set_other, get_or-set_same) }

from-upper : (f : Format) (ld n j : ℕ) (t : List Float) (rs : List ℕ) → Upper f ld n t → length rs ≡ n → j + 1 < n → From f ld n j (j + 1) t rs
from-upper f ld n j t rs l m g =
    let y : suc j < length (set rs j (get_or rs (suc j) 0)) = simp length-set (omega arith) in
    record { source = j; below = omega arith; number = after_lower f ld n j t (omega arith) g l.size; listed = rw (add-one, get_or-set_same) }

from_itself : (f : Format) (ld n j i : ℕ) (t : List Float) (rs : List ℕ) → Upper f ld n t → j + 1 < n → i < n → i ≢ j → i ≢ j + 1 → From f ld n j i t rs
from_itself f ld n j i t rs l g h p q =
    let x : i ≢ suc j = omega arith in
    record { source = i; below = h; number = after_else f ld n j t (omega arith) g i i (omega arith) h (λ e _. p e) (λ e _. q e); listed = rw (get_or-set_other, get_or-set_other) }

from : (f : Format) (ld n j i : ℕ) (t : List Float) (rs : List ℕ) → Upper f ld n t → length rs ≡ n → j + 1 < n → i < n → From f ld n j i t rs
from f ld n j i t rs l m g h =
    elim (ℕ_discrete i j) [
      | yes p ↦ rw p (from-lower f ld n j t rs l m g)
      | no p ↦ elim (ℕ_discrete i (j + 1)) [ yes q ↦ rw q (from-upper f ld n j t rs l m g) | no q ↦ from_itself f ld n j i t rs l g h p q ]
    ]

pub tracks_after : (f : Format) (ld n j : ℕ) (a t : List Float) (rs : List ℕ) → j + 1 < n → Tracks f ld n a t rs → Tracks f ld n a (after f ld n j t) (cross_at j rs)
tracks_after f ld n j a t rs g k =
    record {
      upper = upper_after f ld n j t g k.upper;
      size = simp length-set k.size;
      inside = λ i h. let w = come i h in rw w.listed (k.inside w.source w.below);
      row = λ i h. let w = come i h in rw w.listed (w.number ∙ k.row w.source w.below);
    }
  where
    come : (i : ℕ) → i < n → From f ld n j i t rs
    come i h = from f ld n j i t rs k.upper k.size g h
