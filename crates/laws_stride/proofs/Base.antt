-- With the stride n each call is the base's: where line 2 does not apply, line 17 does not. Assumes nothing.
use mathlib.Core.Path.{◌≡◌, refl}
use Prim.Native.Nat.{ℕ, ◌≤◌}
use native.Mathlib.Omega.{arith}
use mathlib.Core.Bool.{Bool, true, false, ◌||◌, cond}
use lib.Dec.{eqb, ltb}
use borrow.Author.Tests.{ltb-false, le-ltb}
use Rattle.model.specs.Form.{line2, line17}
use Rattle.model.specs.Exchange.{exchange_line, exchange_call}
use Rattle.model.specs.Move.{move_line, move_call}
use Rattle.model.specs.Values.{values_line, values_read}
use Rattle.model.specs.Vectors.{vectors_line, evd_from_real_schur, column_line, column_of}
use Rattle.laws_stride.specs.Base.{StrideIsN, base_move, base_exchange, base_values, base_vectors, base_column}

-- the stride n is allowed as far as the greatest stride
pub stride-n : (n : ℕ) → n ≤ 128 → line17 n n ≡ false
unfolding line17
stride-n n h = rw (le-ltb n n (omega arith), le-ltb 128 n h)

-- line 2 is tested first
skip : (n rest : ℕ) → cond (line2 n) 2 (cond (line17 n n) 17 rest) ≡ cond (line2 n) 2 rest
unfolding line2
skip n rest = go (eqb n 0) (ltb 64 n) (ltb-false 64 n)
  where
    go : (a b : Bool) → (b ≡ false → n ≤ 64) → cond (a || b) 2 (cond (line17 n n) 17 rest) ≡ cond (a || b) 2 rest
    go true b h = refl
    go false true h = refl
    go false false h = let k = h refl in rw (stride-n n (omega arith))

pub stride_is_n_lem : StrideIsN
unfolding move_call move_line base_move exchange_call exchange_line base_exchange values_read values_line base_values evd_from_real_schur vectors_line base_vectors column_of column_line base_column
stride_is_n_lem =
    record {
      move = λ f n t u from to. rw (skip n);
      exchange = λ f n t u j n1 n2. rw (skip n);
      values = λ f n t s. rw (skip n);
      vectors = λ f n t v. rw (skip n);
      column = λ n v col. rw (skip n);
    }
