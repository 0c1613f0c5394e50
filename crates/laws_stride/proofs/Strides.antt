-- The claims on rows beyond n and on two strides, whole, and the corollary. Assumes nothing.
use mathlib.Core.Path.{◌≡◌, ◌∙◌}
use Prim.Native.Nat.{ℕ}
use native.Mathlib.Omega.{arith}
use mathlib.Core.Bool.{false}
use lib.Dec.{ltb}
use borrow.Author.Tests.{ltb-false}
use Rattle.model.specs.Form.{line17}
use Rattle.model.specs.Values.{as_it_stands}
use Rattle.laws_moves.proofs.Upper.{or_right, at_least}
use Rattle.laws_stride.specs.Beyond.{RowsBeyond}
use Rattle.laws_stride.specs.Strides.{Allowed, TwoStrides, LikeBase}
use Rattle.laws_stride.proofs.Base.{stride-n, stride_is_n_lem}
use Rattle.laws_stride.proofs.Calls.{moves, stopping-moves, exchanges, move-form, move-factor, stopping-form, stopping-factor, exchange-form, exchange-factor}
use Rattle.laws_stride.proofs.Values.{same-values, same-column}
use Rattle.laws_stride.proofs.Vectors.{same-vectors, vectors-beyond}

pub rows-beyond : RowsBeyond
rows-beyond = record { move_form = move-form; move_factor = move-factor; stopping_form = stopping-form; stopping_factor = stopping-factor; exchange_form = exchange-form; exchange_factor = exchange-factor; vectors = vectors-beyond }

pub two-strides : TwoStrides
two-strides = record { moves = moves; stopping_moves = stopping-moves; exchanges = exchanges; values = same-values; vectors = same-vectors; column = same-column }

-- where a stride is allowed, n is
with_n : (ld n : ℕ) → line17 ld n ≡ false → Allowed ld n n
unfolding line17
with_n ld n h =
    let k = at_least ld n h in
    let l = ltb-false 128 ld (or_right (ltb ld n) (ltb 128 ld) h) in
    record { first = h; second = stride-n n (omega arith) }

pub like_base_lem : LikeBase
like_base_lem =
    record {
      moves = λ f ld n a b u v from to h s t. rw (← stride_is_n_lem.move f n b v from to) (moves f ld n n a b u v from to (with_n ld n h) s t);
      exchanges = λ f ld n a b u v j n1 n2 h s t. rw (← stride_is_n_lem.exchange f n b v j n1 n2) (exchanges f ld n n a b u v j n1 n2 (with_n ld n h) s t);
      values = λ f ld n a b s h r. same-values f (as_it_stands f) ld n n a b s (with_n ld n h) r ∙ stride_is_n_lem.values f n b s;
      vectors = λ f ld n a b v w h r s. rw (← stride_is_n_lem.vectors f n b w) (same-vectors f ld n n a b v w (with_n ld n h) r s);
      column = λ ld n v w col h s. same-column ld n n v w col (with_n ld n h) s ∙ stride_is_n_lem.column n w col;
    }
