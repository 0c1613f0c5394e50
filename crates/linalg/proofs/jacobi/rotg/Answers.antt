-- `linalg::jacobi::rotg` meets its contract. Assumes nothing.
use mathlib.Core.Path.{sym}
use lib.Ieee.{binary64, div, of_bits}
use Rattle.linalg.proofs.Nan.{nan_only, rotg_nan, nan_rotg}
use Rattle.linalg.proofs.jacobi.rotg.Goals.{then-is_nan-via-then-is_nan, then-is_nan-via-else-is_nan+then-is_nan-2}
use Rattle.linalg.proofs.jacobi.rotg.Goals as goal

pub returns-then-is_nan : goal.returns-then-is_nan
unfolding div of_bits
returns-then-is_nan c =
    elim c.then-is_nan.branch [
      | then-is_nan-via-then-is_nan w ↦ rw (nan_only c.args.p (rw c.is_nan.ensures.value at w.if-is_nan.true)) (sym (nan_rotg binary64 c.args.q c.if-q.false))
      | then-is_nan-via-else-is_nan+then-is_nan-2 w ↦ rw (nan_only c.args.q (rw w.is_nan-else-is_nan.ensures.value at w.if-is_nan-2.true)) (sym (rotg_nan binary64 c.args.p c.if-p.false))
    ]
