-- `evd::vectors::form_norm` meets its contract. The invariant: the rest of the work, done to what there is now, gives the whole. Assumes nothing.
use mathlib.Core.Path.{◌≡◌}
use Prim.Native.Nat.{◌-◌}
use lib.Ieee.{binary64}
use Rattle.model.specs.Vectors.{norm_columns, form_norm}
use Rattle.evd.proofs.vectors.form_norm.Given as goal

abbrev pub invariant-loop-j : goal.invariant-loop-j
invariant-loop-j l = norm_columns binary64 l.s.ld l.s.n l.t (l.s.n - l.j) l.j l.norm ≡ form_norm binary64 l.s.ld l.s.n l.t
