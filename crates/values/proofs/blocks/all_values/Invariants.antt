-- `values::blocks::all_values` meets its contract. The invariant: the rest of the work, done to what there is now, gives the whole. Assumes nothing.
use mathlib.Core.Path.{◌≡◌}
use Prim.Native.Nat.{◌-◌, ◌≤◌}
use lib.ListN.{length}
use lib.Ieee.{binary64}
use Rattle.model.specs.Values.{values_from}
use Rattle.values.proofs.blocks.all_values.Given as goal

abbrev pub invariant-loop-j : goal.invariant-loop-j
invariant-loop-j g l =
    (l.j ≤ l.s.n)
    × (length l.re ≡ length l.initial.re)
    × (length l.im ≡ length l.initial.im)
    × (values_from binary64 g.R.Reading.read l.s.ld l.t (l.s.n - l.j) l.j (record { re = l.re; im = l.im }) ≡ values_from binary64 g.R.Reading.read l.s.ld l.t l.s.n 0 (record { re = l.initial.re; im = l.initial.im }))

abbrev pub decreases-loop-j : goal.decreases-loop-j
decreases-loop-j g l = l.s.n - l.j
