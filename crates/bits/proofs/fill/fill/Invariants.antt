-- `bits::fill::fill` meets its contract. The invariant: so many elements are written, and what stands after stays. Assumes nothing.
use Rattle.std.proofs.Common.{◌≡◌, ◌++◌, map, take, drop}
use Rattle.bits.proofs.fill.fill.Given as goal

abbrev pub invariant-loop-i : goal.invariant-loop-i
invariant-loop-i g l = (h : g.row.A.Denot → g.row.B.Denot) → ((x : g.row.A.Denot) (y : g.row.B.Denot) → g.F.Fn.post l.f (x, tt) y → y ≡ h x) → l.to ≡ map h (take l.i l.from) ++ drop l.i l.initial.to
