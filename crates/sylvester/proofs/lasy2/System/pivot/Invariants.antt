-- `sylvester::lasy2::System::pivot` meets its contract. The invariant: what is left, from here, gives what all of it gives from the start. Assumes nothing.
use Rattle.std.proofs.Common.{◌≡◌, ◌-◌}
use Rattle.model.specs.Lasy2.{pivot_in_row, pivot_from}
use Rattle.sylvester.proofs.lasy2.System.pivot.Given as goal

abbrev pub invariant-loop-jp : goal.invariant-loop-jp
invariant-loop-jp l = pivot_in_row l.self.t l.ip (4 - l.jp) l.jp l.best ≡ pivot_in_row l.self.t l.ip (4 - l.i) l.i l.initial.best

abbrev pub invariant-loop-ip : goal.invariant-loop-ip
invariant-loop-ip l = pivot_from l.self.t l.i (4 - l.ip) l.ip l.best ≡ pivot_from l.self.t l.i (4 - l.i) l.i l.initial.best
