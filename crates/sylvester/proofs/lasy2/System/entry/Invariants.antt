-- `sylvester::lasy2::System::entry` meets its contract. The invariant: what is left, from here, gives what all of it gives from the start. Assumes nothing.
use Rattle.std.proofs.Common.{◌≡◌, ◌+◌, ◌-◌}
use Rattle.std.specs.Float.{binary64}
use Rattle.model.specs.Lasy2.{row, entry_from}
use Rattle.sylvester.proofs.lasy2.System.entry.Given as goal

abbrev pub invariant-loop-j : goal.invariant-loop-j
invariant-loop-j l = entry_from binary64 (row l.self.t l.k) l.x l.temp (4 - l.j) l.j l.s ≡ entry_from binary64 (row l.self.t l.k) l.x l.temp (4 - (l.k + 1)) (l.k + 1) l.initial.s
