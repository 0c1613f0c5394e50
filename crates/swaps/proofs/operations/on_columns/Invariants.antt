-- `swaps::operations::on_columns` meets its contract. Assumes nothing.
use Rattle.std.proofs.Common.{◌≡◌, ℕ, length, get_or}
use Rattle.model.specs.Form.{place}
use Rattle.swaps.specs.Lines.{change_run}
use Rattle.swaps.proofs.Windows.{Filled}
use Rattle.swaps.proofs.operations.on_columns.Given as goal

abbrev pub invariant-loop-i : goal.invariant-loop-i
invariant-loop-i g l =
    (length l.t ≡ length l.initial.t)
    × (l.t ≡ change_run g.row.N (g.K.Kernel.gives l.k) 1 l.i 0 (λ (m : ℕ). place l.s.ld 0 (get_or l.columns m 0)) l.initial.t)

abbrev pub invariant-loop-m : goal.invariant-loop-m
invariant-loop-m g l = Filled g.row.N (λ (m : ℕ). place l.s.ld l.i (get_or l.fn.columns m 0)) 0 l.m l.places
