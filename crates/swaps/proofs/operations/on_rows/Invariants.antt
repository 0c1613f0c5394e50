-- `swaps::operations::on_rows` meets its contract. Assumes nothing.
use Rattle.std.proofs.Common.{◌≡◌, ℕ, ◌-◌, length, get_or}
use Rattle.model.specs.Form.{place}
use Rattle.swaps.specs.Lines.{change_run}
use Rattle.swaps.proofs.Windows.{Filled}
use Rattle.swaps.proofs.operations.on_rows.Given as goal

abbrev pub invariant-loop-c : goal.invariant-loop-c
invariant-loop-c g l =
    (length l.t ≡ length l.initial.t)
    × (l.t ≡ change_run g.row.N (g.K.Kernel.gives l.k) l.s.ld (l.c - l.j) 0 (λ (m : ℕ). place l.s.ld (get_or l.rows m 0) l.j) l.initial.t)

abbrev pub invariant-loop-m : goal.invariant-loop-m
invariant-loop-m g l = Filled g.row.N (λ (m : ℕ). place l.s.ld (get_or l.fn.rows m 0) l.c) 0 l.m l.places
