-- A walk that has stopped or come to its end, as the call's answer. Assumes nothing.
use mathlib.Core.Path.{◌≡◌}
use Prim.Native.Nat.{ℕ}
use mathlib.Core.List.{List}
use lib.Ieee.{Float, binary64}
use Rattle.std.proofs.Common.{Result, is_err}
use Rattle.model.specs.Move.{move_line}
use Rattle.model.specs.Stopping.{Stopped, stopping_move, stopping_call}
use Rattle.form.specs.declared.shape.Shape.{Shape}
use Rattle.form.specs.Shaped.{IsOf}
use Rattle.walks.specs.declared.moving.Moving.{Moving}
use Rattle.walks.specs.Kinds.{either}
use Rattle.walks.specs.Stands.{Stood}

pub ended : {s : Shape} {n ld : ℕ} (from to : ℕ) {t u t₁ u₁ : List Float} {r : Result Moving Moving} → IsOf s n ld t → 0 ≡ move_line binary64 ld n t u from to
    → Stood s u t₁ u₁ r (stopping_move binary64 s.ld s.n from to t)
    → (let m = either r in
    ◌≡◌ {A = Stopped} (record { answer = 0; stopped = is_err r; here = m.here; swaps = m.counts.swaps; declined = m.counts.declined; form = t₁; factor = u₁ })
    (stopping_call binary64 ld n t u from to))
unfolding stopping_call
ended from to k l w =
    let a = w.stands in
    rw (← l, ← k.rows, ← k.stride, w.stopped, a.here, a.step.swaps, a.step.declined, a.step.done.form, a.step.done.factor)
