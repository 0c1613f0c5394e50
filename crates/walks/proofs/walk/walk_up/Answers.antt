-- `walks::walk::walk_up` meets its contract. Assumes nothing.
use mathlib.Core.Path.{◌≡◌, ◌∙◌}
use native.Mathlib.Omega.{arith}
use Rattle.std.proofs.Common.{rules, Err}
use Rattle.walks.proofs.Loops.{more, stops, ends, up_more, up_ends}
use Rattle.walks.proofs.walk.walk_up.Goals as goal

pub returns-in_err-on : goal.returns-in_err-on
returns-in_err-on g c =
    let x : c.from_residual.result ≡ Err c.in_err-on.field-0.0 = search rules in
    let q = c.loop-on-test.true in
    λ u₀ M a. rw x (stops _ _ (c.loop-on.invariant.5 u₀ M a) (omega arith) (up_more _ _ _ _ _ _ q) c.in_err-on.ensures.stands)

pub loop-on-preserved : goal.loop-on-preserved
loop-on-preserved g c =
    let v = c.loop-on.invariant in
    let x = c.step_up.auto in
    let y = c.in_ok-on.ensures in
    let l = y.counts.0 in
    let q = c.loop-on-test.true in (
      x.t ∙ v.0,
      x.u ∙ v.1,
      search rules,
      search rules,
      search rules,
      λ v₀ M a. more _ _ (v.5 v₀ M a) (omega arith) _ (omega arith) (up_more _ _ _ _ _ _ q) y.stands,
    )

pub returns : goal.returns
returns g c = λ u₀ M a. ends (c.loop-on.invariant.5 u₀ M a) (up_ends _ _ _ _ _ _ c.loop-on-test.false)
