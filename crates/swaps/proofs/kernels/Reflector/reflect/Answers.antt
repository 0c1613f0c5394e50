-- `swaps::kernels::Reflector::reflect` meets its contract. Assumes nothing.
use Rattle.std.proofs.Common.{◌≡◌, ◌∙◌, ℕ, ◌+◌, ◌-◌, Float, ap, drop, arith}
use Rattle.std.specs.Float.{binary64}
use Rattle.std.specs.Float.Ieee.{mul}
use Rattle.swaps.specs.Reflects.{product_of, less_of}
use Rattle.swaps.proofs.Reflected.{less_more, less_whole}
use Rattle.swaps.proofs.kernels.Reflector.reflect.Goals as goal

pub loop-m-2-preserved : goal.loop-m-2-preserved
loop-m-2-preserved g c = less_more _ _ _ _ _ _ c.loop-m-2.invariant

pub returns : goal.returns
returns g c =
    let from = g.row.N - (g.row.M + 1) in
    let v = c.args.self.now.v in
    let x = c.args.x in
    let tau = c.args.self.now.tau in
    let all : c.loop-m.m ≡ g.row.M = omega arith in
    let each : c.loop-m-2.m ≡ g.row.M = omega arith in
    less_whole g.row.M from _ _ v x _ (omega arith) (c.loop-m-2.invariant ∙ ap (λ (m : ℕ). drop (from + 1) (less_of m from (mul binary64 c.loop-m.sum tau) v x)) each)
    ∙ ap (λ (a : Float). less_of g.row.M from (mul binary64 a tau) v x) (c.loop-m.invariant ∙ ap (λ (m : ℕ). product_of m from v x) all)
