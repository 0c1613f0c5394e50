-- `exchanges::exchange::exchange` meets its contract. Assumes nothing.
use mathlib.Core.Path.{refl, sym, ◌∙◌}
use native.Mathlib.Omega.{arith}
use lib.Dec.{lit<}
use Rattle.std.proofs.Common.{rules}
use Rattle.form.proofs.Runs.{still}
use Rattle.exchanges.proofs.Todo.{as_many, seen_is, pushed, pushed_twice, none-waiting}
use Rattle.exchanges.proofs.Exchanges.{with_todo, rows_of, begins, ends, rows, upper_room, lower_room, upper_on, lower_on, whole_on, upper_fewer, lower_fewer, whole_fewer}
use Rattle.exchanges.proofs.exchange.exchange.Goals as goal

pub loop-b-init : goal.loop-b-init
loop-b-init c =
    let e = c.default-counts.ensures in
    (refl, rw (e.0, e.1, pushed _ _ c.push.ensures.items, none-waiting c.new-todo.ensures) (begins _ _ (rows_of c.args.s c.args.b c.requires.2)))

pub apart-requires : goal.apart-requires
apart-requires c =
    let w = with_todo (pushed _ _ c.in-Some.ensures.items) c.loop-b.invariant.1 in
    let r = rows _ _ w in
    (c.loop-b.invariant.0 ∙ c.requires.0, omega (arith, r.inside, r.one2))

pub push-requires-then-apart : goal.push-requires-then-apart
push-requires-then-apart c =
    let w = with_todo (pushed _ _ c.in-Some.ensures.items) c.loop-b.invariant.1 in
    let h = sym c.apart.ensures ∙ c.if-apart.true in
    let m = upper_room _ _ w h in
    let e = as_many c.pop.new.self.items in
    (lit< tt, omega arith)

pub overflow_add-b : goal.overflow_add-b
overflow_add-b c =
    let w = with_todo (pushed _ _ c.in-Some.ensures.items) c.loop-b.invariant.1 in
    let r = rows _ _ w in
    omega (arith, r.inside, c.args.s.small)

pub push-requires-then-apart-2 : goal.push-requires-then-apart-2
push-requires-then-apart-2 c =
    let w = with_todo (pushed _ _ c.in-Some.ensures.items) c.loop-b.invariant.1 in
    let h = sym c.apart.ensures ∙ c.if-apart.true in
    let m = upper_room _ _ w h in
    let e = as_many c.pop.new.self.items in
    let f = c.push-then-apart.ensures.len in
    (lit< tt, omega arith)

pub loop-b-smaller-then-apart : goal.loop-b-smaller-then-apart
loop-b-smaller-then-apart c =
    let w = with_todo (pushed _ _ c.in-Some.ensures.items) c.loop-b.invariant.1 in
    let h = sym c.apart.ensures ∙ c.if-apart.true in
    let e = as_many c.pop.new.self.items in
    rw (pushed_twice _ _ _ c.push-then-apart.ensures.items c.push-then-apart-2.ensures.items (seen_is c.of.result c.of.ensures) (seen_is c.of-then-apart.result c.of-then-apart.ensures), pushed _ _ c.in-Some.ensures.items) (upper_fewer _ _ w h)

pub loop-b-preserved-then-apart : goal.loop-b-preserved-then-apart
loop-b-preserved-then-apart c =
    let w = with_todo (pushed _ _ c.in-Some.ensures.items) c.loop-b.invariant.1 in
    let h = sym c.apart.ensures ∙ c.if-apart.true in
    (c.loop-b.invariant.0, rw (pushed_twice _ _ _ c.push-then-apart.ensures.items c.push-then-apart-2.ensures.items (seen_is c.of.result c.of.ensures) (seen_is c.of-then-apart.result c.of-then-apart.ensures)) (upper_on _ _ w h))

pub overflow_add-b-else-apart : goal.overflow_add-b-else-apart
overflow_add-b-else-apart c =
    let w = with_todo (pushed _ _ c.in-Some.ensures.items) c.loop-b.invariant.1 in
    let r = rows _ _ w in
    omega (arith, r.inside, c.args.s.small)

pub apart-requires-else-apart : goal.apart-requires-else-apart
apart-requires-else-apart c =
    let w = with_todo (pushed _ _ c.in-Some.ensures.items) c.loop-b.invariant.1 in
    let r = rows _ _ w in
    (c.loop-b.invariant.0 ∙ c.requires.0, r.inside)

pub overflow_add-b-then-apart-2 : goal.overflow_add-b-then-apart-2
overflow_add-b-then-apart-2 c =
    let w = with_todo (pushed _ _ c.in-Some.ensures.items) c.loop-b.invariant.1 in
    let r = rows _ _ w in
    omega (arith, r.inside, c.args.s.small)

pub push-requires-then-apart-2-2 : goal.push-requires-then-apart-2-2
push-requires-then-apart-2-2 c =
    let w = with_todo (pushed _ _ c.in-Some.ensures.items) c.loop-b.invariant.1 in
    let h = sym c.apart-else-apart.ensures ∙ c.if-apart-2.true in
    let m = lower_room _ _ w h in
    let e = as_many c.pop.new.self.items in
    (lit< tt, omega arith)

pub push-requires-then-apart-2-3 : goal.push-requires-then-apart-2-3
push-requires-then-apart-2-3 c =
    let w = with_todo (pushed _ _ c.in-Some.ensures.items) c.loop-b.invariant.1 in
    let h = sym c.apart-else-apart.ensures ∙ c.if-apart-2.true in
    let m = lower_room _ _ w h in
    let e = as_many c.pop.new.self.items in
    let f = c.push-then-apart-2-2.ensures.len in
    (lit< tt, omega arith)

pub loop-b-smaller-then-apart-2 : goal.loop-b-smaller-then-apart-2
loop-b-smaller-then-apart-2 c =
    let w = with_todo (pushed _ _ c.in-Some.ensures.items) c.loop-b.invariant.1 in
    let g = sym c.apart.ensures ∙ c.if-apart.false in
    let h = sym c.apart-else-apart.ensures ∙ c.if-apart-2.true in
    let e = as_many c.pop.new.self.items in
    rw (pushed_twice _ _ _ c.push-then-apart-2-2.ensures.items c.push-then-apart-2-3.ensures.items (seen_is c.of-then-apart-2.result c.of-then-apart-2.ensures) (seen_is c.of-then-apart-2-2.result c.of-then-apart-2-2.ensures), pushed _ _ c.in-Some.ensures.items) (lower_fewer _ _ w h)

pub loop-b-preserved-then-apart-2 : goal.loop-b-preserved-then-apart-2
loop-b-preserved-then-apart-2 c =
    let w = with_todo (pushed _ _ c.in-Some.ensures.items) c.loop-b.invariant.1 in
    let g = sym c.apart.ensures ∙ c.if-apart.false in
    let h = sym c.apart-else-apart.ensures ∙ c.if-apart-2.true in
    (c.loop-b.invariant.0, rw (pushed_twice _ _ _ c.push-then-apart-2-2.ensures.items c.push-then-apart-2-3.ensures.items (seen_is c.of-then-apart-2.result c.of-then-apart-2.ensures) (seen_is c.of-then-apart-2-2.result c.of-then-apart-2-2.ensures)) (lower_on _ _ w g h))

pub exchange_whole-requires : goal.exchange_whole-requires
exchange_whole-requires c =
    let w = with_todo (pushed _ _ c.in-Some.ensures.items) c.loop-b.invariant.1 in
    let r = rows _ _ w in
    (c.loop-b.invariant.0 ∙ c.requires.0, still c.args.s c.requires.1 w.kept, r.inside)

pub loop-b-smaller : goal.loop-b-smaller
loop-b-smaller c =
    let w = with_todo (pushed _ _ c.in-Some.ensures.items) c.loop-b.invariant.1 in
    let e = as_many c.pop.new.self.items in
    rw (pushed _ _ c.in-Some.ensures.items) (whole_fewer _ _ w)

pub loop-b-preserved : goal.loop-b-preserved
loop-b-preserved c =
    let w = with_todo (pushed _ _ c.in-Some.ensures.items) c.loop-b.invariant.1 in
    let g = sym c.apart.ensures ∙ c.if-apart.false in
    let h = sym c.apart-else-apart.ensures ∙ c.if-apart-2.false in
    let y = c.exchange_whole in
    (y.auto.t ∙ c.loop-b.invariant.0, rw c.add-counts.ensures (whole_on _ _ w g h y.ensures.0 y.auto.u y.ensures.1 y.ensures.2))

pub returns : goal.returns
returns c =
    ends (with_todo (none-waiting (search rules)) c.loop-b.invariant.1)
