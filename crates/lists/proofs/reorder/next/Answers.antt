-- `lists::reorder::next` meets its contract. Assumes nothing.
use mathlib.Core.Path.{◌≡◌, sym, ◌∙◌}
use Rattle.std.proofs.Common.{Err, rules}
use Rattle.lists.proofs.Known.{never, by_position, turned_away}
use Rattle.lists.proofs.reorder.next.Goals as goal

pub returns-in_err-s : goal.returns-in_err-s
returns-in_err-s c n ld k =
    let x : c.from_residual.result ≡ Err c.in_err-s.field-0.0 = search rules in
    rw x (never k c.args.from c.args.to c.in_err-s.field-0.0 c.in_err-s.was)

pub returns-in_err-positions : goal.returns-in_err-positions
returns-in_err-positions c n ld k =
    let e = c.in_err-positions.field-0.0 in
    let x : c.from_residual-in_err-positions.result ≡ Err e = search rules in
    let b = by_position k c.args.from c.args.to c.in_ok-s.s c.in_ok-s.was in
    rw x (turned_away n ld c.args.from c.args.to e (b.1 ∙ sym c.in_err-positions.ensures.line))

pub returns : goal.returns
returns c n ld k =
    let b = by_position k c.args.from c.args.to c.in_ok-s.s c.in_ok-s.was in
    c.reorder.ensures n ld b.0.0 (c.in_ok-positions.ensures.line ∙ sym b.1)
