-- `replay_calls::calls::on_tail` meets its contract. Assumes nothing.
use native.Mathlib.Omega.{arith}
use Rattle.replay_calls.proofs.Tail.{tail_read}
use Rattle.replay_calls.proofs.calls.on_tail.Goals as goal

pub returns : goal.returns
returns c =
    let x = c.in_ok-n.ensures.cases in
    let y = c.in_ok-given.ensures.cases in
    let z = c.in_ok-answer.ensures.cases in
    rw (c.is_word-head.ensures, c.is_word-tau.ensures, c.is_word-inv.ensures, c.is_word-norm.ensures, c.are_words-tail.ensures)
    (tail_read c.args.w.now _ _ x.0 x.1 c.places-places.ensures.0 y.1 y.2 z.0 z.1 c.if-n-gt66.false c.if-expected-places.false (omega (arith, x.2, y.4, z.2, c.if-expected-places.false)) c.float_of.ensures c.floats_of.ensures c.make_householder_in_place-made.ensures _ c.unwrap_or-r.ensures _ c.number.ensures)
