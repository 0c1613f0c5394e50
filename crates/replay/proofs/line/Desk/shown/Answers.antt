-- `replay::line::Desk::shown` meets its contract, by what was found of its words. Assumes nothing.
use Rattle.std.proofs.Common.{◌≡◌, ◌∙◌, arith}
use Rattle.replay.proofs.Replayed.{words_room, index_inside, without_words, without_index, without_call, as_shown}
use Rattle.replay.proofs.line.Desk.shown.Goals as goal

pub returns-in_err-n-clause-value : goal.returns-in_err-n-clause-value
returns-in_err-n-clause-value c =
    c.from_residual.ensures ∙ without_words _ _ c.words.new.out _ _ _ c.call_named-call.ensures c.words.ensures c.in_err-n.was

pub returns-in_err-given-clause-value : goal.returns-in_err-given-clause-value
returns-in_err-given-clause-value c =
    let room = words_room _ _ c.words.new.out _ _ _ c.words.ensures c.in_ok-n.was in
    let h : c.in_ok-n.n ≡ 0 = grind (arith, c.in_err-given.ensures.lookup, room, c.words.auto.out) in
    c.from_residual-in_err-given.ensures ∙ without_index _ _ c.words.new.out _ _ _ c.call_named-call.ensures c.words.ensures _ c.in_ok-n.was h

pub returns-in_err-call-clause-value : goal.returns-in_err-call-clause-value
returns-in_err-call-clause-value c =
    c.from_residual-in_err-call.ensures ∙ without_call _ _ c.words.new.out _ _ _ c.call_named-call.ensures c.words.ensures c.in_err-call.was

pub returns-clause-value : goal.returns-clause-value
returns-clause-value c =
    let part = c.in_ok-given.ensures.lookup.0 in
    as_shown _ _ c.words.new.out _ _ _ c.call_named-call.ensures c.words.ensures _ _ c.in_ok-call.was c.in_ok-n.was part.0 _ (rw (← part.2) c.run.ensures)

pub returns-clause-index : goal.returns-clause-index
returns-clause-index c =
    index_inside _ _ c.words.new.out _ _ _ c.words.ensures c.in_ok-n.was c.in_ok-given.ensures.lookup.0.0
