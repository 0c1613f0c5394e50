-- `replay_text::word::words` meets its contract. The invariant: the words from the place on, after those that `out` holds, are all words. Assumes nothing.
use Rattle.std.proofs.Common.{◌≡◌, ◌+◌, ◌-◌, ◌*◌, ◌/◌, ◌<◌, length, sym, ◌∙◌, arith, rules, length-set}
use Rattle.replay_text.proofs.Places.{place_within, place_word, bad, more, last}
use Rattle.replay_text.proofs.word.words.Goals as goal

pub returns-in_err-out : goal.returns-in_err-out
returns-in_err-out c =
    let l = c.in_ok-get.ensures.lookup.0 in
    let n : c.loop-n.n < length c.in_ok-get.field-0.now / 17 = omega (arith, c.as_chunks.ensures.front_len) in
    let in_line = place_within c.args.s.now _ _ c.args.from c.loop-n.n l.2 l.3 c.as_chunks.ensures.front n in
    let is = place_word c.args.s.now _ _ c.args.from c.loop-n.n l.2 l.3 c.as_chunks.ensures.front n in
    rw c.from_residual-in_err-out.ensures (sym (bad _ _ _ _ (length c.loop-n.out - c.loop-n.n) (omega (arith, in_line)) (sym is ∙ sym c.word.ensures ∙ c.in_err-out.was)) ∙ c.loop-n.invariant.2)

pub loop-n-preserved : goal.loop-n-preserved
loop-n-preserved c =
    let l = c.in_ok-get.ensures.lookup.0 in
    let n : c.loop-n.n < length c.in_ok-get.field-0.now / 17 = omega (arith, c.as_chunks.ensures.front_len) in
    let in_line = place_within c.args.s.now _ _ c.args.from c.loop-n.n l.2 l.3 c.as_chunks.ensures.front n in
    let is = place_word c.args.s.now _ _ c.args.from c.loop-n.n l.2 l.3 c.as_chunks.ensures.front n in
    let room : c.loop-n.n < length c.loop-n.out = omega arith in
    let next = more _ c.loop-n.out _ _ (omega (arith, in_line)) room _ (sym is ∙ sym c.word.ensures ∙ c.in_ok-out.was) in
    let e : c.args.from + 17 * (c.loop-n.n + 1) ≡ c.args.from + 17 * c.loop-n.n + 17 = omega arith in
    (simp length-set (omega arith), search rules, rw e (next ∙ c.loop-n.invariant.2))

pub returns : goal.returns
returns c =
    let parts = c.as_chunks.ensures in
    rw (c.then_some.ensures, c.is_empty.ensures)
    (last c.args.s.now c.loop-n.out (c.args.from + 17 * c.loop-n.n) c.loop-n.n _ _ _ (omega (arith, parts.front_len, parts.back_len, c.in_ok-get.ensures.lookup.0.3)) (omega (arith, parts.back_len)) (omega arith)
    ∙ c.loop-n.invariant.2)
