-- `sheet_text::sheet::run` meets its contract. Assumes nothing.
use Rattle.std.proofs.Common.{◌≡◌, List, ℕ, Float, Ok, Err, refl, ap, ap₂, ◌∙◌, rules}
use lib.ListN.{length-map}
use lib.Ieee.{binary64, of_bits}
use Rattle.model.specs.Move as Move
use Rattle.model.specs.Move.{move_call}
use Rattle.model.specs.Text.{numbers, word_of, words_of, answer_line, accepted, printed_move}
use Rattle.refusal.specs.Line.{line}
use Rattle.refusal.specs.declared.Refusal.{Refusal}
use Rattle.refusal.proofs.Told.{told}
use Rattle.schur.specs.View.{moved}
use Rattle.schur.specs.declared.reorder.Moved.{Moved}
use Rattle.sheet_words.proofs.Put.{as_list}
use Rattle.sheet_text.proofs.Whole.{front}
use Rattle.sheet_text.proofs.sheet.run.Goals as goal

turned_away : (e : Refusal) (x y : List Float) → answer_line (line e) ≡ printed_move (moved (Err e) x y)
unfolding printed_move
turned_away e x y = rw (told e)

made : (m : Moved) (x y : List Float) (t u : List ℕ) → t ≡ words_of x → u ≡ words_of y → accepted m.landed m.swaps m.declined t u ≡ printed_move (moved (Ok m) x y)
unfolding printed_move
made m x y t u et eu = rw (et, eu)

-- the move is the one that the words ask for
asked_is : (m : Move.Moved) (n from to : ℕ) (x y a b : List Float) → m ≡ move_call binary64 n n x y from to → x ≡ a → y ≡ b → m ≡ move_call binary64 n n a b from to
asked_is m n from to x y a b e ex ey = e ∙ ap₂ (λ (s t : List Float). move_call binary64 n n s t from to) ex ey

pub returns-in_err-m-clause-err : goal.returns-in_err-m-clause-err
returns-in_err-m-clause-err c =
    let r = c.args.r.now in
    let x = front _ (numbers r.form.now) _ _ c.numbers_of.ensures (length-map r.form.now (of_bits binary64)) in
    let y = front _ (numbers r.factor.now) _ _ c.numbers_of-2.ensures (length-map r.factor.now (of_bits binary64)) in
    let m = asked_is _ _ _ _ _ _ _ _ c.in_err-m.ensures x y in
    let e = c.in_err-m.field-0.0 in
    let x : c.from_residual.result ≡ Err e = search rules in
    let t = turned_away e _ _ ∙ ap printed_move m in
    rw x (refl, t)

pub returns-clause-ok : goal.returns-clause-ok
returns-clause-ok c =
    let r = c.args.r.now in
    let x = front _ (numbers r.form.now) _ _ c.numbers_of.ensures (length-map r.form.now (of_bits binary64)) in
    let y = front _ (numbers r.factor.now) _ _ c.numbers_of-2.ensures (length-map r.factor.now (of_bits binary64)) in
    let m = asked_is _ _ _ _ _ _ _ _ c.in_ok-m.ensures x y in
    let t = front _ _ _ _ c.words_of.ensures (length-map _ word_of) in
    let u = front _ _ _ _ c.words_of-2.ensures (length-map _ word_of) in
    (c.put_accepted.ensures.0, as_list _ _ _ _ _ _ (made _ _ _ _ _ t u ∙ ap printed_move m) c.put_accepted.ensures.1)
