-- `replay_text::float::are_words` meets its contract. Assumes nothing.
use Rattle.std.proofs.Common.{◌≡◌, ℕ, suc, false, ◌&&◌, List, [], ◌∷◌, length, refl, ap, ◌∙◌, ne_eqb, arith, rules, tests}
use mathlib.Core.Bool.{and-false}
use Rattle.std.specs.List.{list_all, zip}
use Rattle.std.proofs.lemmas.Iterator.{YieldsList-from_slice, YieldsList-from_zip}
use Rattle.std.proofs.lemmas.Iterator.Search.{all_from_yields_List}
use lib.Ieee.{Float}
use Rattle.replay_text.specs.Float.{is_word, are_words}
use Rattle.replay_text.proofs.float.are_words.Goals as goal

unlike : (x : List Float) (w : List ℕ) → (length x ≡ length w → ⊥) → false ≡ are_words x w
unfolding are_words
unlike [] [] h = absurd (h refl)
unlike [] (b ∷ w) h = refl
unlike (a ∷ x) [] h = refl
unlike (a ∷ x) (b ∷ w) h = rw (← unlike x w (λ e. h (ap suc e)), and-false)

alike : (x : List Float) (w : List ℕ) → length x ≡ length w → list_all (λ p. is_word p.0 p.1) (zip x w) ≡ are_words x w
unfolding are_words
alike [] [] h = refl
alike [] (b ∷ w) h = absurd (omega arith)
alike (a ∷ x) [] h = absurd (omega arith)
alike (a ∷ x) (b ∷ w) h = ap (λ r. is_word a b && r) (alike x w (omega arith))

pub returns-then-x-w : goal.returns-then-x-w
returns-then-x-w c =
    let x = c.args.x.now in
    let w = c.args.w.now in
    all_from_yields_List (λ p. is_word p.0 p.1) c.all.new.self _ c.all.result c.all.ensures.ran
    (YieldsList-from_zip (YieldsList-from_slice x cc) (YieldsList-from_slice w cc)) (λ x b q k. search (rules, tests))
    ∙ alike x w c.if-x-w.true

pub returns-else-x-w : goal.returns-else-x-w
returns-else-x-w c = rw (ne_eqb _ _ c.if-x-w.false) (unlike _ _ c.if-x-w.false)
