-- `replay_lists::places::are_numbers` meets its contract. Assumes nothing.
use Rattle.std.proofs.Common.{◌≡◌, ℕ, ◌&&◌, List, [], ◌∷◌, eqb, length, refl, ap, ◌∙◌, arith, rules, tests}
use Rattle.std.specs.Cmp.Lexicographic.{pointwise}
use Rattle.std.specs.List.{list_all, zip}
use Rattle.std.proofs.lemmas.Iterator.{YieldsList-from_slice, YieldsList-from_zip}
use Rattle.std.proofs.lemmas.Iterator.Search.{all_from_yields_List}
use Rattle.replay_lists.proofs.places.are_numbers.Goals as goal

alike : (x w : List ℕ) → length x ≡ length w → list_all (λ p. eqb p.0 p.1) (zip x w) ≡ pointwise eqb x w
alike [] [] h = refl
alike [] (b ∷ w) h = absurd (omega arith)
alike (a ∷ x) [] h = absurd (omega arith)
alike (a ∷ x) (b ∷ w) h = ap (λ r. eqb a b && r) (alike x w (omega arith))

pub returns-then-x-w : goal.returns-then-x-w
returns-then-x-w c =
    let x = c.args.x.now in
    let w = c.args.w.now in
    all_from_yields_List (λ p. eqb p.0 p.1) c.all.new.self _ c.all.result c.all.ensures.ran
    (YieldsList-from_zip (YieldsList-from_slice x cc) (YieldsList-from_slice w cc)) (λ x b q k. search (rules, tests))
    ∙ alike x w c.if-x-w.true
