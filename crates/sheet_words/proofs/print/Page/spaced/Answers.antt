-- `sheet_words::print::Page::spaced` meets its contract. Assumes nothing.
use Rattle.std.proofs.Common.{◌≡◌, ℕ, List, [], ◌∷◌, ◌++◌, ◌+◌, ◌<◌, length, get_or, take, sym, ap, ◌∙◌, arith, add-one, append-nil, append_assoc}
use lib.Seq.{take-suc}
use Rattle.model.specs.Text.{word, spaced}
use Rattle.sheet_words.proofs.Page.{as_text, puts_then}
use Rattle.sheet_words.proofs.print.Page.spaced.Goals as goal

-- one word more
spaced_snoc : (ws : List ℕ) (w : ℕ) → spaced ws ++ (32 ∷ []) ++ word w ≡ spaced (ws ++ (w ∷ []))
unfolding spaced
spaced_snoc [] w = sym (append-nil (32 ∷ word w))
spaced_snoc (v ∷ ws) w = rw (← spaced_snoc ws w) (simp append_assoc)

more : (w : List ℕ) (i : ℕ) → i < length w → spaced (take i w) ++ (32 ∷ []) ++ word (get_or w i 0) ≡ spaced (take (i + 1) w)
more w i h = spaced_snoc (take i w) (get_or w i 0) ∙ ap spaced (rw (add-one i) (sym (take-suc w i 0 h)))

pub loop-word-preserved : goal.loop-word-preserved
loop-word-preserved c =
    let l = c.loop-word in
    (omega arith, as_text (more _ l.word-index c.loop-word-test.true) (puts_then (puts_then l.invariant.1 c.put.ensures) c.word.ensures.1))
