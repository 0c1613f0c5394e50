-- `sheet_words::print::RefSliceU64Says::print` meets its contract: the first word, then the others, a space before each. Assumes nothing.
use Rattle.std.proofs.Common.{◌≡◌, ℕ, List, [], ◌∷◌, ◌++◌, ◌-◌, ◌≤◌, ◌<◌, length, get_or, take, drop, refl, arith}
use lib.Seq.{take_all}
use Rattle.model.specs.Text.{word, spaced, words}
use Rattle.sheet_words.proofs.Page.{as_text, puts_none, puts_then}
use Rattle.sheet_words.proofs.print.RefSliceU64Says.print.Goals as goal

none : (w : List ℕ) → length w < 1 → [] ≡ words w
unfolding words
none [] h = refl
none (x ∷ w) h = absurd (omega arith)

first : (w : List ℕ) → 1 ≤ length w → word (get_or w 0 0) ++ spaced (take (length w - 1) (drop 1 w)) ≡ words w
unfolding words
first [] h = absurd (omega arith)
first (x ∷ w) h =
    let l : length w ≤ length (x ∷ w) - 1 = omega arith in
    rw (take_all (length (x ∷ w) - 1) w l)

others : (w : List ℕ) → 1 ≤ length w → length (take (length w - 1) (drop 1 w)) ≡ length w - 1
others [] h = absurd (omega arith)
others (x ∷ w) h =
    let l : length w ≤ length (x ∷ w) - 1 = omega arith in
    rw (take_all (length (x ∷ w) - 1) w l) (omega arith)

pub returns-in_default : goal.returns-in_default
returns-in_default c = (omega arith, as_text (none _ c.in_default.len_below) (puts_none (omega arith)))

pub returns-in-len1-up : goal.returns-in-len1-up
returns-in-len1-up c =
    let l = c.in-len1-up.len_at_least in
    (omega (arith, others c.args.self.now l), as_text (first _ l) (puts_then c.word.ensures.1 c.spaced.ensures.1))
