-- What a line of a list of moves at once shows, by the call's definition in model. Definitions only. Assumes nothing.
use Rattle.std.specs.Prelude.{ℕ, ◌+◌, ◌*◌, Bool, ◌&&◌, List, eqb, leb, length, get_or, take, drop}
use Rattle.std.specs.Cmp.Lexicographic.{pointwise}
use Rattle.std.specs.Float.{binary64}
use Rattle.model.specs.Lists as Lists
use Rattle.replay_text.specs.Shown.{judged, from}
use Rattle.replay_text.specs.declared.outcome.Outcome.{Outcome}
use Rattle.replay_forms.specs.Lines as Forms
use Rattle.replay_forms.specs.Lines.{are}

-- so many words are `rest`, k numbers of moves that are given, and a form of a numbers, a factor of b and m results
-- that are given and expected, and a room holds each
unfoldable pub fits : ℕ → ℕ → ℕ → ℕ → ℕ → ℕ → Bool
fits words rest a b k m = leb k 512 && leb m 512 && Forms.fits words (rest + k + 2 * m) 0 a b

-- the call of a line with these lengths; expected are its answer, form, factor and results
unfoldable pub same_list : ℕ → List ℕ → ℕ → ℕ → ℕ → ℕ → Bool
same_list more w a b k m =
    let i = 5 + more + k in
    let r = Lists.list_call binary64 (get_or w (4 + more) 0) (get_or w 4 0) (from w i a) (from w (i + a) b) (take k (drop (5 + more) w)) (take m (drop (i + a + b) w)) in
    let e = i + a + b + m in
    eqb r.answer (get_or w e 0) && are w (e + 1) a r.form && are w (e + 1 + a) b r.factor && pointwise eqb r.results (take m (drop (e + 1 + a + b) w))

-- the four lengths stand first
abbrev pub reorder_schur_list : ℕ → List ℕ → Outcome
reorder_schur_list more w =
    let a = get_or w 0 0 in let b = get_or w 1 0 in let k = get_or w 2 0 in let m = get_or w 3 0 in judged (fits (length w) (6 + more) a b k m) (same_list more w a b k m)
