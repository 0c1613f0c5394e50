-- A line of a list of moves that is read part by part. Assumes nothing.
use Prim.Native.Nat.{ℕ, ◌+◌, ◌*◌, ◌≤◌}
use mathlib.Core.Path.{◌≡◌, refl, ap, ◌∙◌}
use mathlib.Core.Bool.{◌&&◌, true, cond}
use mathlib.Core.List.{List, ◌∷◌}
use native.Mathlib.Omega.{arith}
use lib.Dec.{eqb}
use lib.ListN.{length, get_or, take, drop}
use lib.Ieee.{Float}
use borrow.Author.Tests.{le-leb}
use Rattle.std.specs.Cmp.Lexicographic.{pointwise}
use Rattle.std.specs.Float.{binary64}
use Rattle.model.specs.Lists as Lists
use Rattle.replay_text.specs.Float.{are_words}
use Rattle.replay_text.specs.declared.outcome.Outcome.{Outcome}
use Rattle.replay_forms.proofs.Parts.{numbers, fit, further, to_end, n-at, ld-at, head-at, first-buffer, second-buffer, after-buffers, word-at, after-word}
use Rattle.replay_lists.specs.Lines.{fits, same_list, reorder_schur_list}

fit_list : (words rest a b k m : ℕ) → a ≤ 8320 → b ≤ 8320 → k ≤ 512 → m ≤ 512 → words ≡ rest + k + 2 * (a + b + m) → fits words rest a b k m ≡ true
unfolding fits
fit_list words rest a b k m h i j l e = rw (le-leb k 512 j, le-leb m 512 l, fit words (rest + k + 2 * m) 0 a b (omega arith) h i (omega arith))

module _
    (more : ℕ) (w : List ℕ)
    {a b k m n ld told x : ℕ} {w₁ w₂ moves w₃ form w₄ factor w₅ lent w₆ w₇ form_after w₈ factor_after rest ms rs rs' : List ℕ} {t u t' u' : List Float}
    (a-is : a ≡ get_or w 0 0) (b-is : b ≡ get_or w 1 0) (k-is : k ≡ get_or w 2 0) (m-is : m ≡ get_or w 3 0)
    (e₁ : w₁ ≡ drop 4 w) (n-is : n ≡ get_or w₁ 0 0) (ld-is : ld ≡ get_or w₁ more 0) (e₂ : w₂ ≡ drop (1 + more) w₁)
    (moves-is : moves ≡ take k w₂) (e₃ : w₃ ≡ drop k w₂)
    (form-is : form ≡ take a w₃) (e₄ : w₄ ≡ drop a w₃)
    (factor-is : factor ≡ take b w₄) (e₅ : w₅ ≡ drop b w₄)
    (lent-is : lent ≡ take m w₅) (e₆ : w₆ ≡ drop m w₅)
    (e₇ : w₆ ≡ told ∷ w₇)
    (form_after-is : form_after ≡ take a w₇) (e₈ : w₈ ≡ drop a w₇)
    (factor_after-is : factor_after ≡ take b w₈) (e₉ : rest ≡ drop b w₈) (all : length rest ≡ m)
    (t-is : t ≡ numbers form) (u-is : u ≡ numbers factor) (ms-is : ms ≡ moves) (rs-is : rs ≡ lent)
    (form-holds : a ≤ 8320) (factor-holds : b ≤ 8320) (moves-hold : k ≤ 512) (results-hold : m ≤ 512)
    (fits : length w ≡ 6 + more + k + 2 * (a + b + m))
    (answered : record { answer = x; form = t'; factor = u'; results = rs' } ≡ Lists.list_call binary64 ld n t u ms rs)
  where
    at₂ : w₂ ≡ drop (5 + more) w
    at₂ = head-at w 4 more e₁ e₂

    at₃ : w₃ ≡ drop (5 + more + k) w
    at₃ = further w (5 + more) k (5 + more + k) at₂ e₃ refl

    at₅ : w₅ ≡ drop (5 + more + k + a + b) w
    at₅ = after-buffers w (5 + more + k) a b at₃ form-is e₄ factor-is e₅

    at₆ : w₆ ≡ drop (5 + more + k + a + b + m) w
    at₆ = further w (5 + more + k + a + b) m (5 + more + k + a + b + m) at₅ e₆ refl

    at₇ : w₇ ≡ drop (5 + more + k + a + b + m + 1) w
    at₇ = after-word w (5 + more + k + a + b + m) at₆ e₇

    at₈ : w₈ ≡ drop (5 + more + k + a + b + m + 1 + a) w
    at₈ = further w (5 + more + k + a + b + m + 1) a (5 + more + k + a + b + m + 1 + a) at₇ e₈ refl

    same : (eqb x told && are_words t' form_after && are_words u' factor_after && pointwise eqb rs' rest) ≡ same_list more w a b k m
    unfolding same_list
    same =
        ap (λ (r : Lists.Listed). eqb r.answer told && are_words r.form form_after && are_words r.factor factor_after && pointwise eqb r.results rest) answered
        ∙ rw (
          n-at w 4 more e₁ n-is,
          ld-at w 4 more e₁ ld-is,
          t-is,
          u-is,
          ms-is,
          rs-is,
          moves-is,
          first-buffer w (5 + more + k) a b at₃ form-is e₄ factor-is e₅,
          second-buffer w (5 + more + k) a b at₃ form-is e₄ factor-is e₅,
          lent-is,
          word-at w (5 + more + k + a + b + m) at₆ e₇,
          first-buffer w (5 + more + k + a + b + m + 1) a b at₇ form_after-is e₈ factor_after-is e₉,
          second-buffer w (5 + more + k + a + b + m + 1) a b at₇ form_after-is e₈ factor_after-is e₉,
          to_end w (5 + more + k + a + b + m + 1 + a) b m at₈ e₉ all,
          at₂,
          at₅,
        )

    pub list_read : cond (eqb x told && are_words t' form_after && are_words u' factor_after && pointwise eqb rs' rest) Outcome.Same Outcome.Differs ≡ reorder_schur_list more w
    list_read = rw (← a-is, ← b-is, ← k-is, ← m-is, fit_list (length w) (6 + more) a b k m form-holds factor-holds moves-hold results-hold fits, same)
