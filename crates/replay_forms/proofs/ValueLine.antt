-- A line of block values that is read part by part. Assumes nothing.
use Prim.Native.Nat.{ℕ, ◌+◌, ◌*◌, ◌≤◌}
use mathlib.Core.Path.{◌≡◌, refl, ap, ◌∙◌}
use mathlib.Core.Bool.{◌&&◌, cond}
use mathlib.Core.List.{List, ◌∷◌}
use lib.Dec.{eqb}
use lib.ListN.{length, get_or, take, drop}
use lib.Ieee.{Float}
use Rattle.std.specs.Float.{binary64}
use Rattle.model.specs.Values as Values
use Rattle.replay_text.specs.Float.{are_words}
use Rattle.replay_text.specs.declared.outcome.Outcome.{Outcome}
use Rattle.replay_forms.specs.Lines.{on_values, same_values}
use Rattle.replay_forms.proofs.Parts.{numbers, fit, further, to_end, n-at, ld-at, head-at, first-buffer, second-buffer, after-buffers, word-at, after-word}

module _
    (more : ℕ) (w : List ℕ) (read : Values.Reading)
    {a b k n ld told x : ℕ} {w₁ w₂ form w₃ real w₄ imaginary w₅ w₆ after rest : List ℕ} {t re im re' im' : List Float}
    (a-is : a ≡ get_or w 0 0) (b-is : b ≡ get_or w 1 0) (k-is : k ≡ get_or w 2 0)
    (e₁ : w₁ ≡ drop 3 w) (n-is : n ≡ get_or w₁ 0 0) (ld-is : ld ≡ get_or w₁ more 0) (e₂ : w₂ ≡ drop (1 + more) w₁)
    (form-is : form ≡ take a w₂) (e₃ : w₃ ≡ drop a w₂)
    (real-is : real ≡ take b w₃) (e₄ : w₄ ≡ drop b w₃)
    (imaginary-is : imaginary ≡ take k w₄) (e₅ : w₅ ≡ drop k w₄)
    (e₆ : w₅ ≡ told ∷ w₆)
    (after-is : after ≡ take b w₆) (e₇ : rest ≡ drop b w₆) (all : length rest ≡ k)
    (t-is : t ≡ numbers form) (re-is : re ≡ numbers real) (im-is : im ≡ numbers imaginary)
    (form-holds : a ≤ 8320) (real-holds : b ≤ 8320) (imaginary-holds : k ≤ 8320) (fits : length w ≡ 5 + more + a + 2 * (b + k))
    (answered : record { answer = x; parts = record { re = re'; im = im' } } ≡ Values.values_read binary64 read ld n t (record { re = re; im = im }))
  where
    at₂ : w₂ ≡ drop (4 + more) w
    at₂ = head-at w 3 more e₁ e₂

    at₄ : w₄ ≡ drop (4 + more + a + b) w
    at₄ = after-buffers w (4 + more) a b at₂ form-is e₃ real-is e₄

    at₅ : w₅ ≡ drop (4 + more + a + b + k) w
    at₅ = further w (4 + more + a + b) k (4 + more + a + b + k) at₄ e₅ refl

    at₆ : w₆ ≡ drop (4 + more + a + b + k + 1) w
    at₆ = after-word w (4 + more + a + b + k) at₅ e₆

    same : (eqb x told && are_words re' after && are_words im' rest) ≡ same_values read more w a b k
    unfolding same_values
    same =
        ap (λ (r : Values.BlockValues). eqb r.answer told && are_words r.parts.re after && are_words r.parts.im rest) answered
        ∙ rw (
          n-at w 3 more e₁ n-is,
          ld-at w 3 more e₁ ld-is,
          t-is,
          re-is,
          im-is,
          first-buffer w (4 + more) a b at₂ form-is e₃ real-is e₄,
          second-buffer w (4 + more) a b at₂ form-is e₃ real-is e₄,
          imaginary-is,
          word-at w (4 + more + a + b + k) at₅ e₆,
          after-is,
          to_end w (4 + more + a + b + k + 1) b k at₆ e₇ all,
          at₄,
          at₆,
        )

    pub values_read : cond (eqb x told && are_words re' after && are_words im' rest) Outcome.Same Outcome.Differs ≡ on_values read more w
    values_read = rw (← a-is, ← b-is, ← k-is, fit (length w) (5 + more) a b k form-holds real-holds imaginary-holds fits, same)
