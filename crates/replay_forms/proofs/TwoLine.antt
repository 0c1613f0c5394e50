-- A line on a form and a factor that is read part by part. Assumes nothing.
use Prim.Native.Nat.{ℕ, ◌+◌, ◌*◌, ◌≤◌}
use mathlib.Core.Path.{◌≡◌, refl, ap, ◌∙◌}
use mathlib.Core.Bool.{◌&&◌, cond}
use mathlib.Core.List.{List}
use native.Mathlib.Omega.{arith}
use lib.Dec.{eqb}
use lib.ListN.{length, get_or, take, drop}
use lib.Ieee.{Float}
use Rattle.std.specs.Cmp.Lexicographic.{pointwise}
use Rattle.replay_text.specs.Float.{are_words}
use Rattle.replay_text.specs.declared.outcome.Outcome.{Outcome}
use Rattle.replay_forms.specs.Lines.{Answered, Call, on_two, same_two}
use Rattle.replay_forms.proofs.Parts.{numbers, fit, further, to_end, n-at, ld-at, head-at, first-buffer, second-buffer, after-buffers}

module _
    (call : Call) (g k more : ℕ) (w : List ℕ)
    {a b n ld : ℕ} {w₁ w₂ given w₃ form w₄ factor w₅ told w₆ after rest : List ℕ} {t u t' u' : List Float} {r : List ℕ}
    (a-is : a ≡ get_or w 0 0) (b-is : b ≡ get_or w 1 0)
    (e₁ : w₁ ≡ drop 2 w) (n-is : n ≡ get_or w₁ 0 0) (ld-is : ld ≡ get_or w₁ more 0) (e₂ : w₂ ≡ drop (1 + more) w₁)
    (given-is : given ≡ take g w₂) (e₃ : w₃ ≡ drop g w₂)
    (form-is : form ≡ take a w₃) (e₄ : w₄ ≡ drop a w₃)
    (factor-is : factor ≡ take b w₄) (e₅ : w₅ ≡ drop b w₄)
    (told-is : told ≡ take k w₅) (e₆ : w₆ ≡ drop k w₅)
    (after-is : after ≡ take a w₆) (e₇ : rest ≡ drop a w₆) (all : length rest ≡ b)
    (t-is : t ≡ numbers form) (u-is : u ≡ numbers factor)
    (form-holds : a ≤ 8320) (factor-holds : b ≤ 8320) (fits : length w ≡ 3 + more + g + k + 0 + 2 * (a + b))
    (answered : record { numbers = r; form = t'; factor = u' } ≡ call ld n given t u)
  where
    at₂ : w₂ ≡ drop (3 + more) w
    at₂ = head-at w 2 more e₁ e₂

    at₃ : w₃ ≡ drop (3 + more + g) w
    at₃ = further w (3 + more) g (3 + more + g) at₂ e₃ refl

    at₅ : w₅ ≡ drop (3 + more + g + a + b) w
    at₅ = after-buffers w (3 + more + g) a b at₃ form-is e₄ factor-is e₅

    at₆ : w₆ ≡ drop (3 + more + g + a + b + k) w
    at₆ = further w (3 + more + g + a + b) k (3 + more + g + a + b + k) at₅ e₆ refl

    same : (pointwise eqb r told && are_words t' after && are_words u' rest) ≡ same_two call g k more w a b
    unfolding same_two
    same =
        ap (λ (x : Answered). pointwise eqb x.numbers told && are_words x.form after && are_words x.factor rest) answered
        ∙ rw (
          n-at w 2 more e₁ n-is,
          ld-at w 2 more e₁ ld-is,
          t-is,
          u-is,
          given-is,
          first-buffer w (3 + more + g) a b at₃ form-is e₄ factor-is e₅,
          second-buffer w (3 + more + g) a b at₃ form-is e₄ factor-is e₅,
          told-is,
          after-is,
          to_end w (3 + more + g + a + b + k) a b at₆ e₇ all,
          at₂,
          at₅,
          at₆,
        )

    pub two_read : cond (pointwise eqb r told && are_words t' after && are_words u' rest) Outcome.Same Outcome.Differs ≡ on_two call g k more w
    two_read = rw (← a-is, ← b-is, fit (length w) (3 + more + g + k) 0 a b (omega arith) form-holds factor-holds fits, same)
