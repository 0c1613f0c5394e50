-- A line of vectors that is read part by part. Assumes nothing.
use Prim.Native.Nat.{ℕ, ◌+◌, ◌*◌, ◌≤◌}
use mathlib.Core.Path.{◌≡◌, ap, ◌∙◌}
use mathlib.Core.Bool.{◌&&◌, cond}
use mathlib.Core.List.{List, ◌∷◌}
use native.Mathlib.Omega.{arith}
use lib.Dec.{eqb}
use lib.ListN.{length, get_or, take, drop}
use lib.Ieee.{Float}
use Rattle.std.specs.Float.{binary64}
use Rattle.model.specs.Vectors as Vectors
use Rattle.replay_text.specs.Float.{are_words}
use Rattle.replay_text.specs.declared.outcome.Outcome.{Outcome}
use Rattle.replay_forms.specs.Lines.{evd_from_real_schur, same_vectors}
use Rattle.replay_forms.proofs.Parts.{numbers, fit, to_end, n-at, ld-at, head-at, first-buffer, second-buffer, after-buffers, first, word-at}

module _
    (more : ℕ) (w : List ℕ)
    {a b n ld told x : ℕ} {w₁ w₂ form w₃ lent w₄ rest : List ℕ} {t v v' : List Float}
    (a-is : a ≡ get_or w 0 0) (b-is : b ≡ get_or w 1 0)
    (e₁ : w₁ ≡ drop 2 w) (n-is : n ≡ get_or w₁ 0 0) (ld-is : ld ≡ get_or w₁ more 0) (e₂ : w₂ ≡ drop (1 + more) w₁)
    (form-is : form ≡ take a w₂) (e₃ : w₃ ≡ drop a w₂)
    (lent-is : lent ≡ take b w₃) (e₄ : w₄ ≡ drop b w₃)
    (e₅ : w₄ ≡ told ∷ rest) (all : length rest ≡ b)
    (t-is : t ≡ numbers form) (v-is : v ≡ numbers lent)
    (form-holds : a ≤ 8320) (lent-holds : b ≤ 8320) (fits : length w ≡ 4 + more + a + 2 * (b + 0))
    (answered : record { answer = x; v = v' } ≡ Vectors.evd_from_real_schur binary64 ld n t v)
  where
    at₂ : w₂ ≡ drop (3 + more) w
    at₂ = head-at w 2 more e₁ e₂

    at₄ : w₄ ≡ drop (3 + more + a + b) w
    at₄ = after-buffers w (3 + more) a b at₂ form-is e₃ lent-is e₄

    same : (eqb x told && are_words v' rest) ≡ same_vectors more w a b
    unfolding same_vectors
    same =
        ap (λ (r : Vectors.Vectors). eqb r.answer told && are_words r.v rest) answered
        ∙ rw (
          n-at w 2 more e₁ n-is,
          ld-at w 2 more e₁ ld-is,
          t-is,
          v-is,
          first-buffer w (3 + more) a b at₂ form-is e₃ lent-is e₄,
          second-buffer w (3 + more) a b at₂ form-is e₃ lent-is e₄,
          word-at w (3 + more + a + b) at₄ e₅,
          to_end w (3 + more + a + b) 1 b at₄ (first e₅).1 all,
        )

    pub vectors_read : cond (eqb x told && are_words v' rest) Outcome.Same Outcome.Differs ≡ evd_from_real_schur more w
    vectors_read = rw (← a-is, ← b-is, fit (length w) (4 + more) a b 0 form-holds lent-holds (omega arith) fits, same)
