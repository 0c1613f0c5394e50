-- A line of a column that is read part by part. Assumes nothing.
use Prim.Native.Nat.{ℕ, ◌+◌, ◌≤◌}
use mathlib.Core.Path.{◌≡◌, refl}
use mathlib.Core.Bool.{cond}
use mathlib.Core.List.{List, ◌∷◌}
use native.Mathlib.Omega.{arith}
use lib.ListN.{length, get_or, take, drop}
use lib.Ieee.{Float}
use borrow.Author.Tests.{le-leb}
use Rattle.model.specs.Vectors as Vectors
use Rattle.replay_text.specs.Float.{are_words}
use Rattle.replay_text.specs.declared.outcome.Outcome.{Outcome}
use Rattle.replay_forms.specs.Lines.{column, same_column}
use Rattle.replay_forms.proofs.Parts.{numbers, further, n-at, ld-at, head-at, first, word-at}

module _
    (more : ℕ) (w : List ℕ)
    {a n ld col : ℕ} {w₁ w₂ w₃ vectors rest : List ℕ} {v part : List Float}
    (e₁ : w ≡ a ∷ w₁) (n-is : n ≡ get_or w₁ 0 0) (ld-is : ld ≡ get_or w₁ more 0) (e₂ : w₂ ≡ drop (1 + more) w₁)
    (e₃ : w₂ ≡ col ∷ w₃) (vectors-is : vectors ≡ take a w₃) (rest-is : rest ≡ drop a w₃)
    (v-is : v ≡ numbers vectors) (holds : a ≤ 8320) (fits : 3 + more + a ≤ length w)
    (part-is : part ≡ Vectors.column_of ld n v col)
  where
    at₁ : w₁ ≡ drop 1 w
    at₁ = (first e₁).1

    at₂ : w₂ ≡ drop (2 + more) w
    at₂ = head-at w 1 more at₁ e₂

    at₃ : w₃ ≡ drop (3 + more) w
    at₃ = further w (2 + more) 1 (3 + more) at₂ (first e₃).1 (omega arith)

    rest-at : rest ≡ drop (3 + more + a) w
    rest-at = further w (3 + more) a (3 + more + a) at₃ rest-is refl

    same : are_words part rest ≡ same_column more w a
    unfolding same_column
    same = rw (part-is, n-at w 1 more at₁ n-is, ld-at w 1 more at₁ ld-is, word-at w (2 + more) at₂ e₃, v-is, vectors-is, at₃, rest-at)

    pub column_read : cond (are_words part rest) Outcome.Same Outcome.Differs ≡ column more w
    column_read = rw (← (first e₁).0, le-leb a 8320 holds, le-leb (3 + more + a) (length w) fits, same)
