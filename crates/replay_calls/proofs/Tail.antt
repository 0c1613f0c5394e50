-- The line of a reflection that is read part by part. Assumes nothing.
use Prim.Native.Nat.{ℕ, ◌+◌, ◌*◌, ◌≤◌, ◌<◌}
use native.Mathlib.Omega.{arith}
use mathlib.Core.Path.{◌≡◌, refl, sym, ap, ◌∙◌}
use mathlib.Core.Bool.{◌&&◌, cond}
use mathlib.Core.List.{List, ◌++◌, map}
use lib.Dec.{eqb}
use lib.ListN.{length, get_or, take, drop}
use lib.Seq.{drop-drop, get_or-drop, get_or-take, take_all}
use lib.Ieee.{Float, binary64, of_bits}
use borrow.Author.Tests.{le-leb, eq-eqb}
use Rattle.std.proofs.Common.{Result, Ok, Err}
use Rattle.std.specs.Result.{result_unwrap_or}
use Rattle.model.specs.Householder as Householder
use Rattle.refusal.specs.declared.Refusal.{Refusal}
use Rattle.refusal.specs.Line.{answer}
use Rattle.linalg.specs.declared.householder.Reflection.{Reflection}
use Rattle.linalg.specs.View.{reflected}
use Rattle.replay_text.specs.Float.{is_word, are_words}
use Rattle.replay_text.specs.Shown.{from}
use Rattle.replay_text.specs.declared.outcome.Outcome.{Outcome}
use Rattle.replay_calls.specs.Lines.{places, make_householder_in_place}

-- what is told of a reflection
abbrev told : Result Reflection Refusal → Reflection → List Float → Householder.Reflection
told made r tail =
    record { answer = answer made; head = r.head; tau = r.tau; head_with_beta_inv = r.head_with_beta_inv; norm = r.norm; tail = tail }

-- one that is turned away has zeros
abbrev nothing : Reflection
nothing = record { head = of_bits binary64 0; tau = of_bits binary64 0; head_with_beta_inv = of_bits binary64 0; norm = of_bits binary64 0 }

told-as : (made : Result Reflection Refusal) (tail : List Float) → told made (result_unwrap_or made nothing) tail ≡ reflected made tail
told-as (Ok r) tail = refl
told-as (Err e) tail = refl

module _
    (w : List ℕ) (made : Result Reflection Refusal) (tail : List Float)
    {p : ℕ} {shape w₁ given w₂ five rest : List ℕ} {head : Float} {t : List Float}
    (shape-is : shape ≡ take 2 w) (e₁ : w₁ ≡ drop 2 w) (p-is : p ≡ places (get_or shape 0 0))
    (given-is : given ≡ take p w₁) (e₂ : w₂ ≡ drop p w₁)
    (five-is : five ≡ take 5 w₂) (e₃ : rest ≡ drop 5 w₂)
    (few : get_or shape 0 0 ≤ 66) (whole : length rest ≡ p) (long : length w ≡ 7 + 2 * p)
    (head-is : head ≡ of_bits binary64 (get_or shape 1 0)) (t-is : t ≡ map (of_bits binary64) given)
    (makes : reflected made tail ≡ Householder.make_householder_in_place binary64 head (take (get_or shape 0 0) t))
  where
    n-at : get_or shape 0 0 ≡ get_or w 0 0
    n-at = rw shape-is (get_or-take 2 w 0 0 (omega arith))

    head-at : head ≡ of_bits binary64 (get_or w 1 0)
    head-at = rw (head-is, shape-is, get_or-take 2 w 1 0 (omega arith))

    t-at : t ≡ from w 2 p
    t-at = rw (t-is, given-is, e₁)

    p-at : p ≡ places (get_or w 0 0)
    p-at = p-is ∙ ap places n-at

    at₂ : w₂ ≡ drop (2 + p) w
    at₂ = rw (e₂, e₁, drop-drop p 2 w)

    number-at : (i k : ℕ) → i < 5 → 2 + p + i ≡ k → get_or five i 0 ≡ get_or w k 0
    number-at i k h e = rw (five-is, get_or-take 5 w₂ i 0 h, at₂, get_or-drop (2 + p) w i 0, e)

    rest-at : rest ≡ take p (drop (7 + p) w)
    rest-at =
        let e : rest ≡ drop (7 + p) w = rw (e₃, at₂, drop-drop 5 (2 + p) w) (ap (λ (k : ℕ). drop k w) (omega arith)) in
        e ∙ sym (take_all p (drop (7 + p) w) (rw (← e, whole) (omega arith)))

    pub tail_read : (r : Reflection) → r ≡ result_unwrap_or made nothing → (x : ℕ) → x ≡ answer made
        → cond
        (eqb x (get_or five 0 0) && is_word r.head (get_or five 1 0) && is_word r.tau (get_or five 2 0) && is_word r.head_with_beta_inv (get_or five 3 0)
        && is_word r.norm (get_or five 4 0)
        && are_words (tail ++ drop (get_or shape 0 0) t) rest)
        Outcome.Same
        Outcome.Differs
        ≡ make_householder_in_place w
    tail_read r r-is x x-is =
        rw (r-is, x-is)
        (ap
        (λ (y : Householder.Reflection).
        cond
        (eqb y.answer (get_or five 0 0) && is_word y.head (get_or five 1 0) && is_word y.tau (get_or five 2 0) && is_word y.head_with_beta_inv (get_or five 3 0)
        && is_word y.norm (get_or five 4 0)
        && are_words (y.tail ++ drop (get_or shape 0 0) t) rest)
        Outcome.Same
        Outcome.Differs)
        (told-as made tail ∙ makes)
        ∙ rw (
          number-at 0 (2 + p) (omega arith) (omega arith),
          number-at 1 (3 + p) (omega arith) (omega arith),
          number-at 2 (4 + p) (omega arith) (omega arith),
          number-at 3 (5 + p) (omega arith) (omega arith),
          number-at 4 (6 + p) (omega arith) (omega arith),
          rest-at,
          t-at,
          n-at,
          head-at,
          ← p-at,
          le-leb (get_or w 0 0) 66 (rw (← n-at) few),
          eq-eqb (length w) (7 + 2 * p) long,
        ))
