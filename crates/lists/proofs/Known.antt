-- What is known of form and factor before a pair tells the line of its move, and no move changes it. Assumes nothing.
use mathlib.Core.Path.{◌≡◌, refl, sym, ap, ◌∙◌}
use Prim.Native.Nat.{ℕ}
use mathlib.Core.Bool.{cond}
use mathlib.Core.List.{List}
use lib.Dec.{eqb}
use lib.ListN.{length}
use lib.Ieee.{Float, binary64}
use Rattle.std.proofs.Common.{Result, Ok, Err, IfOk}
use Rattle.model.specs.Form.{line4}
use Rattle.model.specs.Move.{Moved, move_line, move_call}
use Rattle.laws_lists.specs.Turns.{lent_line, pair_line}
use Rattle.laws_lists.proofs.Turns.{line_of_pair, lent_stays}
use Rattle.refusal.specs.Line.{line, answer}
use Rattle.refusal.specs.declared.Refusal.{Refusal}
use Rattle.refusal.proofs.Told.{told}
use Rattle.form.specs.Lines.{further_line, positions_line}
use Rattle.form.specs.declared.shape.Shape.{Shape}
use Rattle.form.specs.Shaped.{IsOf, Beside}
use Rattle.form.proofs.Runs.{still}
use Rattle.exchanges.specs.declared.reorder.Ended.{Ended}
use Rattle.lists.specs.View.{moved}
use Rattle.lists.specs.Known.{Known}

-- before the first pair
pub known_first : {form : Result Shape Refusal} {n ld : ℕ} {t u : List Float} → answer form ≡ further_line ld n t (line4 ld n u)
    → IfOk form (λ (s : Shape). IsOf s n ld t × Beside s u) → Known form n ld t u
unfolding further_line lent_line
known_first l h = record { line = l; shape = h }

-- a move whose line is told
pub turned_away : (n ld : ℕ) {t u : List Float} (from to : ℕ) (e : Refusal) → move_line binary64 ld n t u from to ≡ line e → moved (Err e) t u ≡ move_call binary64 ld n t u from to
unfolding move_call
turned_away n ld from to e h = rw (h, told e)

-- the line of a pair
pub line_known : {form : Result Shape Refusal} {n ld : ℕ} {t u : List Float} → Known form n ld t u → (from to : ℕ)
    → move_line binary64 ld n t u from to ≡ cond (eqb (answer form) 0) (positions_line n from to) (answer form)
unfolding pair_line positions_line
line_known {form} {n} {ld} {t} {u} k from to = line_of_pair binary64 ld n t u from to ∙ rw k.line

-- a form or a factor that is turned away, for every pair
pub never : {form : Result Shape Refusal} {n ld : ℕ} {t u : List Float} → Known form n ld t u → (from to : ℕ) (e : Refusal) → form ≡ Err e
    → moved (Err e) t u ≡ move_call binary64 ld n t u from to
never {form} {n} {ld} k from to e x = turned_away n ld from to e (line_known k from to ∙ rw (x, told e))

-- line 7 alone
pub by_position : {form : Result Shape Refusal} {n ld : ℕ} {t u : List Float} → Known form n ld t u → (from to : ℕ) (s : Shape) → form ≡ Ok s
    → (IsOf s n ld t × Beside s u) × (move_line binary64 ld n t u from to ≡ positions_line s.n from to)
by_position k from to s x =
    let h = rw x at k.shape in
    (h, line_known k from to ∙ rw (x, h.0.rows))

-- after a move
pub known_on : {form : Result Shape Refusal} {n ld : ℕ} {t u t₁ u₁ : List Float} (r : Result Ended Refusal) (from to : ℕ) → Known form n ld t u
    → moved r t₁ u₁ ≡ move_call binary64 ld n t u from to → length t₁ ≡ length t → length u₁ ≡ length u → Known form n ld t₁ u₁
known_on {form} {n} {ld} {t} {u} {t₁} {u₁} r from to k e a b = record { line = k.line ∙ sym (lent_stays binary64 ld n t u from to) ∙ x; shape = on form k.shape }
  where
    both : (r : Result Ended Refusal) → lent_line binary64 ld n (moved r t₁ u₁).form (moved r t₁ u₁).factor ≡ lent_line binary64 ld n t₁ u₁
    both (Ok m) = refl
    both (Err e) = refl

    m : Moved
    m = move_call binary64 ld n t u from to

    x : lent_line binary64 ld n m.form m.factor ≡ lent_line binary64 ld n t₁ u₁
    x = ap (λ (m : Moved). lent_line binary64 ld n m.form m.factor) (sym e) ∙ both r

    on : (form : Result Shape Refusal) → IfOk form (λ (s : Shape). IsOf s n ld t × Beside s u) → IfOk form (λ (s : Shape). IsOf s n ld t₁ × Beside s u₁)
    on (Ok s) (h, g) = (record { rows = h.rows; stride = h.stride; holds = a ∙ h.holds }, still s g b)
    on (Err e) h = h
