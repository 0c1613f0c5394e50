-- A list of pairs as the loop takes it: line 12, two numbers at a time, and one pair more. Assumes nothing.
use mathlib.Core.Path.{◌≡◌, refl, sym, ap, ◌∙◌}
use Prim.Native.Nat.{ℕ, ◌+◌, ◌*◌, ◌/◌, ◌%◌, ◌≤◌, ◌<◌}
use native.Mathlib.Omega.{arith}
use mathlib.Core.Bool.{true}
use mathlib.Core.List.{List, [], ◌∷◌}
use lib.ListN.{length, get_or, take, drop}
use lib.Ieee.{Float, binary64}
use borrow.Author.Tests.{eq-eqb, ne_eqb, lt-ltb, le-ltb}
use Rattle.std.proofs.Common.{Result, Ok, Err}
use Rattle.model.specs.Move.{Moved, move_call}
use Rattle.model.specs.Lists.{Pair, pairs, line12, list_line, Listed, written, one_more, in_turn, list_call}
use Rattle.refusal.specs.declared.Refusal.{Refusal}
use Rattle.exchanges.specs.declared.reorder.Ended.{Ended}
use Rattle.lists.specs.View.{moved}

-- the buffers of a list that is accepted
abbrev pub lent : List Float → List Float → List ℕ → Listed
lent t u rs = record { answer = 0; form = t; factor = u; results = rs }

-- ---- line 12, by the code's tests

pub odd : (ms rs : List ℕ) → (length ms % 2 ≡ 0 → ⊥) → line12 ms rs ≡ true
unfolding line12
odd ms rs h = rw (ne_eqb (length ms % 2) 0 h)

pub too_many : (ms rs : List ℕ) → length ms % 2 ≡ 0 → 64 < length ms / 2 → line12 ms rs ≡ true
unfolding line12
too_many ms rs e h = rw (eq-eqb (length ms % 2) 0 e, lt-ltb 64 (length ms / 2) h)

pub too_short : (ms rs : List ℕ) → length ms % 2 ≡ 0 → length ms / 2 ≤ 64 → length rs < 4 * (length ms / 2) → line12 ms rs ≡ true
unfolding line12
too_short ms rs e l h = rw (eq-eqb (length ms % 2) 0 e, le-ltb 64 (length ms / 2) l, lt-ltb (length rs) (4 * (length ms / 2)) h)

module _ (ld n : ℕ) (t u : List Float) (ms rs : List ℕ) where
  pub turned_away : line12 ms rs ≡ true → ◌≡◌ {A = Listed} (record { answer = 12; form = t; factor = u; results = rs }) (list_call binary64 ld n t u ms rs)
  unfolding list_call list_line
  turned_away h = rw h

  pub accepted : length ms % 2 ≡ 0 → length ms / 2 ≤ 64 → 4 * (length ms / 2) ≤ length rs → in_turn binary64 ld n (pairs ms) 0 (lent t u rs) ≡ list_call binary64 ld n t u ms rs
  unfolding list_call list_line line12
  accepted e l h = rw (eq-eqb (length ms % 2) 0 e, le-ltb 64 (length ms / 2) l, le-ltb (length rs) (4 * (length ms / 2)) h)

-- ---- two numbers at a time

pub two_more : (ms : List ℕ) {two rest : List ℕ} → 2 ≤ length ms → two ≡ take 2 ms → rest ≡ drop 2 ms → pairs ms ≡ record { from = get_or two 0 0; to = get_or two 1 0 } ∷ pairs rest
unfolding pairs
two_more [] h a b = absurd (omega arith)
two_more (x ∷ []) h a b = absurd (omega arith)
two_more (x ∷ y ∷ ms) h a b = rw (a, b) refl

pub none_more : (ld n p : ℕ) (ms : List ℕ) (s : Listed) → length ms < 2 → s ≡ in_turn binary64 ld n (pairs ms) p s
unfolding pairs in_turn
none_more ld n p [] s h = refl
none_more ld n p (x ∷ []) s h = refl
none_more ld n p (x ∷ y ∷ ms) s h = absurd (omega arith)

-- ---- one pair more

module _ (ld n p : ℕ) (q : Pair) (t u : List Float) (rs : List ℕ) where
  -- a single call on these buffers, and its numbers written
  from_call : (r : Result Ended Refusal) {t₁ u₁ : List Float} {rs₁ : List ℕ} → moved r t₁ u₁ ≡ move_call binary64 ld n t u q.from q.to → rs₁ ≡ written p (moved r t₁ u₁) rs
      → lent t₁ u₁ rs₁ ≡ one_more binary64 ld n q p (lent t u rs)
  unfolding one_more
  from_call (Ok m) b c = rw c (ap (λ (m : Moved). lent m.form m.factor (written p m rs)) b)
  from_call (Err e) b c = rw c (ap (λ (m : Moved). lent m.form m.factor (written p m rs)) b)

  pub one_pair : (r : Result Ended Refusal) (t₁ u₁ : List Float) (ms rest : List ℕ) {rs₁ : List ℕ} → pairs ms ≡ q ∷ pairs rest → moved r t₁ u₁ ≡ move_call binary64 ld n t u q.from q.to
      → rs₁ ≡ written p (moved r t₁ u₁) rs → in_turn binary64 ld n (pairs rest) (p + 4) (lent t₁ u₁ rs₁) ≡ in_turn binary64 ld n (pairs ms) p (lent t u rs)
  unfolding in_turn
  one_pair r t₁ u₁ ms rest a b c = ap (in_turn binary64 ld n (pairs rest) (p + 4)) (from_call r b c) ∙ sym (ap (λ (qs : List Pair). in_turn binary64 ld n qs p (lent t u rs)) a)
