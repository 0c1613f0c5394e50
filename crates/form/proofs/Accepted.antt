-- The lines of a form, a move and an exchange by the tests that the code makes. Assumes nothing.
use mathlib.Core.Path.{◌≡◌, refl, sym, ap, ◌∙◌}
use Prim.Native.Nat.{ℕ, suc}
use mathlib.Core.Bool.{Bool, true, false, cond}
use mathlib.Core.List.{List, [], ◌∷◌}
use native.Mathlib.Omega.{arith}
use borrow.Author.Tests.{ne_eqb}
use lib.Dec.{eqb}
use lib.Ieee.{Float, binary64}
use Rattle.model.specs.Form.{line2, line17, line3, line4, line5, line6, line7}
use Rattle.model.specs.Exchange.{line8, line9, line10, exchange_line}
use Rattle.model.specs.Move.{move_line}
use Rattle.form.specs.Lines.{size_line, shape_line, further_line, positions_line}

-- ---- tests one after another: the number, one more than k, of the first that applies, and else the rest
abbrev pub chain : List (Bool × ℕ) → ℕ → ℕ
chain [] rest = rest
chain ((b, k) ∷ tests) rest = cond b (suc k) (chain tests rest)

pub onward : (tests : List (Bool × ℕ)) (rest : ℕ) → chain tests rest ≡ cond (eqb (chain tests 0) 0) rest (chain tests 0)
onward [] rest = refl
onward ((true, k) ∷ tests) rest = rw (ne_eqb (suc k) 0 (λ e. absurd (omega arith))) refl
onward ((false, k) ∷ tests) rest = onward tests rest

-- ---- the lines in their order
module _ (ld n : ℕ) (t : List Float) where
  -- with a further buffer, the lines of sizes are told first
  pub further_first : (wrong : Bool) → further_line ld n t wrong ≡ cond (eqb (size_line ld n t) 0) (cond wrong 4 (shape_line ld n t)) (size_line ld n t)
  unfolding further_line size_line shape_line
  further_first wrong = onward ((line2 n, 1) ∷ (line17 ld n, 16) ∷ (line3 ld n t, 2) ∷ []) (cond wrong 4 (cond (line5 binary64 ld n t) 5 (cond (line6 binary64 ld n t) 6 0)))

module _ (ld n : ℕ) (t u : List Float) where
  abbrev of_form : List (Bool × ℕ)
  of_form = (line2 n, 1) ∷ (line17 ld n, 16) ∷ (line3 ld n t, 2) ∷ (line4 ld n u, 3) ∷ (line5 binary64 ld n t, 4) ∷ (line6 binary64 ld n t, 5) ∷ []

  pub move_on : (from to l : ℕ) → l ≡ further_line ld n t (line4 ld n u) → move_line binary64 ld n t u from to ≡ cond (eqb l 0) (positions_line n from to) l
  unfolding move_line further_line positions_line
  move_on from to l e =
      onward of_form (cond (line7 n from) 7 (cond (line7 n to) 7 0))
      ∙ ap (λ (z : ℕ). cond (eqb z 0) (cond (line7 n from) 7 (cond (line7 n to) 7 0)) z) (sym e)

  module _ (j n1 n2 : ℕ) where
    abbrev rest : ℕ
    rest = cond (line7 n j) 7 (cond (line8 n1 n2) 8 (cond (line9 n j n1 n2) 9 (cond (line10 binary64 ld n t j n1 n2) 10 0)))

    pub exchange_on : (l : ℕ) → l ≡ further_line ld n t (line4 ld n u) → exchange_line binary64 ld n t u j n1 n2 ≡ cond (eqb l 0) rest l
    unfolding exchange_line further_line
    exchange_on l e =
        onward of_form rest
        ∙ ap (λ (z : ℕ). cond (eqb z 0) rest z) (sym e)
