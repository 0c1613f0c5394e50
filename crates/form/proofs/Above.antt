-- The block above a row, by what lies across the row's upper edge. Assumes nothing.
use mathlib.Core.Path.{◌≡◌, refl, sym, ◌∙◌}
use mathlib.Core.Bool.{true, ◌&&◌, and-eq-true_iff}
use mathlib.Core.List.{List}
use Prim.Native.Nat.{ℕ, zero, suc, ◌+◌, ◌-◌, ◌≤◌, ◌<◌}
use native.Mathlib.Omega.{arith}
use lib.Dec.{ltb, leb}
use lib.Ieee.{Float, binary64}
use borrow.Author.Tests.{ltb-true, lt-ltb, le-ltb, le-leb, lt-leb}
use Rattle.model.specs.Form.{two_block, nonzero_below}
use Rattle.model.specs.Exchange.{crosses}

module _ (ld n : ℕ) (t : List Float) where
  pub across : (p : ℕ) → p < n → crosses binary64 ld n t p ≡ (ltb 0 p && nonzero_below binary64 ld t (p - 1))
  unfolding crosses two_block
  across zero h = refl
  across (suc p) h =
      let e : suc p - 1 + 1 ≡ suc p = omega arith in
      rw (e, lt-ltb _ _ h)

  edge : (e p : ℕ) → p ≡ e + 1 → ltb 0 e ≡ leb 2 p
  edge zero p x = le-ltb 0 0 (omega arith) ∙ sym (lt-leb 2 p (omega arith))
  edge (suc e) p x = lt-ltb 0 (suc e) (omega arith) ∙ sym (le-leb 2 p (omega arith))

  pub across_above : (p : ℕ) → 0 < p → p ≤ n → crosses binary64 ld n t (p - 1) ≡ (leb 2 p && nonzero_below binary64 ld t (p - 2))
  across_above p h k =
      let d : p - 1 - 1 ≡ p - 2 = omega arith in
      across (p - 1) (omega arith) ∙ rw (edge (p - 1) p (omega arith), d) refl

  pub inside_edge : (e : ℕ) → crosses binary64 ld n t e ≡ true → 0 < e
  unfolding crosses
  inside_edge e h = ltb-true 0 e ((and-eq-true_iff (ltb 0 e) (two_block binary64 ld n t (e - 1))).0 h).0

  pub inside_block : (j : ℕ) → two_block binary64 ld n t j ≡ true → j + 1 < n
  unfolding two_block
  inside_block j h = ltb-true (j + 1) n ((and-eq-true_iff (ltb (j + 1) n) (nonzero_below binary64 ld t j)).0 h).0
