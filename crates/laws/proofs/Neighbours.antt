-- Where a number is compared with the middles of a value and its two neighbours in a row of values, it is compared with those of the value and any other of the row. Assumes nothing.
use mathlib.Core.Path.{ap}
use mathlib.Core.Logic.{inl, inr}
use Prim.Native.Nat.{ℕ, ◌+◌, ◌-◌, ◌≤◌, ◌<◌}
use native.Mathlib.Nat.{le_of_lt, le_of_eq, mul-le-mul, eq-or-lt_of_le}
use native.Mathlib.Omega.{arith}
use Rattle.laws.specs.RootNearest.{square}

pub square_mono : (a b : ℕ) → a ≤ b → square a ≤ square b
square_mono a b h = mul-le-mul h h

pub square_lt : (a b : ℕ) → a < b → square a < square b
square_lt a b l = let x = square_mono (a + 1) b (omega arith) in omega arith

-- v b is the value at place b, and the values increase below the place `top`
module _ (v : ℕ → ℕ) (top : ℕ) (order : (b c : ℕ) → b < c → c < top → v b < v c) where
  no_less : (c d : ℕ) → c ≤ d → d < top → v c ≤ v d
  no_less c d l i = elim (eq-or-lt_of_le l) [ inl e ↦ le_of_eq (ap v e) | inr g ↦ le_of_lt (order c d g i) ]

  pub any_smaller : (c r : ℕ) → c < r → r ≤ top → square (v c + v r) ≤ square (v (r - 1) + v r)
  any_smaller c r l m = let g = no_less c (r - 1) (omega arith) (omega arith) in square_mono (v c + v r) (v (r - 1) + v r) (omega arith)

  pub any_larger : (c r : ℕ) → r < c → c < top → square (v r + v (r + 1)) ≤ square (v r + v c)
  any_larger c r l m = let g = no_less (r + 1) c (omega arith) m in square_mono (v r + v (r + 1)) (v r + v c) (omega arith)

  pub any_negative : (x r : ℕ) → square (v r - x) ≤ square (v (r - 1) + v r)
  any_negative x r = square_mono (v r - x) (v (r - 1) + v r) (omega arith)
