-- A factor beside a form, and the rows of an exchange. Definitions only. Assumes nothing.
use Rattle.std.specs.Prelude.{◌≡◌, ◌⊎◌, ℕ, ◌+◌, ◌*◌, ◌≤◌, List, length, Float}

-- a factor beside it, or none
pub record Beside (ld n : ℕ) (u : List Float) : Type 0 where
  pub either : (length u ≡ 0) ⊎ (length u ≡ ld * n)

-- n1 rows from row j on and n2 below them, one or two each
pub record Rows (n j n1 n2 : ℕ) : Type 0 where
  pub one1 : 1 ≤ n1
  pub two1 : n1 ≤ 2
  pub one2 : 1 ≤ n2
  pub two2 : n2 ≤ 2
  pub inside : j + n1 + n2 ≤ n
