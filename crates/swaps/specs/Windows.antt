-- Windows of n rows and columns by value, column after column. Definitions only. Assumes nothing.
use Rattle.std.specs.Prelude.{ℕ, zero, suc, List, [], get_or, Float}
use Rattle.std.specs.Float.{binary64}
use Rattle.std.specs.Float.Ieee.{mul, div}
use Rattle.model.specs.Arith.{zero_of, ten_of, eps_of, min_positive_of, abs, fmax}
use Rattle.model.specs.Form.{at, entry}
use Rattle.swaps.specs.Lines.{each}

-- the numbers in these rows and the same columns, in this order
abbrev pub window_of : ℕ → ℕ → List Float → List ℕ → List (List Float)
window_of n ld t rows = each n (λ (c : ℕ). each n (λ (r : ℕ). entry ld t (get_or rows r 0) (get_or rows c 0)))

-- rows for columns
abbrev pub transposed : ℕ → List (List Float) → List (List Float)
transposed n w = each n (λ (c : ℕ). each n (λ (r : ℕ). at (get_or w r []) c))

-- each column changed
abbrev pub changed : ℕ → (List Float → List Float) → List (List Float) → List (List Float)
changed n f w = each n (λ (c : ℕ). f (get_or w c []))

-- each column changed, and then each row
abbrev pub tried : ℕ → (List Float → List Float) → List (List Float) → List (List Float)
tried n f w = transposed n (changed n f (transposed n (changed n f w)))

-- the larger of m and the magnitudes of a column's first k numbers
abbrev pub larger : ℕ → Float → List Float → Float
larger zero m c = m
larger (suc k) m c = fmax (larger k m c) (abs (at c k))

-- the largest magnitude in the first k columns
abbrev pub largest : ℕ → ℕ → List (List Float) → Float
largest n zero w = zero_of binary64
largest n (suc k) w = larger n (largest n k w) (get_or w k [])

-- the larger of 10 × eps × that, and min_positive / eps
abbrev pub threshold : ℕ → List (List Float) → Float
threshold n w = fmax (mul binary64 (mul binary64 (ten_of binary64) (eps_of binary64)) (largest n n w)) (div binary64 (min_positive_of binary64) (eps_of binary64))
