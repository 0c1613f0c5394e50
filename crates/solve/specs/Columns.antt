-- Two columns of unknowns in one list. Definitions only. Assumes nothing.
use Rattle.std.specs.Prelude.{ℕ, ◌+◌, ◌≤◌}
use Rattle.solve.specs.declared.leading.Leading.{Leading}

-- so many numbers have one for each row of a, and for each row one more a.ld places further
abbrev pub TwoColumns : Leading → ℕ → Type 0
TwoColumns a count = a.ld + a.n ≤ count
