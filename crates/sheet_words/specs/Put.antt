-- What a function that writes a list at a place of a buffer does. Definitions only. Assumes nothing.
use Rattle.std.specs.Prelude.{ℕ, ◌+◌, ◌≡◌, List, ◌++◌, length, take, drop}

-- the buffer then holds the list at the place, and before and after it what it held; `next` is the place after the list
abbrev pub Put : (before : List ℕ) (at : ℕ) (list after : List ℕ) (next : ℕ) → Type 0
Put before at list after next = (next ≡ at + length list) × (after ≡ take at before ++ list ++ drop (at + length list) before)
