-- Lists whose numbers are all of the format: what a buffer of the code can hold, and what can be written down in words of the format and read again. Definitions only. Assumes nothing.
use Rattle.std.specs.Prelude.{ℕ, ◌<◌, List, T, length, get_or, Float}
use Rattle.std.specs.Float.{nan, Format}
use Rattle.std.specs.Float.Ieee.{fits}

abbrev pub InFormat : Format → List Float → Type 0
InFormat f xs = (i : ℕ) → i < length xs → T (fits f (get_or xs i nan))
