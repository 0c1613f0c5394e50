-- dlaexc's tests, and the swap with them, of three rows of which the first or the last is single. Definitions only. Assumes nothing.
use Rattle.std.specs.Prelude.{ℕ, Bool, cond, List, Float}
use Rattle.std.specs.Float.{binary64}
use Rattle.model.specs.Swaps.{Change, declining}
use Rattle.model.specs.Stopping.{Window3, left12, left21, fails12, fails21}
use Rattle.swaps.specs.declared.swap_12.Single.{Single}
use Rattle.swaps.specs.declared.swap_12.Single.TheVariants.{First, Last}
use Rattle.swaps.specs.Forms.{swap3}

abbrev pub left3 : Single → Window3 → Window3 → Float
left3 First = left12 binary64
left3 Last = left21 binary64

abbrev pub fails3 : Single → ℕ → List Float → ℕ → Bool
fails3 First = fails12 binary64
fails3 Last = fails21 binary64

abbrev pub declining3 : Single → ℕ → List Float → Change
declining3 First j t = declining j 1 2 t
declining3 Last j t = declining j 2 1 t

abbrev pub tried3 : Single → ℕ → ℕ → ℕ → List Float → Change
tried3 x ld n j t = cond (fails3 x ld t j) (declining3 x j t) (swap3 x ld n j t)
