-- Whether floats are the numbers of words. Definitions only. Assumes nothing.
use Rattle.std.specs.Prelude.{ℕ, Bool, true, false, cond, not, ◌&&◌, List, [], ◌∷◌, ◌==◌, is_nan, to_bits, Float}
use Rattle.std.specs.Float.{binary64}
use Rattle.std.specs.Float.Ieee.{nan_bits}

-- a NaN for a NaN's pattern, and the same bits for any other
unfoldable pub is_word : Float → ℕ → Bool
is_word x w = cond (nan_bits binary64 w) (is_nan x) (not (is_nan x) && to_bits binary64 x == w)

-- as many, and each one
unfoldable pub are_words : List Float → List ℕ → Bool
unfolding is_word
are_words [] [] = true
are_words [] (w ∷ ws) = false
are_words (x ∷ xs) [] = false
are_words (x ∷ xs) (w ∷ ws) = is_word x w && are_words xs ws
