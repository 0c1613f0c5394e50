-- The value of a digit of a word's text. Definitions only. Assumes nothing.
use Rattle.std.specs.Prelude.{ℕ, ◌-◌, cond, ltb, leb, Option, Some, None}

-- the value of a lowercase hexadecimal digit; any other byte has none
unfoldable pub digit_of : ℕ → Option ℕ
digit_of b = cond (ltb b 48) None (cond (leb b 57) (Some (b - 48)) (cond (ltb b 97) None (cond (leb b 102) (Some (b - 87)) None)))
