-- NaNs and their patterns. Assumes nothing.
use mathlib.Core.Path.{◌≡◌, refl, sym, ◌∙◌}
use Prim.Native.Nat.{ℕ}
use mathlib.Core.Bool.{true, true≢false}
use lib.Ieee.{Float, nan, inf, fin, binary64, is_nan, of_bits, nan_bits}
use lib.Ieee.Bits.{nan_bits_is}

pub nan_is : (x : Float) → is_nan x ≡ true → x ≡ nan
unfolding is_nan
nan_is nan h = refl
nan_is (inf s) h = absurd (true≢false (sym h))
nan_is (fin s m d) h = absurd (true≢false (sym h))

pub word_nan : (w : ℕ) → nan_bits binary64 w ≡ true → of_bits binary64 w ≡ nan
word_nan w h = nan_is _ (sym (nan_bits_is binary64 w) ∙ h)
