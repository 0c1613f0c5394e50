-- `is_word` holds exactly where x is the number of the word. Assumes nothing.
use Rattle.std.proofs.Common.{◌≡◌, ℕ, ◌^◌, ◌<◌, Bool, true, false, not, T, eqb, sym, refl, ap, ◌∙◌, eq-eqb, eqb-true}
use Rattle.std.proofs.lemmas.Bool.{and_parts}
use lib.Ieee.{Float, binary64, fits, is_nan, of_bits, to_bits, nan_bits}
use lib.Ieee.Bits.{nan_bits_is, of_bits-to_bits, to_bits-of_bits}
use Rattle.bits.proofs.Nan.{nan_is, word_nan}
use Rattle.replay_text.specs.Float.{is_word}

same_word : (x : Float) (w : ℕ) → T (fits binary64 x) → eqb (to_bits binary64 x) w ≡ true → x ≡ of_bits binary64 w
same_word x w g h = sym (of_bits-to_bits binary64 x g) ∙ ap (of_bits binary64) (eqb-true _ _ h)

pub is_word_only : (x : Float) (w : ℕ) → T (fits binary64 x) → is_word x w ≡ true → x ≡ of_bits binary64 w
unfolding is_word
is_word_only x w g h = by (nan_bits binary64 w) refl
  where
    by : (b : Bool) → nan_bits binary64 w ≡ b → x ≡ of_bits binary64 w
    by true e = nan_is x (rw e at h) ∙ sym (word_nan w e)
    by false e = same_word x w g (and_parts (not (is_nan x)) _ (rw e at h)).1

pub is_word_if : (x : Float) (w : ℕ) → w < 2 ^ 64 → x ≡ of_bits binary64 w → is_word x w ≡ true
unfolding is_word is_nan
is_word_if x w g h = by (nan_bits binary64 w) refl
  where
    by : (b : Bool) → nan_bits binary64 w ≡ b → is_word x w ≡ true
    by true e = rw (e, h, word_nan w e)
    by false e =
        let n : is_nan (of_bits binary64 w) ≡ false = sym (nan_bits_is binary64 w) ∙ e in
        rw (e, h, n) (eq-eqb _ _ (to_bits-of_bits binary64 w g (rw n tt)))
