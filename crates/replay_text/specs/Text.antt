-- What the text of a stored vector says. Definitions only. Assumes nothing.
use Rattle.std.specs.Prelude.{ℕ, zero, suc, ◌+◌, ◌*◌, cond, List, length, ◌==◌, nat_lt, slice_index, slice_set, Option, Some, None}
use Rattle.bits.specs.Hex.{digit_of}

-- by a value that may be there: go on with it, or end
abbrev pub on_some : {A : Type 0} → Option ℕ → (ℕ → A) → A → A
on_some (Some x) more none = more x
on_some None more none = none

-- the word w with the k digits after it that stand from place i on; none where another byte stands
unfoldable pub digits_from : List ℕ → ℕ → ℕ → ℕ → Option ℕ
digits_from s zero i w = Some w
digits_from s (suc k) i w = on_some (digit_of (slice_index s i)) (λ d. digits_from s k (i + 1) (w * 16 + d)) None

-- the word at a place: a space and 16 digits
unfoldable pub word_at : List ℕ → ℕ → Option ℕ
unfolding digits_from
word_at s at = cond (nat_lt (length s) (at + 17)) None (cond (slice_index s at == 32) (digits_from s 16 (at + 1) 0) None)

-- what was found in a line, and what the buffer for its words then holds
pub record Read : Type 0 where
  pub found : Option ℕ
  pub out : List ℕ

-- the words from a place to the line's end, where n stand in the buffer already and k more have room
unfoldable pub words_from : List ℕ → ℕ → ℕ → ℕ → List ℕ → Read
unfolding word_at
words_from s zero at n out = record { found = cond (nat_lt at (length s)) None (Some n); out = out }
words_from s (suc k) at n out =
    cond (nat_lt at (length s))
    (on_some (word_at s at) (λ w. words_from s k (at + 17) (n + 1) (slice_set out n w)) (record { found = None; out = out }))
    (record { found = Some n; out = out })

-- the words from a place to the line's end, put at the buffer's start; no words where the line ends before the place
unfoldable pub words_of : List ℕ → ℕ → List ℕ → Read
unfolding words_from
words_of s from out = cond (nat_lt (length s) from) (record { found = None; out = out }) (words_from s (length out) from 0 out)
