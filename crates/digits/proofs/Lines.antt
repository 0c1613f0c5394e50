-- A table's entries each tested by computing: what passes is a line. Assumes nothing.
use Rattle.std.proofs.Common.{◌≡◌, ℕ, ◌+◌, ◌-◌, ◌*◌, ◌/◌, ◌%◌, ◌^◌, ◌<◌, Bool, true, ◌&&◌, List, [], ◌∷◌, length, get_or, zero, suc, add-zero, arith}
use lib.Dec.{T, ltb, leb, ltb→lt, leb→le}
use lib.Ieee.Fits.{and_l, and_r}
use Rattle.digits.specs.Digits.{Under, Line}

abbrev under : ℕ → ℕ → Bool
under i h = ltb (h * h * i) (2 ^ 53) && leb (2 ^ 53) (h * h * i + 2 ^ 40)

abbrev line : ℕ → ℕ → Bool
line i r = (ltb r (2 ^ 48) && leb (r % 2 ^ 24) (r / 2 ^ 24)) && (under i (r / 2 ^ 24) && under (i + 1) (r / 2 ^ 24 - r % 2 ^ 24))

-- the entries are lines of i and the numbers after it
abbrev pub lines : ℕ → List ℕ → Bool
lines i [] = true
lines i (r ∷ rs) = line i r && lines (i + 1) rs

is_under : (i h : ℕ) → T (under i h) → Under i h
is_under i h t = (ltb→lt (h * h * i) (2 ^ 53) (and_l _ _ t), leb→le (2 ^ 53) (h * h * i + 2 ^ 40) (and_r _ _ t))

is_line : (i r : ℕ) → T (line i r) → Line i r
is_line i r t =
    let a = and_l _ _ t in
    let b = and_r _ _ t in
    record { short = ltb→lt r (2 ^ 48) (and_l _ _ a); falls = leb→le (r % 2 ^ 24) (r / 2 ^ 24) (and_r _ _ a); start = is_under i (r / 2 ^ 24) (and_l _ _ b); end = is_under (i + 1) (r / 2 ^ 24 - r % 2 ^ 24) (and_r _ _ b) }

pub each : (i : ℕ) (rs : List ℕ) → T (lines i rs) → (k : ℕ) → k < length rs → Line (i + k) (get_or rs k 0)
each i [] t k h = absurd (omega arith)
each i (r ∷ rs) t zero h = rw add-zero (is_line i r (and_l _ _ t))
each i (r ∷ rs) t (suc k) h = let e : i + 1 + k ≡ i + suc k = omega arith in rw e at (each (i + 1) rs (and_r _ _ t) k (omega arith))
