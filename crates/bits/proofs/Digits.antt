-- A word of 16 digits has 64 bits. Assumes nothing.
use Rattle.std.proofs.Common.{◌≡◌, ℕ, ◌+◌, ◌*◌, ◌^◌, ◌<◌, lt_of_lt_of_le, arith, pow_mono, pow-add}

-- one digit more is four binary places more
pub grow : (i w d : ℕ) → w < 2 ^ (4 * i) → d < 16 → w * 16 + d < 2 ^ (4 * (i + 1))
grow i w d h g =
    let e : 4 * (i + 1) ≡ 4 * i + 4 = omega arith in
    rw (e, pow-add 2 (4 * i) 4) (omega arith)

-- so that 16 digits make a word
pub room : (i w d : ℕ) → i < 16 → w < 2 ^ (4 * i) → d < 16 → w * 16 + d < 2 ^ 64
room i w d l h g = lt_of_lt_of_le (grow i w d h g) (pow_mono {i = 4 * (i + 1)} {j = 64} (omega arith))
