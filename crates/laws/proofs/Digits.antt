-- Binary digits: how many a number has, and zeros after an odd number. Assumes nothing.
use mathlib.Core.Path.{◌≡◌}
use Prim.Native.Nat.{ℕ, zero, suc, ◌+◌, ◌-◌, ◌*◌, ◌/◌, ◌%◌, ◌^◌, ◌≤◌, ◌<◌}
use native.Mathlib.Nat.{zero-lt-suc, add-zero, le_trans, le_antisymm, lt_of_lt_of_le, lt_of_not-le, lt_irrefl, le-mul_of_pos_right, le-div_iff_mul-le, div-lt_iff_lt-mul, pow-succ'}
use native.Mathlib.Omega.{arith}
use lib.Pow.{pow-add, pow_pos, pow_mono}
use lib.Ieee.{size}
use lib.Ieee.Digits.{size-lt, size-le}

pub pow_lt_back : (i p : ℕ) → 2 ^ i < 2 ^ p → i < p
pow_lt_back i p h = lt_of_not-le (λ (g : p ≤ i). lt_irrefl (2 ^ i) (lt_of_lt_of_le h (pow_mono g)))

pub size_exact : (a n : ℕ) → 2 ^ a ≤ n → n < 2 ^ suc a → size n ≡ suc a
size_exact a n lo hi = le_antisymm (size-le n (suc a) hi) (lt_of_not-le (λ (g : size n ≤ a). lt_irrefl n (lt_of_lt_of_le (size-lt n) (le_trans (pow_mono g) lo))))

-- n has p + k digits, so that k are too many for p, or no more than p, and k is 0
pub too_many : (p k n : ℕ) → 0 < p → (0 < k → 2 ^ (p - 1 + k) ≤ n) → n < 2 ^ (p + k) → size n - p ≡ k
too_many p zero n P lead hi = let z = size-le n p (rw add-zero at hi) in omega arith
too_many p (suc k) n P lead hi =
    let e : p + suc k ≡ suc (p - 1 + suc k) = omega arith in
    let z = size_exact (p - 1 + suc k) n (lead (zero-lt-suc k)) (rw e at hi) in
    omega arith

-- R without its last h digits has p + 1, so R has p + 1 + h
pub size-of : (p h R : ℕ) → 2 ^ p ≤ R / 2 ^ h → R / 2 ^ h < 2 ^ suc p → size R ≡ suc (p + h)
size-of p h R lo hi =
    let e = pow-add 2 p h in
    let lo' = (le-div_iff_mul-le (pow_pos h)).0 lo in
    let hi' = rw (pow-succ' 2 p) at ((div-lt_iff_lt-mul (pow_pos h)).0 hi) in
    size_exact (p + h) R (omega arith) (omega arith)

-- an odd number with zeros after it is q with zeros after it: so q is the odd number, or that with zeros after it
pub odd_le : (o q a b : ℕ) → o % 2 ≡ 1 → o * 2 ^ a ≡ q * 2 ^ b → o ≤ q
odd_le o q a zero odd e = let m = le-mul_of_pos_right o (pow_pos a) in omega arith
odd_le o q zero (suc b) odd e = let x = rw (pow-succ' 2 b) at e in absurd (omega arith)
odd_le o q (suc a) (suc b) odd e = odd_le o q a b odd (let x = rw (pow-succ' 2 a, pow-succ' 2 b) at e in omega arith)
