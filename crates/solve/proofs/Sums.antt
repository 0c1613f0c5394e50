-- Sums of products as a loop makes them: the rest of the pairs, from the sum so far, gives the whole. Assumes nothing.
use mathlib.Core.Path.{◌≡◌}
use Prim.Native.Nat.{ℕ, zero, suc, ◌+◌, ◌-◌, ◌*◌, ◌/◌, ◌%◌, ◌≤◌, ◌<◌}
use native.Mathlib.Nat.{sub-zero, sub-eq-zero_of_le}
use native.Mathlib.Omega.{arith}
use lib.Ieee.{Float, binary64, add, mul, of_bits}
use Rattle.model.specs.Arith.{inner_from, inner_prod}
use Rattle.model.specs.Vectors.{split_from, split_prod}
use Rattle.arith.proofs.Left.{left_suc}

-- the n pairs of x and y, i of them added to a
abbrev pub Rest : (ℕ → Float) → (ℕ → Float) → ℕ → ℕ → Float → Type 0
Rest x y n i a = inner_from binary64 x y (n - i) i a ≡ inner_prod binary64 x y n

pub all : (x y : ℕ → Float) (n : ℕ) → Rest x y n 0 (of_bits binary64 0)
unfolding inner_prod
all x y n = rw sub-zero

pub next : (x y : ℕ → Float) (n i : ℕ) (a p : Float) → i < n → p ≡ mul binary64 (x i) (y i) → Rest x y n i a → Rest x y n (i + 1) (add binary64 a p)
unfolding inner_from
next x y n i a p h e r = rw e (rw (left_suc n i h) at r)

pub done : (x y : ℕ → Float) (n i : ℕ) (a : Float) → n ≤ i → Rest x y n i a → a ≡ inner_prod binary64 x y n
unfolding inner_from
done x y n i a h r = rw (sub-eq-zero_of_le h) at r

-- ---- even and odd places apart

-- the n pairs of x and y, k pairs of them added to `even` and `odd`
abbrev pub Halves : (ℕ → Float) → (ℕ → Float) → ℕ → ℕ → Float → Float → Type 0
Halves x y n k even odd = split_from binary64 x y (n - 2 * k) (2 * k) even odd ≡ split_prod binary64 x y n

pub halves_all : (x y : ℕ → Float) (n : ℕ) → Halves x y n 0 (of_bits binary64 0) (of_bits binary64 0)
unfolding split_prod
halves_all x y n = rw sub-zero

pub halves_next : (x y : ℕ → Float) (n k : ℕ) (even odd p q : Float) → k < n / 2 → p ≡ mul binary64 (x (2 * k)) (y (2 * k)) → q ≡ mul binary64 (x (2 * k + 1)) (y (2 * k + 1))
    → Halves x y n k even odd → Halves x y n (k + 1) (add binary64 even p) (add binary64 odd q)
unfolding split_from
halves_next x y n k even odd p q h e g r =
    let d : 2 * (k + 1) ≡ 2 * k + 2 = omega arith in
    let m : n - 2 * k ≡ suc (suc (n - (2 * k + 2))) = omega arith in
    rw (e, g, d) (rw m at r)

-- of an odd number of pairs the last one is left
pub halves_last : (x y : ℕ → Float) (n k : ℕ) (even odd p : Float) → n % 2 ≡ 1 → n / 2 ≤ k → k ≤ n / 2 → p ≡ mul binary64 (x (n - 1)) (y (n - 1)) → Halves x y n k even odd
    → add binary64 (add binary64 even p) odd ≡ split_prod binary64 x y n
unfolding split_from
halves_last x y n k even odd p w h l e r =
    let d : n - 1 ≡ 2 * k = omega arith in
    let m : n - 2 * k ≡ suc zero = omega arith in
    rw (e, d) (rw m at r)

pub halves_done : (x y : ℕ → Float) (n k : ℕ) (even odd : Float) → (n % 2 ≡ 1 → ⊥) → n / 2 ≤ k → Halves x y n k even odd → add binary64 even odd ≡ split_prod binary64 x y n
unfolding split_from
halves_done x y n k even odd w h r =
    let m : n - 2 * k ≡ zero = omega arith in
    rw m at r
