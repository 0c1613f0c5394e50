-- `root n` is the whole part of the root of n, and no other number is; and zeros put after a number's digits in pairs put zeros after those of its root. Assumes nothing.
use mathlib.Core.Path.{◌≡◌}
use Prim.Native.Nat.{ℕ, zero, suc, ◌+◌, ◌*◌, ◌/◌, ◌^◌, ◌≤◌, ◌<◌}
use native.Mathlib.Nat.{le_antisymm, le_of_suc-le-suc, lt_of_lt_of_le, lt_of_not-le, mul-le-mul, mul-le-mul_right, mul-lt-mul_of_pos_right, mul-pos, pow-le-pow_left, div-eq_of_lt-le}
use native.Mathlib.Omega.{arith}
use mathlib.Core.Bool.{Bool, true, false, not, cond}
use lib.Dec.{T, leb, leb→le, nleb→lt, lit≤}
use lib.Ieee.{size}
use lib.Ieee.Digits.{size-lt}
use Rattle.model.specs.Root.{root_within, root}
use Rattle.laws.specs.RootNearest.{IsRoot}

-- one digit more: r is twice the root of n / 4
digit : (n r : ℕ) → r * r ≤ n → n < (r + 2) * (r + 2) → IsRoot n (cond (leb ((r + 1) * (r + 1)) n) (r + 1) r)
digit n r lo hi = go (leb ((r + 1) * (r + 1)) n) (leb→le ((r + 1) * (r + 1)) n) (nleb→lt ((r + 1) * (r + 1)) n)
  where
    go : (t : Bool) → (T t → (r + 1) * (r + 1) ≤ n) → (T (not t) → n < (r + 1) * (r + 1)) → IsRoot n (cond t (r + 1) r)
    go true p q = (p tt, omega arith)
    go false p q = (lo, q tt)

within_is : (d n : ℕ) → n < 4 ^ d → IsRoot n (root_within d n)
unfolding root_within
within_is zero n h = (omega arith, omega arith)
within_is (suc d) n h = let r = root_within d (n / 4) in let k = within_is d (n / 4) (omega arith) in digit n (2 * r) (omega arith) (omega arith)

pub root_is : (n : ℕ) → IsRoot n (root n)
unfolding root
root_is n = within_is (size n) n (lt_of_lt_of_le (size-lt n) (pow-le-pow_left (lit≤ tt) (size n)))

-- ---- squares are in the order of their numbers
module _ (n r : ℕ) (h : IsRoot n r) where
  pub le_root : (a : ℕ) → a * a ≤ n → a ≤ r
  le_root a k = le_of_suc-le-suc (lt_of_not-le (λ (g : suc r ≤ a). no (mul-le-mul g g)))
    where
      no : suc r * suc r ≤ a * a → ⊥
      no g = omega arith

  pub root_lt : (a : ℕ) → n < a * a → r < a
  root_lt a k = lt_of_not-le (λ (g : a ≤ r). no (mul-le-mul g g))
    where
      no : a * a ≤ r * r → ⊥
      no g = omega arith

pub root_unique : (n r : ℕ) → IsRoot n r → r ≡ root n
root_unique n r h = le_antisymm (le_root n (root n) (root_is n) r h.0) (le_root n r h (root n) (root_is n).0)

-- with w = 2 ^ h: the root of a * 4 ^ h, cut by h digits, is that of a
pub root-scale : (a w q r : ℕ) → 0 < w → IsRoot a q → IsRoot (a * (w * w)) r → r / w ≡ q
root-scale a w q r W h k =
    let x : q * q * (w * w) ≤ a * (w * w) = mul-le-mul_right (w * w) h.0 in
    let y : a * (w * w) < (q + 1) * (q + 1) * (w * w) = mul-lt-mul_of_pos_right h.1 (mul-pos W W) in
    div-eq_of_lt-le w (le_root (a * (w * w)) r k (q * w) (omega arith)) (root_lt (a * (w * w)) r k ((q + 1) * w) (omega arith))
