-- What is left of x without y, where that is at least 0 and below an end: both ways. Assumes nothing.
use Rattle.std.proofs.Common.{◌≡◌, ℕ, ◌-◌, ◌<◌, ◌≤◌, None, Some, arith}
use borrow.Author.Tests.{lt-ltb, le-ltb}
use native.Mathlib.Decide.{dec_lt}
use Rattle.digits.specs.Digits.{left_of, Left}

pub record Rest (x y end r : ℕ) : Type 0 where
  pub within : y ≤ x
  pub is : r ≡ x - y
  pub short : r < end

pub rest : {x y end r : ℕ} → Left x y end (Some r) → Rest x y end r
rest {x} {y} {end} {r} e =
    elim (dec_lt x y) [
      | yes h ↦ absurd (let z = rw (lt-ltb x y h) at e.is in cc)
      | no h ↦ elim (dec_lt (x - y) end) [
        | yes k ↦ (let z = rw (le-ltb x y (omega arith), lt-ltb (x - y) end k) at e.is in let i : r ≡ x - y = cc in record { within = omega arith; is = i; short = omega arith })
        | no k ↦ absurd (let z = rw (le-ltb x y (omega arith), le-ltb (x - y) end (omega arith)) at e.is in cc)
      ]
    ]

pub there : (x y end : ℕ) → y ≤ x → x - y < end → left_of x y end ≡ Some (x - y)
there x y end h k = rw (le-ltb x y h, lt-ltb (x - y) end k)

pub negative : (x y end : ℕ) → x < y → left_of x y end ≡ None
negative x y end h = rw (lt-ltb x y h)

pub too_long : (x y end : ℕ) → y ≤ x → end ≤ x - y → left_of x y end ≡ None
too_long x y end h k = rw (le-ltb x y h, le-ltb (x - y) end k)

pub gone : {x y end : ℕ} → Left x y end None → y ≤ x → x - y < end → ⊥
gone {x} {y} {end} e h k = let z = rw (there x y end h k) at e.is in cc
