-- Tests made twice: two with one outcome lead both sides the same way. Assumes nothing.
use mathlib.Core.Path.{◌≡◌, refl, sym}
use Prim.Native.Nat.{ℕ}
use mathlib.Core.Bool.{Bool, true, false, ◌&&◌, cond, true≢false}
use lib.Dec.{eqb}
use borrow.Author.Tests.{eqb-true}

-- two tests under one guard
pub guarded : (a x y : Bool) → (a ≡ true → x ≡ y) → (a && x) ≡ (a && y)
guarded true x y h = h refl
guarded false x y h = refl

pub both_true : (a b : Bool) → (a && b) ≡ true → (a ≡ true) × (b ≡ true)
both_true true b h = (refl, h)
both_true false b h = absurd (true≢false (sym h))

pub is-two : (k : ℕ) (b : Bool) → (eqb k 2 && b) ≡ true → k ≡ 2
is-two k b h = eqb-true k 2 (both_true (eqb k 2) b h).0

-- the same way on both sides
pub branch : {A B : Type 0} (P : A → B → Type 0) (b : Bool) {b' : Bool} {x x' : A} {y y' : B} → b ≡ b' → (b ≡ true → P x y) → (b ≡ false → P x' y') → P (cond b x x') (cond b' y y')
branch P true e h k = rw (← e) (h refl)
branch P false e h k = rw (← e) (k refl)
