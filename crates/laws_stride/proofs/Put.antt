-- A number put in the same row and column of two forms, each by its own stride: the n rows stay the same, and no row from n on is touched. Assumes nothing.
use mathlib.Core.Path.{◌≡◌, sym, ◌∙◌}
use Prim.Native.Nat.{ℕ, suc, ◌*◌, ◌≤◌, ◌<◌}
use native.Mathlib.Nat.{mul-le-mul_left}
use native.Mathlib.Decide.{ℕ_discrete}
use native.Mathlib.Omega.{arith}
use mathlib.Core.List.{List}
use lib.ListN.{length, length-set}
use lib.Seq.{get_or-set_same, get_or-set_other}
use lib.Ieee.{Float}
use Rattle.model.specs.Form.{place, entry}
use Rattle.model.specs.Swaps.{put}
use Rattle.laws_moves.proofs.Places.{apart}
use Rattle.laws_stride.specs.Beyond.{BeyondStays}
use Rattle.laws_stride.specs.Strides.{SameRows}

-- a place of the n rows and columns is inside
inside : (ld n i j : ℕ) → n ≤ ld → i < n → j < n → place ld i j < ld * n
inside ld n i j w g h = let m : ld * suc j ≤ ld * n = mul-le-mul_left ld h in omega arith

-- ---- what is found after a number was put

pub put-here : (ld n i j : ℕ) (v : Float) (t : List Float) → n ≤ ld → length t ≡ ld * n → i < n → j < n → entry ld (put ld i j v t) i j ≡ v
put-here ld n i j v t w e g h = let p : place ld i j < length t = let m = inside ld n i j w g h in omega arith in rw get_or-set_same

pub put_else : (ld i j k l : ℕ) (v : Float) (t : List Float) → i < ld → k < ld → (k ≡ i → l ≡ j → ⊥) → entry ld (put ld i j v t) k l ≡ entry ld t k l
put_else ld i j k l v t g h d = let p = apart ld k l i j h g d in rw get_or-set_other

-- ---- both forms

pub put_same : (ld md n i j : ℕ) (v : Float) (a b : List Float) → n ≤ ld → n ≤ md → i < n → j < n → SameRows ld md n a b → SameRows ld md n (put ld i j v a) (put md i j v b)
put_same ld md n i j v a b w x g h s =
    record { size = length-set a (place ld i j) v ∙ s.size; size' = length-set b (place md i j) v ∙ s.size'; same = λ k l p q. go k l (omega arith) (omega arith) }
  where
    go : (k l : ℕ) → k < n → l < n → entry ld (put ld i j v a) k l ≡ entry md (put md i j v b) k l
    go k l p q =
        elim (ℕ_discrete k i) [
          | yes e ↦ elim (ℕ_discrete l j) [
            | yes d ↦ rw (e, d) (put-here ld n i j v a w s.size g h ∙ sym (put-here md n i j v b x s.size' g h))
            | no d ↦ other (λ _ y. d y)
          ]
          | no e ↦ other (λ y _. e y)
        ]
      where
        other : (k ≡ i → l ≡ j → ⊥) → entry ld (put ld i j v a) k l ≡ entry md (put md i j v b) k l
        other d = put_else ld i j k l v a (omega arith) (omega arith) d ∙ s.same k l (omega arith) (omega arith) ∙ sym (put_else md i j k l v b (omega arith) (omega arith) d)

-- ---- rows from n on

pub put-beyond : (ld n i j : ℕ) (v : Float) (o t : List Float) → n ≤ ld → i < n → BeyondStays ld n o t → BeyondStays ld n o (put ld i j v t)
put-beyond ld n i j v o t w g s =
    record { size = length-set t (place ld i j) v ∙ s.size; beyond = λ k l p q. put_else ld i j k l v t (omega arith) (omega arith) (λ e _. omega arith) ∙ s.beyond k l p q }
