-- What the words that were found say of the line and of the buffer. Assumes nothing.
use Rattle.std.proofs.Common.{◌≡◌, ℕ, zero, suc, ◌+◌, ◌*◌, ◌≤◌, Bool, true, false, ltb, List, length, set, refl, arith, ltb-false, Option, Some, None}
use Rattle.replay_text.specs.Text.{word_at, words_from, words_of}

-- a word that is there lies inside the line
pub whole : (s : List ℕ) (at w : ℕ) → word_at s at ≡ Some w → at + 17 ≤ length s
unfolding word_at
whole s at w h = by (ltb (length s) (at + 17)) refl
  where
    by : (b : Bool) → ltb (length s) (at + 17) ≡ b → at + 17 ≤ length s
    by true e = let m : ◌≡◌ {A = Option ℕ} None (Some w) = rw e at h in let z : ◌≡◌ {A = ℕ} 0 1 = cc in absurd (omega arith)
    by false e = ltb-false _ _ e

-- m words were found, n of them before the place, with room for k more: they have room, and they are the whole line
pub record Fit (s : List ℕ) (k at n m : ℕ) : Type 0 where
  pub room : m ≤ n + k
  pub least : n ≤ m
  pub all : length s + 17 * n ≡ at + 17 * m

module _ (s : List ℕ) (m : ℕ) where
  last : (k at n : ℕ) → ltb at (length s) ≡ false → at ≤ length s → ◌≡◌ {A = Option ℕ} (Some n) (Some m) → Fit s k at n m
  last k at n e h f =
      let z : n ≡ m = cc in
      let g : length s ≤ at = ltb-false _ _ e in
      record { room = omega arith; least = omega arith; all = omega arith }

  fit-from : (k at n : ℕ) (out : List ℕ) → at ≤ length s → (words_from s k at n out).found ≡ Some m → Fit s k at n m
  unfolding words_from
  fit-from zero at n out h f = by (ltb at (length s)) refl
    where
      by : (b : Bool) → ltb at (length s) ≡ b → Fit s zero at n m
      by true e = let x : ◌≡◌ {A = Option ℕ} None (Some m) = rw e at f in let z : ◌≡◌ {A = ℕ} 0 1 = cc in absurd (omega arith)
      by false e = last zero at n e h (rw e at f)
  fit-from (suc k) at n out h f = by (λ w i g. fit-from k (at + 17) (n + 1) (set out n w) i g) (ltb at (length s)) refl (word_at s at) refl
    where
      by : ((w : ℕ) → at + 17 ≤ length s → (words_from s k (at + 17) (n + 1) (set out n w)).found ≡ Some m → Fit s k (at + 17) (n + 1) m)
          → (b : Bool) → ltb at (length s) ≡ b → (x : Option ℕ) → word_at s at ≡ x → Fit s (suc k) at n m
      by next true e None i =
          let x : ◌≡◌ {A = Option ℕ} None (Some m) = rw (e, i) at f in let z : ◌≡◌ {A = ℕ} 0 1 = cc in absurd (omega arith)
      by next true e (Some w) i =
          let r = next w (whole s at w i) (rw (e, i) at f) in
          record { room = omega arith; least = omega arith; all = omega arith }
      by next false e x i = last (suc k) at n e h (rw e at f)

-- of a whole line: they have room, and each takes 17 bytes
pub fit : (s : List ℕ) (from : ℕ) (out : List ℕ) (m : ℕ) → (words_of s from out).found ≡ Some m → Fit s (length out) from 0 m
unfolding words_of
fit s from out m f = by (ltb (length s) from) refl
  where
    by : (b : Bool) → ltb (length s) from ≡ b → Fit s (length out) from 0 m
    by true e = let x : ◌≡◌ {A = Option ℕ} None (Some m) = rw e at f in let z : ◌≡◌ {A = ℕ} 0 1 = cc in absurd (omega arith)
    by false e = fit-from s m (length out) from 0 out (ltb-false _ _ e) (rw e at f)
