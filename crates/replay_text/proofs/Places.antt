-- A line's words by their places, 17 bytes each: step by step as the definition goes. Assumes nothing.
use Rattle.std.proofs.Common.{◌≡◌, ℕ, zero, suc, ◌+◌, ◌-◌, ◌*◌, ◌/◌, ◌<◌, ◌≤◌, List, [], length, get_or, take, drop, set, refl, sym, ap, ◌∙◌, arith, add-zero, length-set, length-drop, le-ltb, lt-ltb, ne_eqb, Option, Some, None}
use Rattle.std.proofs.lemmas.List.{get_or-drop, get_or-take, drop-drop, take_rest}
use native.Mathlib.Nat.{sub-zero}
use lib.Seq.{length-take-le}
use Rattle.std.specs.Bool.{then_some, ◌==◌}
use Rattle.std.specs.Simd.{first_chunks}
use Rattle.bits.specs.Hex.{digit_of}
use Rattle.replay_text.specs.Text.{digits_from, word_at, words_from, words_of}

-- what is left before a turn is one more than after it
pub left : (m i : ℕ) → i < m → m - i ≡ suc (m - (i + 1))
left m i inside = omega arith

-- the chunks of 17 bytes
pub chunk_at : (t : List ℕ) (m i : ℕ) → i < m → get_or (first_chunks 17 m t) i [] ≡ take 17 (drop (17 * i) t)
chunk_at t zero i h = absurd (omega arith)
chunk_at t (suc m) zero h = refl
chunk_at t (suc m) (suc i) h =
    let e : 17 * suc i ≡ 17 + 17 * i = omega arith in
    chunk_at (drop 17 t) m i (omega arith) ∙ rw e (ap (take 17) (drop-drop (17 * i) 17 t))

-- a chunk has the word of its place
module _ (s : List ℕ) (at : ℕ) where
  byte_at : (j : ℕ) → j < 17 → get_or (take 17 (drop at s)) j 0 ≡ get_or s (at + j) 0
  byte_at j h = get_or-take 17 (drop at s) j 0 h ∙ get_or-drop at s j 0

  digits_at : (k j w : ℕ) → j + k ≤ 17 → digits_from (take 17 (drop at s)) k j w ≡ digits_from s k (at + j) w
  unfolding digits_from
  digits_at zero j w h = refl
  digits_at (suc k) j w h = by (λ d. digits_at k (j + 1) (w * 16 + d) (omega arith)) (digit_of (get_or s (at + j) 0)) refl
    where
      by : ((d : ℕ) → digits_from (take 17 (drop at s)) k (j + 1) (w * 16 + d) ≡ digits_from s k (at + (j + 1)) (w * 16 + d))
          → (o : Option ℕ) → digit_of (get_or s (at + j) 0) ≡ o → digits_from (take 17 (drop at s)) (suc k) j w ≡ digits_from s (suc k) (at + j) w
      by next None e = rw (byte_at j (omega arith), e)
      by next (Some d) e = let f : at + j + 1 ≡ at + (j + 1) = omega arith in rw (byte_at j (omega arith), e, f) (next d)

  pub word_here : at + 17 ≤ length s → word_at (take 17 (drop at s)) 0 ≡ word_at s at
  unfolding word_at
  word_here h =
      let l : length (take 17 (drop at s)) ≡ 17 = length-take-le 17 (drop at s) (rw length-drop (omega arith)) in
      let b : get_or (take 17 (drop at s)) 0 0 ≡ get_or s at 0 = byte_at 0 (omega arith) ∙ rw add-zero in
      rw (l, le-ltb (length s) (at + 17) h, b, digits_at 16 1 0 (omega arith))

  -- less than a place is left
  pub word_none : length s < at + 17 → word_at s at ≡ None
  unfolding word_at
  word_none h = rw (lt-ltb (length s) (at + 17) h)

-- the chunks of what follows a place have the words of the places there
module _ (s t : List ℕ) (p : List (List ℕ)) (from n : ℕ) (rest : t ≡ take (length s - from) (drop from s)) (long : length t + from ≡ length s)
    (chunks : p ≡ first_chunks 17 (length t / 17) t) (inside : n < length t / 17) where
  pub place_within : from + 17 * n + 17 ≤ length s
  place_within = omega arith

  pub place_word : word_at (get_or p n []) 0 ≡ word_at s (from + 17 * n)
  place_word =
      let e : t ≡ drop from s = rest ∙ take_rest s from in
      rw (chunks, chunk_at t (length t / 17) n inside, e, drop-drop (17 * n) from s) (word_here s (from + 17 * n) place_within)

module _ (s out : List ℕ) (at n : ℕ) where
  -- the line has ended
  pub ended : (k : ℕ) → length s ≤ at → words_from s k at n out ≡ record { found = Some n; out = out }
  unfolding words_from
  ended zero h = rw (le-ltb at (length s) h)
  ended (suc k) h = rw (le-ltb at (length s) h)

  -- no room, and the line goes on
  pub full : at < length s → n ≡ length out → words_from s (length out - n) at n out ≡ record { found = None; out = out }
  unfolding words_from
  full h f = let e : length out - n ≡ 0 = omega arith in rw (e, lt-ltb at (length s) h)

  -- no word, whether there is room or not
  pub bad : (k : ℕ) → at < length s → word_at s at ≡ None → words_from s k at n out ≡ record { found = None; out = out }
  unfolding words_from
  bad zero h e = rw (lt-ltb at (length s) h)
  bad (suc k) h e = rw (lt-ltb at (length s) h, e)

  pub more : at < length s → n < length out → (w : ℕ) → word_at s at ≡ Some w
      → words_from s (length (set out n w) - (n + 1)) (at + 17) (n + 1) (set out n w) ≡ words_from s (length out - n) at n out
  unfolding words_from
  more h room w e = rw (length-set, left (length out) n room, lt-ltb at (length s) h, e)

  -- r bytes are left, fewer than a place has: the line has ended where there are none
  pub last : (k r m : ℕ) → r + at ≡ length s → r < 17 → m ≡ n → record { found = then_some (r == 0) m; out = out } ≡ words_from s k at n out
  last k zero m e h g = rw g (sym (ended k (omega arith)))
  last k (suc r) m e h g = rw (ne_eqb (suc r) 0 (λ z. omega arith)) (sym (bad k (omega arith) (word_none s at (omega arith))))

-- at the first place
pub begun : (s out : List ℕ) (from : ℕ) → from ≤ length s → words_from s (length out - 0) (from + 0) 0 out ≡ words_of s from out
unfolding words_of
begun s out from h = rw (add-zero, sub-zero, le-ltb (length s) from h)
