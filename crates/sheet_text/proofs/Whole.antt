-- What a text says that is laid out, and the sheet by cases. Assumes nothing.
use mathlib.Core.Path.{◌≡◌, refl, sym, ap, subst, ◌∙◌}
use mathlib.Core.Bool.{Bool, true, false, cond}
use mathlib.Core.List.{List, [], ◌∷◌, ◌++◌}
use Prim.Native.Nat.{ℕ, zero, suc, ◌+◌, ◌-◌, ◌*◌, ◌^◌, ◌≤◌, ◌<◌}
use native.Mathlib.Nat.{zero-add, sub-zero, zero-sub, suc-sub-suc, lt_of_lt_of_le, pow-le-pow_right}
use native.Mathlib.Omega.{arith}
use lib.Dec.{eqb, ltb, leb}
use lib.ListN.{length, get_or, take, drop, replicate, length-append, length-replicate}
use lib.Seq.{take_at}
use borrow.Author.Tests.{ltb-false, le-ltb, lt-ltb, leb-true, le-leb, lt-leb, eq-eqb, ne_eqb}
use borrow.Author.Rules.{rules}
use Rattle.std.specs.Bool.{Decides}
use Rattle.std.specs.Cmp.Lexicographic.{pointwise}
use Rattle.std.proofs.lemmas.Bool.{and_parts}
use Rattle.std.proofs.lemmas.Slice.Eq.{compares_Decides}
use Rattle.model.specs.Text.{text_bytes, word_room, sheet_room, Request, text_of, InBounds, number_at, digit_of, digits_from, more_at, words_at, factor_place, request_of, same, laid_out, numbers, printed_move, printed, answer_line, sheet_of, Sheet, sheet_call}
use Rattle.model.specs.Move.{move_call}
use lib.Ieee.{binary64}
use mathlib.Core.Logic.{◌⊎◌, inl, inr}
use Rattle.sheet_words.specs.Put.{Put}

-- ---- a word of 16 digits has 64 bits

digit_small : (b : ℕ) → digit_of b ≤ 15
unfolding digit_of
digit_small b = grind (arith)

digits_small : (s : List ℕ) (k i w j : ℕ) → w < 16 ^ j → digits_from s k i w < 16 ^ (j + k)
unfolding digits_from
digits_small s zero i w j h = let e : j + 0 ≡ j = omega arith in rw e h
digits_small s (suc k) i w j h =
    let e : j + suc k ≡ suc j + k = omega arith in
    let g : w * 16 + digit_of (get_or s i 0) < 16 ^ suc j = omega (arith, digit_small (get_or s i 0)) in
    rw e (digits_small s k (i + 1) (w * 16 + digit_of (get_or s i 0)) (suc j) g)

word_small : (s : List ℕ) (i : ℕ) → digits_from s 16 i 0 < 2 ^ 64
word_small s i = omega (arith, digits_small s 16 i 0 0 (omega arith))

words_small : (s : List ℕ) (k p i : ℕ) → i < length (words_at s k p) → get_or (words_at s k p) i 0 < 2 ^ 64
unfolding words_at
words_small s zero p i h = absurd (omega arith)
words_small s (suc k) p i h = by (words_small s k (p + 17)) (more_at s p) i h
  where
    by : ((j : ℕ) → j < length (words_at s k (p + 17)) → get_or (words_at s k (p + 17)) j 0 < 2 ^ 64)
        → (t : Bool) (i : ℕ) → i < length (cond t (digits_from s 16 (p + 1) 0 ∷ words_at s k (p + 17)) [])
        → get_or (cond t (digits_from s 16 (p + 1) 0 ∷ words_at s k (p + 17)) []) i 0 < 2 ^ 64
    by others true zero h = word_small s (p + 1)
    by others true (suc i) h = others i (omega arith)
    by others false i h = absurd (omega arith)

-- ---- a number of 4 digits is below 10,000

wider : (v j k : ℕ) → v < 10 ^ j → v < 10 ^ (j + k)
wider v j k h = lt_of_lt_of_le h (pow-le-pow_right {n = 10} (omega arith) {i = j} {j = j + k} (omega arith))

number_small : (s : List ℕ) (k v p j : ℕ) → v < 10 ^ j → (number_at s k v p).value < 10 ^ (j + k)
unfolding number_at
number_small s zero v p j h = wider v j 0 h
number_small s (suc k) v p j h =
    by (number_small s k (v * 10 + (get_or s p 0 - 48)) (p + 1) (suc j)) (ltb (get_or s p 0) 48) (ltb 57 (get_or s p 0)) refl
  where
    by : (v * 10 + (get_or s p 0 - 48) < 10 ^ suc j → (number_at s k (v * 10 + (get_or s p 0 - 48)) (p + 1)).value < 10 ^ (suc j + k))
        → (a b : Bool) → ltb 57 (get_or s p 0) ≡ b
        → (cond a (record { value = v; next = p }) (cond b (record { value = v; next = p }) (number_at s k (v * 10 + (get_or s p 0 - 48)) (p + 1)))).value
        < 10 ^ (j + suc k)
    by more true b e = wider v j (suc k) h
    by more false true e = wider v j (suc k) h
    by more false false e =
        let l : get_or s p 0 ≤ 57 = ltb-false 57 (get_or s p 0) e in
        let n : j + suc k ≡ suc j + k = omega arith in
        rw n (more (omega arith))

-- ---- the same bytes

-- what the comparison of two slices gives
pub same_is : (a b : List ℕ) → pointwise eqb a b ≡ same a b
unfolding same
same_is [] [] = refl
same_is [] (y ∷ b) = refl
same_is (x ∷ a) [] = refl
same_is (x ∷ a) (y ∷ b) = rw (same_is a b)

same_decides : (a b : List ℕ) → Decides (same a b) (a ≡ b)
unfolding same
same_decides = compares_Decides same (search rules)

-- ---- what is laid out

in_bounds : (s : List ℕ) → length s ≤ text_bytes → s ≡ text_of (request_of s) → InBounds (request_of s)
unfolding request_of
in_bounds s l e = record {
  n = number_small s 4 0 2 0 (omega arith);
  from = number_small s 4 0 _ 0 (omega arith);
  to = number_small s 4 0 _ 0 (omega arith);
  form = words_small s word_room _;
  factor = words_small s word_room _;
  bytes = subst (λ (x : List ℕ). length x ≤ text_bytes) e l;
}

pub laid_out_only : (s : List ℕ) → laid_out s ≡ true → InBounds (request_of s) × (s ≡ text_of (request_of s))
unfolding laid_out
laid_out_only s h =
    let t = and_parts (leb (length s) text_bytes) (same s (text_of (request_of s))) h in
    let e : s ≡ text_of (request_of s) = (same_decides s (text_of (request_of s))).0 t.1 in
    (in_bounds s (leb-true (length s) text_bytes t.0) e, e)

pub laid_out_if : (s : List ℕ) → length s ≤ text_bytes → s ≡ text_of (request_of s) → laid_out s ≡ true
unfolding laid_out
laid_out_if s l e = rw (le-leb (length s) text_bytes l, ← e) ((same_decides s s).1 refl)

-- ---- a list put at the start of a buffer

pub as_before_lem : (a b x c : List ℕ) (p r : ℕ) → a ≡ b → Put a p x c r → Put b p x c r
as_before_lem a b x c p r e h = subst (λ (l : List ℕ). Put l p x c r) e h

pub put_front : (a b x : List ℕ) (n : ℕ) → Put a 0 x b n → take n b ≡ x
put_front a b x n h = rw h.1 (take_at x (drop (0 + length x) a) n (sym (h.0 ∙ zero-add (length x))))

pub front : {A : Type 0} (l p q : List A) (n : ℕ) → l ≡ p ++ q → length p ≡ n → take n l ≡ p
front l p q n e h = rw e (take_at p q n h)

drop-zeros : (n m : ℕ) → drop {A = ℕ} n (replicate m 0) ≡ replicate (m - n) 0
drop-zeros zero m = rw (sub-zero m)
drop-zeros (suc n) zero = rw (zero-sub (suc n))
drop-zeros (suc n) (suc m) = rw (suc-sub-suc m n) (drop-zeros n m)

-- ---- what was read, from its parts: the words are the first ones of two buffers

pub said : (s t t' u u' : List ℕ) (a a' b b' c c' k l p : ℕ)
    → record { value = a; next = a' } ≡ number_at s 4 0 2
    → record { value = b; next = b' } ≡ number_at s 4 0 (a' + 6)
    → record { value = c; next = c' } ≡ number_at s 4 0 (b' + 4)
    → Put t 0 (words_at s word_room (c' + 2)) t' k → p ≡ factor_place (c' + 2) k → Put u 0 (words_at s word_room p) u' l
    → record { n = a; from = b; to = c; form = take k t'; factor = take l u' } ≡ request_of s
unfolding request_of
said s t t' u u' a a' b b' c c' k l p ea eb ec pt ep pu =
    let q : p ≡ factor_place (c' + 2) (length (words_at s word_room (c' + 2))) = ep ∙ rw (pt.0, zero-add (length (words_at s word_room (c' + 2)))) in
    rw (← ea, ← eb, ← ec, put_front t t' (words_at s word_room (c' + 2)) k pt, put_front u u' (words_at s word_room p) l pu, q)

-- ---- the sheet by cases

pub too_long_lem : (s : List ℕ) → text_bytes < length s → answer_line 1 ≡ sheet_of s
unfolding sheet_of laid_out
too_long_lem s h = rw (lt-leb (length s) text_bytes h)

-- at most so many words are read
words_few : (s : List ℕ) (k p : ℕ) → length (words_at s k p) ≤ k
unfolding words_at
words_few s zero p = omega arith
words_few s (suc k) p = by (words_few s k (p + 17)) (more_at s p)
  where
    by : length (words_at s k (p + 17)) ≤ k → (t : Bool) → length (cond t (digits_from s 16 (p + 1) 0 ∷ words_at s k (p + 17)) []) ≤ suc k
    by h true = omega arith
    by h false = omega arith

module _ (s : List ℕ) (q : Request) (is : q ≡ request_of s) where
  pub few : (length q.form ≤ word_room) × (length q.factor ≤ word_room)
  unfolding request_of
  few = rw is (words_few s word_room _, words_few s word_room _)

  pub other_text : length s ≤ text_bytes → same s (text_of q) ≡ false → answer_line 1 ≡ sheet_of s
  unfolding sheet_of laid_out
  other_text l e = rw (le-leb (length s) text_bytes l, ← is, e)

  pub its_text : length s ≤ text_bytes → same s (text_of q) ≡ true → laid_out s ≡ true
  unfolding laid_out
  its_text l e = rw (le-leb (length s) text_bytes l, ← is, e)

  pub other_rows : laid_out s ≡ true → (q.n ≡ 0) ⊎ (q.n ≡ 0 → ⊥) × (32 < q.n) → answer_line 2 ≡ sheet_of s
  unfolding sheet_of printed
  other_rows e (inl h) = rw (e, ← is, eq-eqb q.n 0 h)
  other_rows e (inr (z, h)) = rw (e, ← is, ne_eqb q.n 0 z, lt-ltb 32 q.n h)

  pub its_move : laid_out s ≡ true → 0 < q.n → q.n ≤ 32 → printed_move (move_call binary64 q.n q.n (numbers q.form) (numbers q.factor) q.from q.to) ≡ sheet_of s
  unfolding sheet_of printed
  its_move e l h = rw (e, ← is, ne_eqb q.n 0 (λ z. omega arith), le-ltb 32 q.n h)

-- ---- what the call does

pub no_room : (out input : List ℕ) → length out < sheet_room → record { count = 0; buffer = out } ≡ sheet_call out input
unfolding sheet_call
no_room out input h = rw (lt-ltb (length out) sheet_room h)

pub room : (out input exit : List ℕ) (r : ℕ) → sheet_room ≤ length out → Put (replicate (length out) 0) 0 (sheet_of input) exit r
    → record { count = r; buffer = exit } ≡ sheet_call out input
unfolding sheet_call
room out input exit r h p =
    rw (le-ltb (length out) sheet_room h, p.0, p.1, zero-add (length (sheet_of input)), drop-zeros (length (sheet_of input)) (length out))

-- the count is inside the buffer, whatever its room
pub inside : (out input exit : List ℕ) (r : ℕ) → record { count = r; buffer = exit } ≡ sheet_call out input → length exit ≡ length out → r ≤ length exit
unfolding sheet_call
inside out input exit r e l = by (ltb (length out) sheet_room) refl
  where
    by : (t : Bool) → ltb (length out) sheet_room ≡ t → r ≤ length exit
    by true f =
        let n : r ≡ 0 = rw f at (ap (λ (s : Sheet). s.count) e) in
        omega arith
    by false f =
        let n : r ≡ length (sheet_of input) = rw f at (ap (λ (s : Sheet). s.count) e) in
        let b : exit ≡ sheet_of input ++ replicate (length out - length (sheet_of input)) 0 = rw f at (ap (λ (s : Sheet). s.buffer) e) in
        omega (arith, ap length b, length-append (sheet_of input) (replicate (length out - length (sheet_of input)) 0), length-replicate {A = ℕ} (length out - length (sheet_of input)) 0)
