-- Numbers and words are read back as they were printed. Assumes nothing.
use mathlib.Core.Path.{◌≡◌, refl, sym, ap, ◌∙◌}
use mathlib.Core.Bool.{Bool, true, false, true≢false}
use mathlib.Core.List.{List, [], ◌∷◌, ◌++◌, append_assoc}
use Prim.Native.Nat.{ℕ, zero, suc, ◌+◌, ◌-◌, ◌*◌, ◌/◌, ◌%◌, ◌^◌, ◌≤◌, ◌<◌}
use native.Mathlib.Nat.{add-zero, mod-lt, div-add-mod', div-lt_iff_lt-mul}
use native.Mathlib.Omega.{arith}
use lib.Dec.{ltb}
use lib.ListN.{length, get_or, drop, length-append, length-drop}
use lib.Seq.{get_or-drop, drop-drop, drop_at, drop-append-add}
use borrow.Author.Tests.{le-ltb, le-leb, lt-leb, ltb-true, ltb-false, ne_eqb}
use Rattle.model.specs.Text.{glyph, decimal_in, decimal, hex_in, word, spaced, words, number_at, digit_of, digits_from, more_at, words_at}

-- what is left before a turn is one more than after it
pub left : (m i : ℕ) → i < m → m - i ≡ suc (m - (i + 1))
left m i inside = omega arith

-- where a word follows, it lies inside the text
pub more-fits : (s : List ℕ) (p : ℕ) → more_at s p ≡ true → p + 17 ≤ length s
unfolding more_at
more-fits s p h = by (ltb (length s) (p + 17)) refl
  where
    by : (b : Bool) → ltb (length s) (p + 17) ≡ b → p + 17 ≤ length s
    by true e = let f : false ≡ true = rw e at h in absurd (true≢false (sym f))
    by false e = ltb-false (length s) (p + 17) e

-- ---- what stands from a place on

pub head_at : (s : List ℕ) (p : ℕ) (l : List ℕ) → drop p s ≡ l → get_or s p 0 ≡ get_or l 0 0
head_at s p l e =
    let h : get_or (drop p s) 0 0 ≡ get_or s (p + 0) 0 = get_or-drop p s 0 0 in
    let z : get_or s (p + 0) 0 ≡ get_or s p 0 = rw add-zero in
    sym (h ∙ z) ∙ ap (λ (k : List ℕ). get_or k 0 0) e

-- further on by j
pub on : (s : List ℕ) (p j : ℕ) (l : List ℕ) → drop p s ≡ l → drop (p + j) s ≡ drop j l
on s p j l e = sym (drop-drop j p s) ∙ ap (λ (k : List ℕ). drop j k) e

-- past a list, and further on by j
pub past : (s : List ℕ) (p j : ℕ) (ds l : List ℕ) → drop p s ≡ ds ++ l → drop (p + length ds + j) s ≡ drop j l
past s p j ds l e =
    let g : p + length ds + j ≡ p + (length ds + j) = omega arith in
    rw (g, on s p (length ds + j) (ds ++ l) e) (drop-append-add ds l j)

-- ---- digits and their value

unfoldable pub fold : ℕ → (ℕ → ℕ) → ℕ → List ℕ → ℕ
fold b value v [] = v
fold b value v (d ∷ ds) = fold b value (v * b + value d) ds

fold_snoc : (b : ℕ) (value : ℕ → ℕ) (v : ℕ) (ds : List ℕ) (d : ℕ) → fold b value v (ds ++ (d ∷ [])) ≡ fold b value v ds * b + value d
unfolding fold
fold_snoc b value v [] d = refl
fold_snoc b value v (e ∷ ds) d = fold_snoc b value (v * b + value e) ds d

abbrev plain : ℕ → ℕ
plain d = d - 48

decimal-value : (k n : ℕ) → n < 10 ^ k → fold 10 plain 0 (decimal_in k n) ≡ n
unfolding fold decimal_in
decimal-value zero n h = omega arith
decimal-value (suc k) n h = by (decimal-value k (n / 10)) (ltb n 10) refl
  where
    by : (n / 10 < 10 ^ k → fold 10 plain 0 (decimal_in k (n / 10)) ≡ n / 10) → (b : Bool) → ltb n 10 ≡ b → fold 10 plain 0 (decimal_in (suc k) n) ≡ n
    by shorter true e = rw e (omega arith)
    by shorter false e =
        let g : n < 10 ^ k * 10 = omega arith in
        let l : n / 10 < 10 ^ k = (div-lt_iff_lt-mul {k = 10} {x = n} {y = 10 ^ k} (omega arith)).1 g in
        rw (e, fold_snoc 10 plain 0 (decimal_in k (n / 10)) (48 + n % 10), shorter l) (omega (arith, div-add-mod' n 10))

hex_digit : (d : ℕ) → d < 16 → digit_of (glyph d) ≡ d
unfolding digit_of
hex_digit d h = by (ltb d 10) refl
  where
    by : (b : Bool) → ltb d 10 ≡ b → digit_of (glyph d) ≡ d
    by true e =
        let l = ltb-true d 10 e in
        rw (e, le-ltb (48 + d) 48 (omega arith), le-leb (48 + d) 57 (omega arith)) (omega arith)
    by false e =
        let l = ltb-false d 10 e in
        rw (e, le-ltb (87 + d) 48 (omega arith), lt-leb (87 + d) 57 (omega arith), le-ltb (87 + d) 97 (omega arith), le-leb (87 + d) 102 (omega arith)) (omega arith)

hex_value : (k w : ℕ) → w < 16 ^ k → fold 16 digit_of 0 (hex_in k w) ≡ w
unfolding fold hex_in
hex_value zero w h = omega arith
hex_value (suc k) w h =
    let g : w < 16 ^ k * 16 = omega arith in
    let l : w / 16 < 16 ^ k = (div-lt_iff_lt-mul {k = 16} {x = w} {y = 16 ^ k} (omega arith)).1 g in
    rw (fold_snoc 16 digit_of 0 (hex_in k (w / 16)) (glyph (w % 16)), hex_value k (w / 16) l, hex_digit (w % 16) (mod-lt w (omega arith))) (div-add-mod' w 16)

pub hex_length : (k w : ℕ) → length (hex_in k w) ≡ k
unfolding hex_in
hex_length zero w = refl
hex_length (suc k) w = rw (length-append (hex_in k (w / 16)) (glyph (w % 16) ∷ []), hex_length k (w / 16)) (omega arith)

-- ---- numbers

unfoldable Digits : List ℕ → Type 0
Digits [] = Unit {0}
Digits (d ∷ ds) = (48 ≤ d) × (d ≤ 57) × Digits ds

digits_snoc : (ds : List ℕ) (d : ℕ) → Digits ds → 48 ≤ d → d ≤ 57 → Digits (ds ++ (d ∷ []))
unfolding Digits
digits_snoc [] d h l g = (l, g, tt)
digits_snoc (e ∷ ds) d h l g = (h.0, h.1, digits_snoc ds d h.2 l g)

decimal_digits : (k n : ℕ) → Digits (decimal_in k n)
unfolding Digits decimal_in
decimal_digits zero n = tt
decimal_digits (suc k) n = by (decimal_digits k (n / 10)) (ltb n 10) refl
  where
    by : Digits (decimal_in k (n / 10)) → (b : Bool) → ltb n 10 ≡ b → Digits (decimal_in (suc k) n)
    by shorter true e = let l = ltb-true n 10 e in rw e (omega arith, omega arith, tt)
    by shorter false e =
        let m : n % 10 < 10 = mod-lt n (omega arith) in
        rw e (digits_snoc (decimal_in k (n / 10)) (48 + n % 10) shorter (omega arith) (omega arith))

pub decimal-length : (k j n : ℕ) → n < 10 ^ suc j → length (decimal_in k n) ≤ suc j
unfolding decimal_in
decimal-length zero j n h = omega arith
decimal-length (suc k) j n h = by (λ i. decimal-length k i (n / 10)) (ltb n 10) refl j h
  where
    by : ((i : ℕ) → n / 10 < 10 ^ suc i → length (decimal_in k (n / 10)) ≤ suc i) → (b : Bool) → ltb n 10 ≡ b → (j : ℕ) → n < 10 ^ suc j → length (decimal_in (suc k) n) ≤ suc j
    by shorter true e j h = rw e (omega arith)
    by shorter false e zero h = let l = ltb-false n 10 e in absurd (omega arith)
    by shorter false e (suc j) h =
        let g : n < 10 ^ suc j * 10 = omega arith in
        let l : n / 10 < 10 ^ suc j = (div-lt_iff_lt-mul {k = 10} {x = n} {y = 10 ^ suc j} (omega arith)).1 g in
        rw (e, length-append (decimal_in k (n / 10)) ((48 + n % 10) ∷ [])) (omega (arith, shorter j l))

digits_read : (s ds rest : List ℕ) (k v p : ℕ) → Digits ds → length ds ≤ k → drop p s ≡ ds ++ 10 ∷ rest
    → number_at s k v p ≡ record { value = fold 10 plain v ds; next = p + length ds }
unfolding Digits number_at fold
digits_read s [] rest zero v p d h e = rw add-zero
digits_read s [] rest (suc k) v p d h e = rw (head_at s p (10 ∷ rest) e, add-zero)
digits_read s (x ∷ ds) rest zero v p d h e = absurd (omega arith)
digits_read s (x ∷ ds) rest (suc k) v p d h e =
    let g : p + suc (length ds) ≡ p + 1 + length ds = omega arith in
    rw (head_at s p (x ∷ ds ++ 10 ∷ rest) e, le-ltb x 48 d.0, le-ltb 57 x d.1, g)
    (digits_read s ds rest k (v * 10 + (x - 48)) (p + 1) d.2 (omega arith) (on s p 1 (x ∷ ds ++ 10 ∷ rest) e))

pub number_read : (s rest : List ℕ) (n p : ℕ) → n < 10 ^ 4 → drop p s ≡ decimal n ++ 10 ∷ rest
    → number_at s 4 0 p ≡ record { value = n; next = p + length (decimal n) }
number_read s rest n p h e =
    digits_read s (decimal n) rest 4 0 p (decimal_digits 20 n) (decimal-length 20 3 n h) e
    ∙ ap (λ (v : ℕ). record { value = v; next = p + length (decimal n) }) (decimal-value 20 n (omega arith))

-- ---- words

glyph_no_newline : (d : ℕ) → glyph d ≡ 10 → ⊥
glyph_no_newline d h = by (ltb d 10) refl
  where
    by : (b : Bool) → ltb d 10 ≡ b → ⊥
    by true e = let f : 48 + d ≡ 10 = rw e at h in omega arith
    by false e = let f : 87 + d ≡ 10 = rw e at h in omega arith

hex_no_newline : (k w : ℕ) (l : List ℕ) → get_or (hex_in (suc k) w ++ l) 0 0 ≡ 10 → ⊥
unfolding hex_in
hex_no_newline zero w l h = glyph_no_newline (w % 16) h
hex_no_newline (suc k) w l h =
    hex_no_newline k (w / 16) (glyph (w % 16) ∷ l) (ap (λ (m : List ℕ). get_or m 0 0) (sym (append_assoc (hex_in (suc k) (w / 16)) (glyph (w % 16) ∷ []) l)) ∙ h)

hex_read : (s ds l : List ℕ) (i w : ℕ) → drop i s ≡ ds ++ l → digits_from s (length ds) i w ≡ fold 16 digit_of w ds
unfolding digits_from fold
hex_read s [] l i w e = refl
hex_read s (d ∷ ds) l i w e =
    ap (λ (x : ℕ). digits_from s (length ds) (i + 1) (w * 16 + digit_of x)) (head_at s i (d ∷ ds ++ l) e)
    ∙ hex_read s ds l (i + 1) (w * 16 + digit_of d) (on s i 1 (d ∷ ds ++ l) e)

-- a byte that is no newline, and a word
module _ (s l : List ℕ) (b w p : ℕ) (no : b ≡ 10 → ⊥) (e : drop p s ≡ b ∷ word w ++ l) where
  after_byte : drop (p + 1) s ≡ word w ++ l
  after_byte = on s p 1 (b ∷ word w ++ l) e

  word_read : w < 2 ^ 64 → digits_from s 16 (p + 1) 0 ≡ w
  word_read h =
      rw (hex_length 16 w) at (hex_read s (word w) l (p + 1) 0 after_byte) ∙ hex_value 16 w h

  after_word : drop (p + 17) s ≡ l
  after_word =
      let g : p + 17 ≡ p + 1 + 16 = omega arith in
      rw (g, on s (p + 1) 16 (word w ++ l) after_byte) (drop_at (word w) l 16 (hex_length 16 w))

  more_there : more_at s p ≡ true
  unfolding more_at
  more_there =
      let n : length s - p ≡ suc (length (word w ++ l)) = sym (length-drop p s) ∙ ap length e in
      let m : length (word w ++ l) ≡ 16 + length l = rw (length-append (word w) l, hex_length 16 w) in
      let f : get_or s (p + 1) 0 ≡ get_or (word w ++ l) 0 0 = head_at s (p + 1) (word w ++ l) after_byte in
      rw (le-ltb (length s) (p + 17) (omega arith), head_at s p (b ∷ word w ++ l) e, ne_eqb b 10 no, f, ne_eqb (get_or (word w ++ l) 0 0) 10 (hex_no_newline 15 w l))

abbrev pub Words64 : List ℕ → Type 0
Words64 ws = (i : ℕ) → i < length ws → get_or ws i 0 < 2 ^ 64

others64 : (w : ℕ) (ws : List ℕ) → Words64 (w ∷ ws) → Words64 ws
others64 w ws h i l = h (suc i) (omega arith)

-- at a newline, or just before one, there are no more
no_more : (s : List ℕ) (p : ℕ) → get_or s p 0 ≡ 10 → more_at s p ≡ false
unfolding more_at
no_more s p h = by (ltb (length s) (p + 17)) refl
  where
    by : (b : Bool) → ltb (length s) (p + 17) ≡ b → more_at s p ≡ false
    by true e = rw e
    by false e = rw (e, h)

no_first : (s : List ℕ) (p b : ℕ) → (b ≡ 10 → ⊥) → get_or s p 0 ≡ b → get_or s (p + 1) 0 ≡ 10 → more_at s p ≡ false
unfolding more_at
no_first s p b other g h = by (ltb (length s) (p + 17)) refl
  where
    by : (t : Bool) → ltb (length s) (p + 17) ≡ t → more_at s p ≡ false
    by true e = rw e
    by false e = rw (e, g, ne_eqb b 10 other, h)

spaced_read : (s rest ws : List ℕ) (k p : ℕ) → Words64 ws → length ws ≤ k → drop p s ≡ spaced ws ++ 10 ∷ rest → words_at s k p ≡ ws
unfolding spaced words_at
spaced_read s rest [] zero p a h e = refl
spaced_read s rest [] (suc k) p a h e = rw (no_more s p (head_at s p (10 ∷ rest) e))
spaced_read s rest (w ∷ ws) zero p a h e = absurd (omega arith)
spaced_read s rest (w ∷ ws) (suc k) p a h e =
    let l = spaced ws ++ 10 ∷ rest in
    let f : drop p s ≡ 32 ∷ word w ++ l = e ∙ ap (λ (m : List ℕ). 32 ∷ m) (append_assoc (word w) (spaced ws) (10 ∷ rest)) in
    let no : ◌≡◌ {A = ℕ} 32 10 → ⊥ = λ z. omega arith in
    rw (more_there s l 32 w p no f, word_read s l 32 w p no f (a 0 (omega arith)), spaced_read s rest ws k (p + 17) (others64 w ws a) (omega arith) (after_word s l 32 w p no f))

-- the words of a line, from the `=` before them on
pub words_read : (s rest ws : List ℕ) (k p : ℕ) → Words64 ws → length ws ≤ k → drop p s ≡ 61 ∷ words ws ++ 10 ∷ rest → words_at s k p ≡ ws
unfolding words words_at
words_read s rest [] zero p a h e = refl
words_read s rest [] (suc k) p a h e =
    let no : ◌≡◌ {A = ℕ} 61 10 → ⊥ = λ z. omega arith in
    rw (no_first s p 61 no (head_at s p (61 ∷ 10 ∷ rest) e) (head_at s (p + 1) (10 ∷ rest) (on s p 1 (61 ∷ 10 ∷ rest) e)))
words_read s rest (w ∷ ws) zero p a h e = absurd (omega arith)
words_read s rest (w ∷ ws) (suc k) p a h e =
    let l = spaced ws ++ 10 ∷ rest in
    let f : drop p s ≡ 61 ∷ word w ++ l = e ∙ ap (λ (m : List ℕ). 61 ∷ m) (append_assoc (word w) (spaced ws) (10 ∷ rest)) in
    let no : ◌≡◌ {A = ℕ} 61 10 → ⊥ = λ z. omega arith in
    rw (more_there s l 61 w p no f, word_read s l 61 w p no f (a 0 (omega arith)), spaced_read s rest ws k (p + 17) (others64 w ws a) (omega arith) (after_word s l 61 w p no f))

-- ---- how long they are

pub spaced-length : (ws : List ℕ) → length (spaced ws) ≡ 17 * length ws
unfolding spaced
spaced-length [] = refl
spaced-length (w ∷ ws) = rw (length-append (word w) (spaced ws), hex_length 16 w, spaced-length ws) (omega arith)

pub words-length : (w : ℕ) (ws : List ℕ) → suc (length (words (w ∷ ws))) ≡ 17 * length (w ∷ ws)
unfolding words
words-length w ws = rw (length-append (word w) (spaced ws), hex_length 16 w, spaced-length ws) (omega arith)

pub words-few : (ws : List ℕ) → length (words ws) ≤ 17 * length ws
unfolding words
words-few [] = omega arith
words-few (w ∷ ws) = omega (arith, words-length w ws)

pub words_many : (ws : List ℕ) → 17 * length ws ≤ suc (length (words ws))
words_many [] = omega arith
words_many (w ∷ ws) = omega (arith, words-length w ws)
