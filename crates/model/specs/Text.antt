-- The text that the program `sheet` reads, and what it prints, byte for byte. Definitions only. Assumes nothing.
-- A text is well laid out when it is the text of some request within bounds: `text_of` is the grammar, read forward. So a text is read
-- as some request whatever it is, and laid out where it is the text of that.
use Rattle.std.specs.Prelude.{ℕ, zero, suc, ◌+◌, ◌-◌, ◌*◌, ◌^◌, ◌/◌, ◌%◌, ◌≤◌, ◌<◌, Bool, true, false, not, ◌&&◌, ◌||◌, cond, List, [], ◌∷◌, ◌++◌, map, eqb, ltb, leb, length, get_or, replicate, Float}
use Rattle.std.specs.Float.{binary64}
use Rattle.std.specs.Float.Ieee.{is_nan, of_bits, to_bits}
use Rattle.model.specs.Ascii.{ascii}
use Rattle.model.specs.Move.{Moved, move_call}

-- ---- rooms

-- the bytes that a text has at most
abbrev pub text_bytes : ℕ
text_bytes = 40000

-- words of the form, and as many of the factor, that are read: one more than a text has, since a word takes 17 bytes of its 40,000
abbrev pub word_room : ℕ
word_room = 2353

-- bytes that any sheet fits: 140 for names, numbers and newlines, and 17 for each word of a form and a factor, 80,142 in all
abbrev pub sheet_room : ℕ
sheet_room = 81000

-- ---- numbers

-- the byte of a digit below 16: `0` to `9`, then `a` to `f`
abbrev pub glyph : ℕ → ℕ
glyph d = cond (ltb d 10) (48 + d) (87 + d)

-- n in decimal, with no leading zero but in 0; every number below 10^k
unfoldable pub decimal_in : ℕ → ℕ → List ℕ
decimal_in zero n = []
decimal_in (suc k) n = cond (ltb n 10) ((48 + n) ∷ []) (decimal_in k (n / 10) ++ ((48 + n % 10) ∷ []))

-- every number that 64 bits hold has at most 20 digits
abbrev pub decimal : ℕ → List ℕ
decimal n = decimal_in 20 n

-- the last k hexadecimal digits of w
unfoldable pub hex_in : ℕ → ℕ → List ℕ
hex_in zero w = []
hex_in (suc k) w = hex_in k (w / 16) ++ (glyph (w % 16) ∷ [])

abbrev pub word : ℕ → List ℕ
word w = hex_in 16 w

-- words, with a space before each
unfoldable pub spaced : List ℕ → List ℕ
spaced [] = []
spaced (w ∷ ws) = 32 ∷ word w ++ spaced ws

-- words, with one space between; none at all is nothing
unfoldable pub words : List ℕ → List ℕ
words [] = []
words (w ∷ ws) = word w ++ spaced ws

-- a line: its name, what it says, a newline
abbrev pub line : List ℕ → List ℕ → List ℕ
line name says = name ++ says ++ (10 ∷ [])

-- ---- what is read

-- what the five lines say: three numbers, and the words of the form and of the factor
pub record Request : Type 0 where
  pub n : ℕ
  pub from : ℕ
  pub to : ℕ
  pub form : List ℕ
  pub factor : List ℕ

unfoldable pub text_of : Request → List ℕ
text_of r =
    line (ascii "n=") (decimal r.n)
    ++ line (ascii "from=") (decimal r.from)
    ++ line (ascii "to=") (decimal r.to)
    ++ line (ascii "t=") (words r.form)
    ++ line (ascii "u=") (words r.factor)

-- numbers of 1 to 4 digits, words of 64 bits, at most 40,000 bytes in all
pub record InBounds (r : Request) : Type 0 where
  pub n : r.n < 10 ^ 4
  pub from : r.from < 10 ^ 4
  pub to : r.to < 10 ^ 4
  pub form : (i : ℕ) → i < length r.form → get_or r.form i 0 < 2 ^ 64
  pub factor : (i : ℕ) → i < length r.factor → get_or r.factor i 0 < 2 ^ 64
  pub bytes : length (text_of r) ≤ text_bytes

-- a number, and the place after its digits
pub record Taken : Type 0 where
  pub value : ℕ
  pub next : ℕ

-- the number of at most k digits from place p on, after the digits of v
unfoldable pub number_at : List ℕ → ℕ → ℕ → ℕ → Taken
number_at s zero v p = record { value = v; next = p }
number_at s (suc k) v p =
    cond (ltb (get_or s p 0) 48) (record { value = v; next = p })
    (cond (ltb 57 (get_or s p 0)) (record { value = v; next = p }) (number_at s k (v * 10 + (get_or s p 0 - 48)) (p + 1)))

-- the value of a lowercase hexadecimal digit, and 0 of any other byte
unfoldable pub digit_of : ℕ → ℕ
digit_of b = cond (ltb b 48) 0 (cond (leb b 57) (b - 48) (cond (ltb b 97) 0 (cond (leb b 102) (b - 87) 0)))

-- the word w with the k digits after it that stand from place i on
unfoldable pub digits_from : List ℕ → ℕ → ℕ → ℕ → ℕ
digits_from s zero i w = w
digits_from s (suc k) i w = digits_from s k (i + 1) (w * 16 + digit_of (get_or s i 0))

-- a word follows the byte at place p: there is room for one, and no newline there or just after
unfoldable pub more_at : List ℕ → ℕ → Bool
more_at s p = cond (ltb (length s) (p + 17)) false (cond (eqb (get_or s p 0) 10) false (not (eqb (get_or s (p + 1) 0) 10)))

-- at most k words, each after one byte, from place p on
unfoldable pub words_at : List ℕ → ℕ → ℕ → List ℕ
words_at s zero p = []
words_at s (suc k) p = cond (more_at s p) (digits_from s 16 (p + 1) 0 ∷ words_at s k (p + 17)) []

-- where the `=` before the factor's words stands, when that before the form's k words stands at place q: after the words, a newline and `u`
unfoldable pub factor_place : ℕ → ℕ → ℕ
factor_place q k = q + 17 * k + cond (eqb k 0) 3 2

-- what a text is taken to say, whatever it is
unfoldable pub request_of : List ℕ → Request
request_of s =
    let n = number_at s 4 0 2 in
    let from = number_at s 4 0 (n.next + 6) in
    let to = number_at s 4 0 (from.next + 4) in
    let form = words_at s word_room (to.next + 2) in
    record {
      n = n.value;
      from = from.value;
      to = to.value;
      form = form;
      factor = words_at s word_room (factor_place (to.next + 2) (length form));
    }

-- whether two texts are the same, byte for byte
unfoldable pub same : List ℕ → List ℕ → Bool
same [] [] = true
same [] (b ∷ ys) = false
same (a ∷ xs) [] = false
same (a ∷ xs) (b ∷ ys) = eqb a b && same xs ys

-- a text is laid out where it is no longer than allowed, and the text of what it is taken to say
unfoldable pub laid_out : List ℕ → Bool
laid_out s = leb (length s) text_bytes && same s (text_of (request_of s))

-- the numbers of words: an f64 by its bits, every NaN as one
abbrev pub numbers : List ℕ → List Float
numbers ws = map (of_bits binary64) ws

-- ---- what is printed

-- the word of a number; a NaN prints as 7ff8000000000000
unfoldable pub word_of : Float → ℕ
word_of x = cond (is_nan x) 0x7ff8_0000_0000_0000 (to_bits binary64 x)

abbrev pub words_of : List Float → List ℕ
words_of xs = map word_of xs

abbrev pub answer_line : ℕ → List ℕ
answer_line a = line (ascii "answer=") (decimal a)

-- the six lines of an accepted move: its counts, and the words of the form and of the factor. Without a factor the last is `u=` alone
unfoldable pub accepted : ℕ → ℕ → ℕ → List ℕ → List ℕ → List ℕ
accepted landed swaps declined t u =
    answer_line 0
    ++ line (ascii "landed=") (decimal landed)
    ++ line (ascii "swaps=") (decimal swaps)
    ++ line (ascii "declined=") (decimal declined)
    ++ line (ascii "t=") (words t)
    ++ line (ascii "u=") (words u)

-- turned away, the `answer=` line alone
unfoldable pub printed_move : Moved → List ℕ
printed_move m =
    cond (eqb m.answer 0) (accepted m.landed m.swaps m.declined (words_of m.form) (words_of m.factor))
    (answer_line m.answer)

-- 2 for n 0 or above 32, then what the move gives, with the counts of words as lengths
unfoldable pub printed : Request → List ℕ
printed r =
    cond (eqb r.n 0 || ltb 32 r.n) (answer_line 2)
    (printed_move (move_call binary64 r.n r.n (numbers r.form) (numbers r.factor) r.from r.to))

-- what the program prints for what it reads: the sheet of the request that a text says, and the answer 1 where it is not laid out
unfoldable pub sheet_of : List ℕ → List ℕ
sheet_of input = cond (laid_out input) (printed (request_of input)) (answer_line 1)

-- ---- what the call `sheet` does

-- how many bytes the sheet has, and what the lent buffer then holds
pub record Sheet : Type 0 where
  pub count : ℕ
  pub buffer : List ℕ

-- the sheet, then zeros; where the buffer has less room than any sheet fits, 0, and it stays as it is
unfoldable pub sheet_call : List ℕ → List ℕ → Sheet
sheet_call out input =
    cond (ltb (length out) sheet_room) (record { count = 0; buffer = out })
    (record { count = length (sheet_of input); buffer = sheet_of input ++ replicate (length out - length (sheet_of input)) 0 })
