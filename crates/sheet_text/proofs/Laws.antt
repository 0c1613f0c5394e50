-- A text is that of one request, which is found, and what was printed reads back, in the next request too. Assumes nothing.
use mathlib.Core.Path.{◌≡◌, refl, sym, ap, ap₂, ◌∙◌}
use mathlib.Core.Bool.{Bool, true, false, not, ◌||◌, true≢false}
use mathlib.Core.List.{List, [], ◌∷◌, ◌++◌}
use Prim.Native.Nat.{ℕ, zero, suc, ◌*◌, ◌^◌, ◌≤◌, ◌<◌}
use native.Mathlib.Nat.{mul-le-mul_left}
use native.Mathlib.Omega.{arith}
use lib.Dec.{T, eqb, ltb}
use lib.ListN.{length, length-append, length-map}
use lib.Ieee.{Float, binary64, fits, is_nan, of_bits}
use lib.Ieee.Bits.{of_bits-to_bits, of_bits-fits, to_bits-lt}
use borrow.Author.Tests.{eqb-true, le-ltb}
use Rattle.std.proofs.lemmas.Bool.{cond_both}
use Rattle.model.specs.Ascii.{ascii}
use Rattle.model.specs.Lines.{first_of}
use Rattle.model.specs.Form.{line2, line4}
use Rattle.model.specs.Move.{move_line, Moved, move_call}
use Rattle.model.specs.Text.{Request, text_of, InBounds, words, word_of, words_of, numbers, request_of, laid_out, printed, answer_line, sheet_of}
use Rattle.laws.proofs.InOrder.{passed}
use Rattle.laws_moves.proofs.Upper.{or_left}
use Rattle.laws_stride.proofs.Lines.{move-accepted}
use Rattle.laws_shape.specs.Numbers.{InFormat}
use Rattle.laws_shape.specs.Chains.{a_move, called, form_after, CanBeSent, factor_of}
use Rattle.laws_shape.proofs.Shape.{shape}
use Rattle.laws_shape.proofs.Chains.{sent_back_lem, buffers-sent_back, numbers_stay}
use Rattle.sheet_text.specs.Laws.{OneRequest, FoundExactly, SheetOfRequest, SheetOfNone, sent_back, RoundTrip, SheetsGoOn}
use Rattle.bits.proofs.Nan.{nan_is}
use Rattle.sheet_words.proofs.Reading.{Words64, words-few, decimal-length}
use Rattle.sheet_words.proofs.Back.{back, nested, from-n}
use Rattle.sheet_text.proofs.Whole.{laid_out_if, laid_out_only}

pub one_request : OneRequest
one_request q r a b e = sym (back (text_of q) q a refl) ∙ back (text_of q) r b e

found : (r : Request) → InBounds r → laid_out (text_of r) ≡ true
found r b = laid_out_if (text_of r) b.bytes (ap text_of (sym (back (text_of r) r b refl)))

pub found_exactly : FoundExactly
found_exactly = (λ r b. (found r b, back (text_of r) r b refl), laid_out_only)

pub sheet_of_request : SheetOfRequest
unfolding sheet_of
sheet_of_request r b = rw (found r b, back (text_of r) r b refl)

pub sheet_of-none : SheetOfNone
unfolding sheet_of
sheet_of-none s none = by (laid_out s) refl
  where
    by : (t : Bool) → laid_out s ≡ t → sheet_of s ≡ answer_line 1
    by true e = let h = laid_out_only s e in absurd (none (request_of s) h.0 h.1)
    by false e = rw e

-- ---- the word of a number reads back as the number

number-back : (x : Float) → T (fits binary64 x) → of_bits binary64 (word_of x) ≡ x
unfolding word_of of_bits
number-back x h = by (is_nan x) refl
  where
    by : (b : Bool) → is_nan x ≡ b → of_bits binary64 (word_of x) ≡ x
    by true e = rw e (sym (nan_is x e))
    by false e = rw e (of_bits-to_bits binary64 x h)

word_64 : (x : Float) → T (fits binary64 x) → word_of x < 2 ^ 64
unfolding word_of
word_64 x h = by (is_nan x) refl
  where
    by : (b : Bool) → is_nan x ≡ b → word_of x < 2 ^ 64
    by true e = rw e (omega arith)
    by false e = rw e (to_bits-lt binary64 x h)

others_fit : (x : Float) (xs : List Float) → InFormat binary64 (x ∷ xs) → InFormat binary64 xs
others_fit x xs h i l = h (suc i) (omega arith)

numbers-back : (xs : List Float) → InFormat binary64 xs → numbers (words_of xs) ≡ xs
numbers-back [] h = refl
numbers-back (x ∷ xs) h = ap₂ (λ (y : Float) (ys : List Float). y ∷ ys) (number-back x (h 0 (omega arith))) (numbers-back xs (others_fit x xs h))

words_64 : (xs : List Float) → InFormat binary64 xs → Words64 (words_of xs)
words_64 [] h i l = absurd (omega arith)
words_64 (x ∷ xs) h zero l = word_64 x (h 0 (omega arith))
words_64 (x ∷ xs) h (suc i) l = words_64 xs (others_fit x xs h) i (omega arith)

-- ---- and 32 rows of both are within bounds

printed-few : (xs : List Float) → length xs ≤ 1024 → length (words (words_of xs)) ≤ 17408
printed-few xs h = omega (arith, words-few (words_of xs), length-map xs word_of)

bytes : (r : Request) → r.n < 10 ^ 4 → r.from < 10 ^ 4 → r.to < 10 ^ 4 → length (words r.form) ≤ 17408 → length (words r.factor) ≤ 17408
    → length (text_of r) ≤ 40000
bytes r a b c t u =
    let n : length (text_of r) ≡ length (ascii "n=" ++ from-n r) = ap length (nested r) in
    let m = simp length-append at n in
    omega (arith, m, decimal-length 20 3 r.n a, decimal-length 20 3 r.from b, decimal-length 20 3 r.to c)

pub round_trip : RoundTrip
round_trip n from to xs ys a b c f g h k =
    let r = sent_back n from to xs ys in
    let i : InBounds r = record {
      n = a;
      from = b;
      to = c;
      form = words_64 xs f;
      factor = words_64 ys g;
      bytes = bytes r a b c (printed-few xs h) (printed-few ys k);
    } in (
      i,
      λ q j e.
          let s : q ≡ r = one_request q r j i e in
          (ap (λ (x : Request). numbers x.form) s ∙ numbers-back xs f, ap (λ (x : Request). numbers x.factor) s ∙ numbers-back ys g),
    )

-- ---- the words of a sheet in the next request

-- the numbers of words are those of the format
numbers_fit : (ws : List ℕ) → InFormat binary64 (numbers ws)
numbers_fit [] i l = absurd (omega arith)
numbers_fit (w ∷ ws) zero l = of_bits-fits binary64 w
numbers_fit (w ∷ ws) (suc i) l = numbers_fit ws i (omega arith)

-- 0 is the answer where no line is told
made : (n from to : ℕ) (t u : List Float) → (move_call binary64 n n t u from to).answer ≡ 0 → move_line binary64 n n t u from to ≡ 0
unfolding move_call
made n from to t u =
    let line = move_line binary64 n n t u from to in
    cond_both (eqb line 0) _ _ (λ (m : Moved). m.answer ≡ 0 → line ≡ 0) (λ e _. eqb-true line 0 e) (λ _ h. h)

square : (n : ℕ) → n ≤ 32 → n * n ≤ 1024
square n h = omega (arith, mul-le-mul_left n h)

factor_few : (n : ℕ) (u : List Float) → n ≤ 32 → line4 n n u ≡ false → length u ≤ 1024
unfolding line4
factor_few n u h e = by (eqb (length u) (n * n)) (eqb (length u) 0) (eqb-true _ _) (eqb-true _ _) e
  where
    by : (a b : Bool) → (a ≡ true → length u ≡ n * n) → (b ≡ true → length u ≡ 0) → not (a || b) ≡ false → length u ≤ 1024
    by true b p q e = let i = p refl in omega (arith, square n h)
    by false true p q e = let i = q refl in omega arith
    by false false p q e = absurd (true≢false e)

-- the program has room for so many rows
rows_right : (n : ℕ) → n ≤ 32 → line2 n ≡ false → eqb n 0 || ltb 32 n ≡ false
unfolding line2
rows_right n h e = rw (or_left (eqb n 0) (ltb 64 n) e, le-ltb 32 n h)

pub sheets_go_on : SheetsGoOn
unfolding form_after called factor_of line4 first_of printed
sheets_go_on r from to k a x y =
    let t = numbers r.form in
    let u = numbers r.factor in
    let line = made r.n r.from r.to t u a in
    let form = move-accepted binary64 r.n r.n t u r.from r.to line in
    let own = (sent_back_lem binary64 r.n r.n t [] form).own.moves u r.from r.to in
    let lent : line4 r.n r.n u ≡ false = (passed (line4 r.n r.n u) 3 _ (sym own ∙ line)).0 in
    let c = a_move r.from r.to u in
    let m = move_call binary64 r.n r.n t u r.from r.to in
    let s : CanBeSent binary64 r.n r.n m.form = sent_back_lem binary64 r.n r.n t (c ∷ []) form in
    let z = shape binary64 r.n r.n m.form s.accepted in
    let fit : InFormat binary64 m.form = numbers_stay.form binary64 r.n r.n t (c ∷ []) (numbers_fit r.form) in
    let fit' : InFormat binary64 m.factor = numbers_stay.factor binary64 r.n r.n t c (numbers_fit r.factor) in
    let long : length m.factor ≡ length u = buffers-sent_back.factor binary64 r.n r.n t c in
    let l4 : line4 r.n r.n m.factor ≡ false = rw long lent in
    let q = sent_back r.n from to m.form m.factor in
    let i : InBounds q = (round_trip r.n from to m.form m.factor (omega arith) x y fit fit' (omega (arith, z.size, square r.n k)) (factor_few r.n m.factor k l4)).0 in
    record {
      in_bounds = i;
      sheet = sheet_of_request q i ∙ rw (rows_right r.n k z.rows, numbers-back m.form fit, numbers-back m.factor fit');
      own = s.own.moves m.factor from to ∙ rw l4;
    }
