-- `sheet_words::read::word` meets its contract. Assumes nothing.
use Rattle.std.proofs.Common.{◌≡◌, ℕ, List, ◌+◌, ◌-◌, ◌*◌, ◌<◌, ◌≤◌, ◌∙◌, get_or, take, drop, length, ap, arith, Option, Some, None}
use Rattle.std.specs.Option.{unwrap_or, IfSome}
use lib.Seq.{length-take-le}
use Rattle.std.proofs.lemmas.List.{length-drop, get_or-take, get_or-drop}
use Rattle.bits.specs.Hex as Hex
use Rattle.bits.proofs.Digits.{grow, room}
use Rattle.model.specs.Text.{digit_of, digits_from}
use Rattle.sheet_words.proofs.Reading.{left}
use Rattle.sheet_words.proofs.read.word.Goals as goal

-- the digit's value, and 0 where there is none
same : (b : ℕ) → unwrap_or (Hex.digit_of b) 0 ≡ digit_of b
unfolding Hex.digit_of digit_of
same b = grind (arith)

module _ (s : List ℕ) (m i at w d : ℕ) (inside : i < m) (is : d ≡ digit_of (get_or s (at + i) 0)) where
  more : digits_from s (m - (i + 1)) (at + (i + 1)) (w * 16 + d) ≡ digits_from s (m - i) (at + i) w
  unfolding digits_from
  more = let e : at + (i + 1) ≡ at + i + 1 = omega arith in rw (left m i inside, is, e)

none : (s : List ℕ) (m i at w : ℕ) → m ≤ i → w ≡ digits_from s (m - i) at w
unfolding digits_from
none s m i at w h = let e : m - i ≡ 0 = omega arith in rw e

small : (o : Option ℕ) → IfSome o (λ d. d < 16) → unwrap_or o 0 < 16
small None h = omega arith
small (Some d) h = h

-- the 16 bytes from a place on
module _ (s : List ℕ) (at : ℕ) (h : at + 16 ≤ length s) where
  abbrev piece : List ℕ
  piece = take (at + 16 - at) (drop at s)

  sixteen : length piece ≡ 16
  sixteen = omega (arith, length-take-le (at + 16 - at) (drop at s), length-drop at s)

  byte : (i : ℕ) → i < 16 → get_or piece i 0 ≡ get_or s (at + i) 0
  byte i l = get_or-take (at + 16 - at) (drop at s) i 0 (omega arith) ∙ get_or-drop at s i 0

pub overflow_mul-word : goal.overflow_mul-word
overflow_mul-word c = let n = sixteen _ c.args.at c.requires in omega (arith, room c.loop-b.b-index c.loop-b.word 0 (omega arith) c.loop-b.invariant.0 (omega arith))

pub overflow_add-word : goal.overflow_add-word
overflow_add-word c =
    let n = sixteen _ c.args.at c.requires in
    let d = small _ c.digit.ensures.below in
    omega (arith, room c.loop-b.b-index c.loop-b.word (unwrap_or c.digit.result 0) (omega arith) c.loop-b.invariant.0 d, c.unwrap_or.ensures)

pub loop-b-preserved : goal.loop-b-preserved
loop-b-preserved c =
    let l = c.loop-b in
    let n = sixteen _ c.args.at c.requires in
    let d = small _ c.digit.ensures.below in
    let e = ap (λ o. unwrap_or o 0) c.digit.ensures.value ∙ same _ ∙ ap digit_of (byte _ _ c.requires l.b-index (omega arith)) in
    rw c.unwrap_or.ensures (grow _ _ _ l.invariant.0 d, more _ 16 _ _ l.word _ (omega arith) e ∙ l.invariant.1)

pub returns : goal.returns
returns c = let n = sixteen _ c.args.at c.requires in none _ 16 _ _ _ (omega arith) ∙ c.loop-b.invariant.1
