-- `replay_text::word::word` meets its contract. The invariant: the digits that are left, after the word so far, give the whole word. Assumes nothing.
use Rattle.std.proofs.Common.{◌≡◌, ℕ, ◌+◌, ◌-◌, ◌*◌, ◌<◌, List, length, get_or, sym, ◌∙◌, arith, eq-eqb, Option, Some, None, take, drop}
use Rattle.std.proofs.lemmas.List.{get_or-drop, get_or-take}
use Rattle.bits.specs.Hex.{digit_of}
use Rattle.bits.proofs.Digits.{grow, room}
use Rattle.replay_text.specs.Text.{digits_from, word_at}
use Rattle.replay_text.proofs.Places.{left}
use Rattle.replay_text.proofs.word.word.Goals as goal

-- the digits are all bytes after the first
module _ (s : List ℕ) (i w : ℕ) (inside : i < 16) where
  digit_at : length s ≡ 17 → get_or (take (length s - 1) (drop 1 s)) i 0 ≡ get_or s (1 + i) 0
  digit_at h = rw h (get_or-take 16 (drop 1 s) i 0 inside ∙ get_or-drop 1 s i 0)

  bad : digit_of (get_or s (1 + i) 0) ≡ None → None ≡ digits_from s (16 - i) (1 + i) w
  unfolding digits_from
  bad h = rw (left 16 i inside, h)

  more : (d : ℕ) → digit_of (get_or s (1 + i) 0) ≡ Some d → digits_from s (16 - (i + 1)) (1 + (i + 1)) (w * 16 + d) ≡ digits_from s (16 - i) (1 + i) w
  unfolding digits_from
  more d h = let e : 1 + (i + 1) ≡ 1 + i + 1 = omega arith in rw (left 16 i inside, h, e)

-- where a place begins with a space
digits : (s : List ℕ) (r : Option ℕ) → length s ≡ 17 → get_or s 0 0 ≡ 32 → r ≡ digits_from s 16 1 0 → r ≡ word_at s 0
unfolding word_at
digits s r h g e = rw (h, eq-eqb _ _ g) e

pub overflow_mul-word : goal.overflow_mul-word
overflow_mul-word c = omega (arith, room c.loop-b.b-index c.loop-b.word 0)

pub returns-in_err-word : goal.returns-in_err-word
returns-in_err-word c =
    let i = c.loop-b.b-index in
    let s = c.args.place.now in
    let h : i < 16 = omega (arith, c.requires) in
    let e : digit_of (get_or s (1 + i) 0) ≡ None = rw (← digit_at s i 0 h c.requires) (sym c.digit.ensures.value ∙ c.in_err-word.was) in
    digits s _ c.requires c.if-place-ne32.false (c.from_residual.ensures ∙ bad s i c.loop-b.word h e ∙ c.loop-b.invariant.1)

pub overflow_add-word : goal.overflow_add-word
overflow_add-word c = omega (arith, room c.loop-b.b-index c.loop-b.word c.in_ok-word.field-0, c.in_ok-word.ensures.below)

pub loop-b-preserved : goal.loop-b-preserved
loop-b-preserved c =
    let i = c.loop-b.b-index in
    let s = c.args.place.now in
    let h : i < 16 = omega (arith, c.requires) in
    let e : digit_of (get_or s (1 + i) 0) ≡ Some c.in_ok-word.field-0 = rw (← digit_at s i 0 h c.requires) (sym c.digit.ensures.value ∙ c.in_ok-word.was) in
    (grow _ _ _ c.loop-b.invariant.0 c.in_ok-word.ensures.below, more s i c.loop-b.word h _ e ∙ c.loop-b.invariant.1)
