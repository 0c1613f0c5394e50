-- `sheet_words::read::words` meets its contract. Assumes nothing.
use Rattle.std.proofs.Common.{rules, ◌≡◌, ℕ, List, true, false, ◌+◌, ◌-◌, ◌*◌, ◌<◌, ◌≤◌, ◌++◌, ◌∙◌, length, take, set, sym, arith, add-one, append-nil}
use Rattle.std.proofs.lemmas.List.{set-get_or}
use lib.Seq.{take-suc-set, append_snoc}
use Rattle.model.specs.Text.{digits_from, more_at, words_at}
use Rattle.sheet_words.proofs.Reading.{left, more-fits}
use Rattle.sheet_words.proofs.Put.{rest_stays, put-start}
use Rattle.sheet_words.proofs.read.words.Goals as goal

module _ (s out : List ℕ) (m n p : ℕ) (inside : n < m) where
  stop : more_at s p ≡ false → take n out ≡ take n out ++ words_at s (m - n) p
  unfolding words_at
  stop e = rw (left m n inside, e, append-nil)

  next : (w : ℕ) → n < length out → more_at s p ≡ true → w ≡ digits_from s 16 (p + 1) 0
      → take (n + 1) (set out n w) ++ words_at s (m - (n + 1)) (p + 17) ≡ take n out ++ words_at s (m - n) p
  unfolding words_at
  next w h e is = rw (left m n inside, e, add-one n, take-suc-set out n w h, append_snoc, is)

none : (s out : List ℕ) (m n p : ℕ) → m ≤ n → take n out ≡ take n out ++ words_at s (m - n) p
unfolding words_at
none s out m n p h = let e : m - n ≡ 0 = omega arith in rw (e, append-nil)

pub returns-then-not-more : goal.returns-then-not-more
returns-then-not-more c =
    let l = c.loop-n in
    rw (set-get_or l.out l.n 0)
    (search rules, put-start _ _ _ _ (search rules) (stop _ l.out _ l.n _ c.loop-n-test.true (sym c.more.ensures ∙ c.if-not-more.true) ∙ l.invariant.0) l.invariant.1)

pub word-requires : goal.word-requires
word-requires c = omega (arith, more-fits _ _ (sym c.more.ensures ∙ c.if-not-more.false))

pub loop-n-preserved : goal.loop-n-preserved
loop-n-preserved c =
    let l = c.loop-n in
    let p : c.args.at + 17 * (l.n + 1) ≡ c.args.at + 17 * l.n + 17 = omega arith in
    (rw p (next _ l.out _ l.n _ c.loop-n-test.true _ (omega arith) (sym c.more.ensures ∙ c.if-not-more.false) c.word.ensures ∙ l.invariant.0), rest_stays _ l.out l.n _ l.invariant.1)

pub returns : goal.returns
returns c =
    let n : c.loop-n.n ≡ length c.loop-n.out = omega arith in
    rw (← n) (search rules, put-start _ _ _ _ (search rules) (none _ c.loop-n.out _ c.loop-n.n _ c.loop-n-test.false ∙ c.loop-n.invariant.0) c.loop-n.invariant.1)
