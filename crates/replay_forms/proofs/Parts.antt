-- What the parts are that a line is read in, and when its words fit. Assumes nothing.
use Prim.Native.Nat.{ℕ, ◌+◌, ◌*◌, ◌≤◌, ◌<◌}
use mathlib.Core.Path.{◌≡◌, refl, sym, ap, ◌∙◌}
use mathlib.Core.Bool.{true}
use mathlib.Core.List.{List, ◌∷◌}
use native.Mathlib.Omega.{arith}
use lib.ListN.{length, get_or, take, drop}
use lib.Seq.{drop-drop, get_or-drop, get_or-take, take_all}
use lib.Ieee.{Float}
use borrow.Author.Tests.{le-leb, eq-eqb}
use Rattle.std.specs.Prelude.{map, from_bits}
use Rattle.std.specs.Float.{binary64}
use Rattle.replay_forms.specs.Lines.{fits}

-- the numbers of words
abbrev pub numbers : List ℕ → List Float
numbers w = map (from_bits binary64) w

pub fit : (words rest once a b : ℕ) → once ≤ 8320 → a ≤ 8320 → b ≤ 8320 → words ≡ rest + once + 2 * (a + b) → fits words rest once a b ≡ true
unfolding fits
fit words rest once a b o h k e = rw (le-leb once 8320 o, le-leb a 8320 h, le-leb b 8320 k, eq-eqb words (rest + once + 2 * (a + b)) e)

-- the first of the words from word i on
pub word : (i : ℕ) (w : List ℕ) → get_or (drop i w) 0 0 ≡ get_or w i 0
word i w = get_or-drop i w 0 0 ∙ ap (λ (j : ℕ). get_or w j 0) (omega arith)

-- the words after j more
pub further : (w : List ℕ) {x y : List ℕ} (i j k : ℕ) → x ≡ drop i w → y ≡ drop j x → i + j ≡ k → y ≡ drop k w
further w i j k e f h = rw (f, e, drop-drop j i w, h)

-- all words that are left after j more
pub to_end : (w : List ℕ) {x y : List ℕ} (i j b : ℕ) → x ≡ drop i w → y ≡ drop j x → length y ≡ b → y ≡ take b (drop (i + j) w)
to_end w i j b e f all =
    let g = further w i j (i + j) e f refl in
    g ∙ sym (take_all b (drop (i + j) w) (rw (← g, all) (omega arith)))

-- n and the stride after the first i words, and what follows them
module _ (w : List ℕ) (i more : ℕ) {x : List ℕ} (e : x ≡ drop i w) where
  pub n-at : {n : ℕ} → n ≡ get_or x 0 0 → n ≡ get_or w i 0
  n-at h = rw (h, e) (word i w)

  pub ld-at : {ld : ℕ} → ld ≡ get_or x more 0 → ld ≡ get_or w (i + more) 0
  ld-at h = rw (h, e) (get_or-drop i w more 0)

  pub head-at : {y : List ℕ} → y ≡ drop (1 + more) x → y ≡ drop (i + 1 + more) w
  head-at h = further w i (1 + more) (i + 1 + more) e h (omega arith)

-- two buffers of a and b numbers from word i on, and what follows them
module _
    (w : List ℕ) (i a b : ℕ) {x y z p q : List ℕ}
    (e : x ≡ drop i w) (p-is : p ≡ take a x) (f : y ≡ drop a x) (q-is : q ≡ take b y) (g : z ≡ drop b y)
  where
    pub first-buffer : p ≡ take a (drop i w)
    first-buffer = rw (p-is, e)

    pub second-buffer : q ≡ take b (drop (i + a) w)
    second-buffer = rw (q-is, further w i a (i + a) e f refl)

    pub after-buffers : z ≡ drop (i + a + b) w
    after-buffers = further w (i + a) b (i + a + b) (further w i a (i + a) e f refl) g refl

-- a word of the first k
pub taken : (w : List ℕ) {x : List ℕ} (k i : ℕ) → x ≡ take k w → i < k → get_or x i 0 ≡ get_or w i 0
taken w k i e h = rw (e, get_or-take k w i 0 h)

-- the first word and the rest
pub first : {w rest : List ℕ} {x : ℕ} → w ≡ x ∷ rest → (x ≡ get_or w 0 0) × (rest ≡ drop 1 w)
first e = (sym (ap (λ (l : List ℕ). get_or l 0 0) e), sym (ap (drop 1) e))

-- a word that stands at place i
pub word-at : (w : List ℕ) (i : ℕ) {x rest : List ℕ} {y : ℕ} → x ≡ drop i w → x ≡ y ∷ rest → y ≡ get_or w i 0
word-at w i e f = (first f).0 ∙ rw e (word i w)

-- and the words after it
pub after-word : (w : List ℕ) (i : ℕ) {x rest : List ℕ} {y : ℕ} → x ≡ drop i w → x ≡ y ∷ rest → rest ≡ drop (i + 1) w
after-word w i e f = further w i 1 (i + 1) e (first f).1 refl
