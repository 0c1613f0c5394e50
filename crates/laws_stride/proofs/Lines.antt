-- The lines of a call. The lines about entries apply to both of two forms whose n rows read alike, or to neither; and where no line is told, the stride has room and the rows named are below n. Assumes nothing.
use mathlib.Core.Path.{◌≡◌, refl, sym, ap, ap₂}
use mathlib.Core.Logic.{inl, inr}
use Prim.Native.Nat.{ℕ, zero, suc, ◌+◌, ◌-◌, ◌*◌, ◌≤◌, ◌<◌}
use native.Mathlib.Omega.{arith}
use mathlib.Core.Bool.{Bool, true, false, not, ◌&&◌, ◌||◌, cond, true≢false}
use mathlib.Core.List.{List}
use lib.Dec.{eqb, ltb}
use lib.ListN.{length}
use lib.Ieee.{Float, Format, ne}
use borrow.Author.Tests.{ltb-true, ltb-false, eqb-true, eq-eqb, not-false}
use Rattle.model.specs.Arith.{zero_of}
use Rattle.model.specs.Form.{place, at, two_block, some, line2, line17, line3, line4, deep_in, line5, touching_in, line6, line7, form_line}
use Rattle.model.specs.Exchange.{line8, line9, crosses, line10, exchange_line}
use Rattle.model.specs.Move.{move_line}
use Rattle.laws.proofs.InOrder.{passed}
use Rattle.laws_moves.proofs.Upper.{at_least}
use Rattle.laws_stride.specs.Strides.{Allowed, SameRows, SameFactor}
use Rattle.laws_stride.proofs.Tests.{guarded, both_true}
use Rattle.laws_stride.proofs.Rowwise.{ReadsAs, nonzero_same, cell, same_at, rows_read}
use Rattle.laws_stride.proofs.Changes.{Room}

-- ---- entries

some_same : (k : ℕ) (p q : ℕ → Bool) → ((i : ℕ) → i < k → p i ≡ q i) → some k p ≡ some k q
unfolding some
some_same zero p q h = refl
some_same (suc k) p q h = ap₂ ◌||◌ (some_same k p q (λ i l. h i (omega arith))) (h k (omega arith))

module _ (f : Format) (ld md n : ℕ) {a b : List Float} (r : ReadsAs ld md n a b) where
  deep-same : (j : ℕ) → deep_in f ld n a j ≡ deep_in f md n b j
  unfolding deep_in
  deep-same j = some_same (n - (j + 2)) _ _ (λ k h. ap (λ (x : Float). ne x (zero_of f)) (go k h))
    where
      go : (k : ℕ) → k < n - (j + 2) → at a (place ld (j + 2) j + k) ≡ at b (place md (j + 2) j + k)
      go k h = same_at r (cell (j + 2 + k) j (omega arith))

  pub line5-same : line5 f ld n a ≡ line5 f md n b
  unfolding line5
  line5-same = some_same (n - 2) _ _ (λ j _. deep-same j)

  pub line6-same : line6 f ld n a ≡ line6 f md n b
  unfolding line6 touching_in
  line6-same = some_same (n - 2) _ _ (λ j h. ap₂ ◌&&◌ (nonzero_same f j (omega arith) r) (nonzero_same f (j + 1) (omega arith) r))

  crosses-same : (e : ℕ) → crosses f ld n a e ≡ crosses f md n b e
  unfolding crosses two_block
  crosses-same e = ap (λ (x : Bool). ltb 0 e && x) (guarded (ltb (e - 1 + 1) n) _ _ (λ h. nonzero_same f (e - 1) (ltb-true _ n h) r))

  line10-same : (j n1 n2 : ℕ) → line10 f ld n a j n1 n2 ≡ line10 f md n b j n1 n2
  unfolding line10
  line10-same j n1 n2 = rw (crosses-same j, crosses-same (j + n1), crosses-same (j + n1 + n2))

-- ---- lengths

-- a list has the length that is asked for
pub full : (ld n : ℕ) (t : List Float) → length t ≡ ld * n → not (eqb (length t) (ld * n)) ≡ false
full ld n t e = ap not (eq-eqb (length t) (ld * n) e)

pub empty : (ld n : ℕ) (u : List Float) → length u ≡ 0 → line4 ld n u ≡ false
unfolding line4
empty ld n u e = rw e (go (eqb 0 (ld * n)))
  where
    go : (b : Bool) → not (b || true) ≡ false
    go true = refl
    go false = refl

no_line4 : (ld md n : ℕ) (u v : List Float) → SameFactor ld md n u v → (line4 ld n u ≡ false) × (line4 md n v ≡ false)
unfolding line4
no_line4 ld md n u v (inl s) = (rw (eq-eqb (length u) (ld * n) s.size), rw (eq-eqb (length v) (md * n) s.size'))
no_line4 ld md n u v (inr s) = (empty ld n u s.0, empty md n v s.1)

-- ---- the lines of two calls

-- the lines of a form and a factor, and then the rest
form_lines : Format → ℕ → ℕ → List Float → List Float → ℕ → ℕ
form_lines f ld n t u rest = cond (line2 n) 2 (cond (line17 ld n) 17 (cond (line3 ld n t) 3 (cond (line4 ld n u) 4 (cond (line5 f ld n t) 5 (cond (line6 f ld n t) 6 rest)))))

module _ (f : Format) (ld md n : ℕ) (a b u v : List Float) (w : Allowed ld md n) (s : SameRows ld md n a b) (t : SameFactor ld md n u v) where
  lines_same : (k l : ℕ) → k ≡ l → form_lines f ld n a u k ≡ form_lines f md n b v l
  unfolding form_lines line3
  lines_same k l e =
      let x = no_line4 ld md n u v t in
      rw (w.first, w.second, full ld n a s.size, full md n b s.size', x.0, x.1, line5-same f ld md n (rows_read s), line6-same f ld md n (rows_read s), e)

  pub move_line-same : (from to : ℕ) → move_line f ld n a u from to ≡ move_line f md n b v from to
  unfolding move_line form_lines
  move_line-same from to = lines_same _ _ refl

  pub exchange_line-same : (j n1 n2 : ℕ) → exchange_line f ld n a u j n1 n2 ≡ exchange_line f md n b v j n1 n2
  unfolding exchange_line form_lines
  exchange_line-same j n1 n2 = lines_same _ _ (rw (line10-same f ld md n (rows_read s) j n1 n2))

-- ---- what no line turns away

below : (n p : ℕ) → line7 n p ≡ false → p < n
unfolding line7
below n p e = ltb-true p n (not-false (ltb p n) e)

one_or_two : (k : ℕ) → (eqb k 1 || eqb k 2) ≡ true → (1 ≤ k) × (k ≤ 2)
one_or_two k h = go (eqb k 1) (eqb k 2) (eqb-true k 1) (eqb-true k 2) h
  where
    go : (a b : Bool) → (a ≡ true → k ≡ 1) → (b ≡ true → k ≡ 2) → (a || b) ≡ true → (1 ≤ k) × (k ≤ 2)
    go true b p q e = let r = p refl in omega arith
    go false true p q e = let r = q refl in omega arith
    go false false p q e = absurd (true≢false (sym e))

pub sizes : (n1 n2 : ℕ) → line8 n1 n2 ≡ false → ((1 ≤ n1) × (n1 ≤ 2)) × ((1 ≤ n2) × (n2 ≤ 2))
unfolding line8
sizes n1 n2 h = let k = both_true _ _ (not-false _ h) in (one_or_two n1 k.0, one_or_two n2 k.1)

module _ (f : Format) (ld n : ℕ) (t u : List Float) where
  lines_passed : (rest : ℕ) → form_lines f ld n t u rest ≡ 0 → (n ≤ ld) × (rest ≡ 0) × (form_line f ld n t ≡ 0)
  unfolding form_lines form_line
  lines_passed rest h =
      let p2 = passed (line2 n) 1 _ h in
      let p17 = passed (line17 ld n) 16 _ p2.1 in
      let p3 = passed (line3 ld n t) 2 _ p17.1 in
      let p4 = passed (line4 ld n u) 3 _ p3.1 in
      let p5 = passed (line5 f ld n t) 4 _ p4.1 in
      let p6 = passed (line6 f ld n t) 5 _ p5.1 in
      (at_least ld n p17.0, p6.1, rw (p2.0, p17.0, p3.0, p5.0, p6.0))

  -- nor is one about the form by itself
  pub move-accepted : (from to : ℕ) → move_line f ld n t u from to ≡ 0 → form_line f ld n t ≡ 0
  unfolding move_line form_lines
  move-accepted from to h = (lines_passed _ h).2

  pub exchange-accepted : (j n1 n2 : ℕ) → exchange_line f ld n t u j n1 n2 ≡ 0 → form_line f ld n t ≡ 0
  unfolding exchange_line form_lines
  exchange-accepted j n1 n2 h = (lines_passed _ h).2

  pub move_passed : (from to : ℕ) → move_line f ld n t u from to ≡ 0 → (n ≤ ld) × (from < n) × (to < n)
  unfolding move_line form_lines
  move_passed from to h =
      let p = lines_passed _ h in
      let q = passed (line7 n from) 6 _ p.1 in
      (p.0, below n from q.0, below n to (passed (line7 n to) 6 0 q.1).0)

  pub exchange_passed : (j n1 n2 : ℕ) → exchange_line f ld n t u j n1 n2 ≡ 0 → (n ≤ ld) × Room n j n1 n2
  unfolding exchange_line form_lines line9
  exchange_passed j n1 n2 h =
      let p = lines_passed _ h in
      let p7 = passed (line7 n j) 6 _ p.1 in
      let p8 = passed (line8 n1 n2) 7 _ p7.1 in
      let p9 = passed (line9 n j n1 n2) 8 _ p8.1 in
      let z = sizes n1 n2 p8.0 in
      let l = ltb-false n (j + n1 + n2) p9.0 in
      (p.0, omega arith)
