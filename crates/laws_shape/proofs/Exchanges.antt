-- An exchange of either kind, where no 2-block lies across its edges: it is made of steps that fit, keeps the shape of the form and the edges outside, keeps numbers of the format such, and leaves none across the edge between the two blocks in their new order. Assumes nothing.
use mathlib.Core.Path.{◌≡◌, refl, ◌∙◌}
use Prim.Native.Nat.{ℕ, zero, suc, ◌+◌, ◌≤◌, ◌<◌}
use native.Mathlib.Decide.{ℕ_discrete}
use native.Mathlib.Omega.{arith}
use mathlib.Core.Bool.{Bool, true, false, not, ◌&&◌, cond, true≢false, false≢true}
use mathlib.Core.List.{List, [], ◌∷◌}
use lib.Dec.{eqb}
use lib.Ieee.{Float, Format}
use borrow.Author.Tests.{eqb-true, ne_eqb}
use Rattle.model.specs.Form.{zero_below}
use Rattle.model.specs.Schur22.{Block}
use Rattle.model.specs.Columns.{Reflect4}
use Rattle.model.specs.Swaps.{Change, unchanged, and_then, declining, declines_in, declined_of, swap11, swap12, swap21, window_at, solution_of, reflectors4, declines, swap22_by, swap22, swap_of, block_at, standardise}
use Rattle.model.specs.Exchange.{standardise_if, exchange_whole, exchange_by, exchange}
use Rattle.model.specs.Stopping.{test_fails, exchanged_b, standardise_also, try_exchange, Kind, goes_on, stopping}
use Rattle.laws_stride.proofs.Tests.{both_true}
use Rattle.laws_stride.proofs.Changes.{standardise_with, swap_with}
use Rattle.laws_shape.specs.Steps.{Stepwise}
use Rattle.laws_shape.proofs.Numbers.{Numbers, BlockNumbers, swap_numbers, block_numbers, exchanged_numbers, standardise_numbers}
use Rattle.laws_shape.proofs.Shape.{Cut, Shape, Kept, cut_at}
use Rattle.laws_shape.proofs.Swapped.{swap_keeps, standardise_keeps}
use Rattle.laws_shape.proofs.Steps.{Edges, stepwise-none, stepwise_then, stepwise-declined, stepwise-standard, stepwise-run}

-- a change of the form t, in rows from a on and below b
pub record Goes (f : Format) (ld n a b : ℕ) (t : List Float) (c : Change) : Type 0 where
  pub steps : Stepwise f ld n t c
  pub kept : Kept f ld n a b t c.form
  pub numbers : Numbers f t → Numbers f c.form

-- an exchange of two blocks, after which none lies across the new middle
pub record Trades (f : Format) (ld n j n1 n2 : ℕ) (t : List Float) (c : Change) : Type 0 where
  pub goes : Goes f ld n j (j + n1 + n2) t c
  pub middle : Cut f ld n c.form (j + n2)

-- an edge that was cut outside is cut
pub still : {f : Format} {ld n a b : ℕ} {t t' : List Float} (e : ℕ) → Kept f ld n a b t t' → (a < e → e < b → ⊥) → Cut f ld n t e → Cut f ld n t' e
still e k d c = k.outside e d ∙ c

module _ (f : Format) (ld n : ℕ) where
  goes_none : (a b : ℕ) (t : List Float) → Shape f ld n t → Goes f ld n a b t (unchanged t)
  goes_none a b t s = record { steps = stepwise-none f ld n t; kept = record { shape = s; outside = λ e d. refl }; numbers = λ h. h }

  -- one after the other, each inside of the rows from a on and below b
  goes_then : (a b a1 b1 a2 b2 : ℕ) {t : List Float} {c : Change} (next : List Float → Change) → a ≤ a1 → b1 ≤ b → a ≤ a2 → b2 ≤ b
      → Goes f ld n a1 b1 t c → Goes f ld n a2 b2 c.form (next c.form) → Goes f ld n a b t (and_then c next)
  unfolding and_then
  goes_then a b a1 b1 a2 b2 next p q r s x y =
      record {
        steps = stepwise_then f ld n next x.steps y.steps;
        kept = record { shape = y.kept.shape; outside = λ e d. y.kept.outside e (λ l m. d (omega arith) (omega arith)) ∙ x.kept.outside e (λ l m. d (omega arith) (omega arith)) };
        numbers = λ h. y.numbers (x.numbers h);
      }

  -- ---- a swap

  module _ (j : ℕ) (t : List Float) where
    pair-run : (v : Reflect4) (b : Bool) → (cond b (declining j 2 2 t) (swap22_by f ld n j v t)).runs ≡ record { row = j; n1 = 2; n2 = 2; declined = b } ∷ []
    unfolding swap22_by
    pair-run v true = refl
    pair-run v false = refl

    pair_left : (c : Change) (b : Bool) → b ≡ true → (cond b (declining j 2 2 t) c).form ≡ t
    pair_left c true e = refl
    pair_left c false e = absurd (false≢true e)

    swap_steps : (n1 n2 : ℕ) → Edges f ld n t j n1 n2 → Stepwise f ld n t (swap_of f ld n j n1 n2 t)
    unfolding swap_of swap11 swap12 swap21 swap22
    swap_steps n1 n2 e =
        let k = e.room in
        elim (ℕ_discrete n1 1) [
          | yes p ↦ elim (ℕ_discrete n2 1) [
            | yes q ↦ rw (p, q) (stepwise-run f ld n t j 1 1 false (rw (p, q) at e) refl (λ d. absurd (false≢true d)))
            | no q ↦ let o : n2 ≡ 2 = omega arith in rw (p, o) (stepwise-run f ld n t j 1 2 false (rw (p, o) at e) refl (λ d. absurd (false≢true d)))
          ]
          | no p ↦ let m : n1 ≡ 2 = omega arith in
              elim (ℕ_discrete n2 1) [
                | yes q ↦ rw (m, q) (stepwise-run f ld n t j 2 1 false (rw (m, q) at e) refl (λ d. absurd (false≢true d)))
                | no q ↦ let o : n2 ≡ 2 = omega arith in
                    let v = reflectors4 f (solution_of f (window_at ld t j)) in
                    rw (m, o) (stepwise-run f ld n t j 2 2 (declines f v (window_at ld t j)) (rw (m, o) at e) (pair-run v _) (pair_left _ _))
              ]
        ]

  swap_trades : (j n1 n2 : ℕ) (t : List Float) → Shape f ld n t → Edges f ld n t j n1 n2 → Trades f ld n j n1 n2 t (swap_of f ld n j n1 n2 t)
  swap_trades j n1 n2 t s e =
      let x = swap_keeps f ld n t s j n1 n2 e.room e.upper e.middle e.lower in
      record { goes = record { steps = swap_steps j t n1 n2 e; kept = x.0; numbers = swap_numbers f ld n j n1 n2 t }; middle = x.1 }

  -- ---- standardised if there are two rows, to whatever is made of the block

  -- of a block with numbers of the format g makes another such
  abbrev KeepsNumbers : (Block → Block) → Type 0
  KeepsNumbers g = (x : Block) → BlockNumbers f x → BlockNumbers f (g x)

  standard-goes : (g : Block → Block) → KeepsNumbers g → (size j : ℕ) (t : List Float) → Shape f ld n t → size ≤ 2 → j + size ≤ n → Cut f ld n t j → Cut f ld n t (j + size) → Goes f ld n j (j + size) t (standardise_with g f ld n size j t)
  unfolding standardise_with
  standard-goes g w size j t s l h cj cb =
      elim (ℕ_discrete size 2) [
        | yes p ↦
            let b = g (block_at f ld t j) in
            rw p (record { steps = stepwise-standard f ld n t j b (record { rows = rw p at h; upper = cj; lower = rw p at cb }); kept = standardise_keeps f ld n t s j b (rw p at h) cj (rw p at cb); numbers = λ m. standardise_numbers f ld n j b t (w _ (block_numbers f ld j t m)) m })
        | no p ↦ rw (ne_eqb size 2 p) (goes_none j (j + size) t s)
      ]

  -- ---- one swap, then the new upper block standardised, then the lower

  with_trades : (g : Block → Block) → KeepsNumbers g → (j n1 n2 : ℕ) (t : List Float) → Shape f ld n t → Edges f ld n t j n1 n2 → Trades f ld n j n1 n2 t (swap_with g f ld n j n1 n2 t)
  unfolding swap_with and_then
  with_trades g w j n1 n2 t s e =
      let k = e.room in
      let b = j + n1 + n2 in
      let q : j + n2 + n1 ≡ b = omega arith in
      let x = swap_trades j n1 n2 t s e in
      let y =
      standard-goes g w n2 j (swap_of f ld n j n1 n2 t).form x.goes.kept.shape k.most2 (omega arith)
      (still j x.goes.kept (λ l m. omega arith) e.upper) x.middle in
      let c = still (j + n2) y.kept (λ l m. omega arith) x.middle in
      let z =
      standard-goes g w n1 (j + n2) (standardise_with g f ld n n2 j (swap_of f ld n j n1 n2 t).form).form y.kept.shape k.most1 (omega arith) c
      (rw q (still b y.kept (λ l m. omega arith) (still b x.goes.kept (λ l m. omega arith) e.lower))) in
      record {
        goes =
            goes_then j b j b (j + n2) (j + n2 + n1) (standardise_with g f ld n n1 (j + n2)) (omega arith) (omega arith) (omega arith) (omega arith)
            (goes_then j b j b j (j + n2) (standardise_with g f ld n n2 j) (omega arith) (omega arith) (omega arith) (omega arith) x.goes y) z;
        middle = still (j + n2) z.kept (λ l m. omega arith) c;
      }

  whole_trades : (j n1 n2 : ℕ) (t : List Float) → Shape f ld n t → Edges f ld n t j n1 n2 → Trades f ld n j n1 n2 t (exchange_whole f ld n j n1 n2 t)
  unfolding exchange_whole swap_with standardise_if standardise standardise_with
  whole_trades = with_trades (λ x. x) (λ x h. h)

  -- ---- 01's exchange: two rows with a zero inside go one by one

  -- so many steps inside each exchange
  abbrev By : ℕ → Type 0
  By k = (j n1 n2 : ℕ) (t : List Float) → n1 + n2 ≤ k → Shape f ld n t → Edges f ld n t j n1 n2 → Trades f ld n j n1 n2 t (exchange_by k f ld n j n1 n2 t)

  module _ (k : ℕ) (rec : By k) (j n1 n2 : ℕ) (t : List Float) (h : n1 + n2 ≤ suc k) (s : Shape f ld n t) (e : Edges f ld n t j n1 n2) where
    upper_first : n1 ≡ 2 → zero_below f ld t j ≡ true → Trades f ld n j n1 n2 t (and_then (exchange_by k f ld n (j + 1) 1 n2 t) (exchange_by k f ld n j 1 n2))
    unfolding and_then
    upper_first p z =
        let r = e.room in
        let i : j + n1 ≡ j + 1 + 1 = omega arith in
        let o : j + n1 + n2 ≡ j + 1 + 1 + n2 = omega arith in
        let c = cut_at f ld n t (j + 1) j refl (λ _. z) in
        let x = rec (j + 1) 1 n2 t (omega arith) s (record { room = omega arith; upper = c; middle = rw i at e.middle; lower = rw o at e.lower }) in
        let d = x.goes.kept in
        let y =
        rec j 1 n2 (exchange_by k f ld n (j + 1) 1 n2 t).form (omega arith) d.shape
        (record { room = omega arith; upper = still j d (λ l m. omega arith) e.upper; middle = still (j + 1) d (λ l m. omega arith) c; lower = x.middle }) in
        record {
          goes = goes_then j (j + n1 + n2) (j + 1) (j + 1 + 1 + n2) j (j + 1 + n2) (exchange_by k f ld n j 1 n2) (omega arith) (omega arith) (omega arith) (omega arith) x.goes y.goes;
          middle = y.middle;
        }

    lower-first : n2 ≡ 2 → zero_below f ld t (j + n1) ≡ true → Trades f ld n j n1 n2 t (and_then (exchange_by k f ld n j n1 1 t) (exchange_by k f ld n (j + 1) n1 1))
    unfolding and_then
    lower-first p z =
        let r = e.room in
        let i : j + n1 + 1 ≡ j + 1 + n1 = omega arith in
        let o : j + n1 + n2 ≡ j + 1 + n1 + 1 = omega arith in
        let q : j + n2 ≡ j + 1 + 1 = omega arith in
        let c = cut_at f ld n t (j + n1 + 1) (j + n1) refl (λ _. z) in
        let x = rec j n1 1 t (omega arith) s (record { room = omega arith; upper = e.upper; middle = e.middle; lower = c }) in
        let d = x.goes.kept in
        let y =
        rec (j + 1) n1 1 (exchange_by k f ld n j n1 1 t).form (omega arith) d.shape
        (record {
          room = omega arith;
          upper = x.middle;
          middle = rw i at (still (j + n1 + 1) d (λ l m. omega arith) c);
          lower = rw o at (still (j + n1 + n2) d (λ l m. omega arith) e.lower);
        }) in
        record {
          goes = goes_then j (j + n1 + n2) j (j + n1 + 1) (j + 1) (j + 1 + n1 + 1) (exchange_by k f ld n (j + 1) n1 1) (omega arith) (omega arith) (omega arith) (omega arith) x.goes y.goes;
          middle = rw q y.middle;
        }

  by_trades : (k : ℕ) → By k
  unfolding exchange_by
  by_trades zero j n1 n2 t h s e = let k = e.room in absurd (omega arith)
  by_trades (suc k) j n1 n2 t h s e = go (by_trades k) (eqb n1 2 && zero_below f ld t j) refl (eqb n2 2 && zero_below f ld t (j + n1)) refl
    where
      go : By k → (x : Bool) → (eqb n1 2 && zero_below f ld t j) ≡ x → (y : Bool) → (eqb n2 2 && zero_below f ld t (j + n1)) ≡ y
          → Trades f ld n j n1 n2 t
          (cond x (and_then (exchange_by k f ld n (j + 1) 1 n2 t) (exchange_by k f ld n j 1 n2)) (cond y (and_then (exchange_by k f ld n j n1 1 t) (exchange_by k f ld n (j + 1) n1 1)) (exchange_whole f ld n j n1 n2 t)))
      go rec true p y q = let z = both_true (eqb n1 2) (zero_below f ld t j) p in upper_first k rec j n1 n2 t h s e (eqb-true n1 2 z.0) z.1
      go rec false p true q = let z = both_true (eqb n2 2) (zero_below f ld t (j + n1)) q in lower-first k rec j n1 n2 t h s e (eqb-true n2 2 z.0) z.1
      go rec false p false q = whole_trades j n1 n2 t s e

  pub exchange_trades : (j n1 n2 : ℕ) (t : List Float) → Shape f ld n t → Edges f ld n t j n1 n2 → Trades f ld n j n1 n2 t (exchange f ld n j n1 n2 t)
  unfolding exchange
  exchange_trades j n1 n2 t s e = by_trades (n1 + n2) j n1 n2 t (omega arith) s e

-- ---- a kind of move: its exchange keeps, and where it does not stop the move, leaves none across the new middle

pub record Lawful (k : Kind) (f : Format) (ld n : ℕ) : Type 0 where
  pub goes : (j n1 n2 : ℕ) (t : List Float) → Shape f ld n t → Edges f ld n t j n1 n2 → Goes f ld n j (j + n1 + n2) t (k.exchange j n1 n2 t)
  pub middle : (j n1 n2 : ℕ) (t : List Float) → Shape f ld n t → Edges f ld n t j n1 n2 → (k.stops && not (eqb (declined_of (k.exchange j n1 n2 t)) 0)) ≡ false
      → Cut f ld n (k.exchange j n1 n2 t).form (j + n2)

pub goes_on_lawful : (f : Format) (ld n : ℕ) → Lawful (goes_on f ld n) f ld n
goes_on_lawful f ld n = record { goes = λ j n1 n2 t s e. (exchange_trades f ld n j n1 n2 t s e).goes; middle = λ j n1 n2 t s e h. (exchange_trades f ld n j n1 n2 t s e).middle }

-- a test that fails leaves the form, and stops the move
pub stopping_lawful : (f : Format) (ld n : ℕ) → Lawful (stopping f ld n) f ld n
unfolding try_exchange standardise_also swap_with standardise_with declines_in
stopping_lawful f ld n = record { goes = λ j n1 n2 t s e. go j n1 n2 t s e (test_fails f ld t j n1 n2); middle = λ j n1 n2 t s e. cut j n1 n2 t s e (test_fails f ld t j n1 n2) }
  where
    go : (j n1 n2 : ℕ) (t : List Float) → Shape f ld n t → Edges f ld n t j n1 n2 → (b : Bool) → Goes f ld n j (j + n1 + n2) t (cond b (declining j n1 n2 t) (swap_with (exchanged_b f) f ld n j n1 n2 t))
    go j n1 n2 t s e true = record { steps = stepwise-declined f ld n t j n1 n2 e; kept = record { shape = s; outside = λ x d. refl }; numbers = λ h. h }
    go j n1 n2 t s e false = (with_trades f ld n (exchanged_b f) (exchanged_numbers f) j n1 n2 t s e).goes

    cut : (j n1 n2 : ℕ) (t : List Float) → Shape f ld n t → Edges f ld n t j n1 n2 → (b : Bool)
        → not (eqb (declined_of (cond b (declining j n1 n2 t) (swap_with (exchanged_b f) f ld n j n1 n2 t))) 0) ≡ false
        → Cut f ld n (cond b (declining j n1 n2 t) (swap_with (exchanged_b f) f ld n j n1 n2 t)).form (j + n2)
    cut j n1 n2 t s e true h = absurd (true≢false h)
    cut j n1 n2 t s e false h = (with_trades f ld n (exchanged_b f) (exchanged_numbers f) j n1 n2 t s e).middle
