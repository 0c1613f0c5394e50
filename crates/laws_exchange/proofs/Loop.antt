-- The loop over the small exchanges still to do is the exchange: however many are left, enough rounds make them all, one after another. Assumes nothing.
use mathlib.Core.Path.{◌≡◌, refl, sym, ap, ◌∙◌}
use Prim.Native.Nat.{ℕ, zero, suc, ◌+◌, ◌*◌, ◌≤◌}
use native.Mathlib.Nat.{mul-le-mul_left}
use native.Mathlib.Omega.{arith}
use mathlib.Core.Bool.{Bool, true, false, ◌&&◌}
use mathlib.Core.List.{List, [], ◌∷◌}
use lib.Dec.{eqb, lit≤}
use lib.ListN.{length}
use lib.Ieee.{Float, Format}
use Rattle.model.specs.Form.{zero_below}
use Rattle.model.specs.Swaps.{Change, unchanged, and_then}
use Rattle.model.specs.Exchange.{exchange_whole, exchange}
use Rattle.laws_exchange.specs.Loop.{Small, small, Working, round, rounds, Sizes, LoopIsExchange}
use Rattle.laws_exchange.proofs.Parts.{then_nothing, then_then, then_same, is-two, upper-apart, lower-apart, none_apart}

-- ---- sizes of the parts

pub lower-sizes : {n1 n2 : ℕ} → Sizes n1 n2 → Sizes 1 n2
lower-sizes s = record { one1 = lit≤ tt; two1 = lit≤ tt; one2 = s.one2; two2 = s.two2 }

pub upper-sizes : {n1 n2 : ℕ} → Sizes n1 n2 → Sizes n1 1
upper-sizes s = record { one1 = s.one1; two1 = s.two1; one2 = lit≤ tt; two2 = lit≤ tt }

-- ---- how many are left

-- Pairs of single rows, one of each block: no more swaps than that are left, and no more rounds than twice as many less one for each small exchange that waits.
unfoldable pub pairs : List Small → ℕ
pairs [] = 0
pairs (s ∷ rest) = s.n1 * s.n2 + pairs rest

-- all have sizes 1 or 2
unfoldable pub Fit : List Small → Type 0
Fit [] = Unit {0}
Fit (s ∷ rest) = Sizes s.n1 s.n2 × Fit rest

pub one-pair : {n1 n2 : ℕ} → Sizes n1 n2 → 1 ≤ n1 * n2
one-pair {n1} {n2} s =
    let m : n1 * 1 ≤ n1 * n2 = mul-le-mul_left n1 s.one2 in
    let o = s.one1 in
    omega arith

pub four_pairs : {n1 n2 : ℕ} → Sizes n1 n2 → n1 * n2 ≤ 4
four_pairs {n1} {n2} s =
    let m : n1 * n2 ≤ n1 * 2 = mul-le-mul_left n1 s.two2 in
    let o = s.two1 in
    omega arith

pub a_pair_each : (todo : List Small) → Fit todo → length todo ≤ pairs todo
unfolding pairs Fit
a_pair_each [] fit = omega arith
a_pair_each (s ∷ rest) fit = let h = a_pair_each rest fit.1 in let k = one-pair fit.0 in omega arith

-- parting leaves the pairs
pub upper_pairs : (n1 n2 : ℕ) → n1 ≡ 2 → 1 * n2 + 1 * n2 ≡ n1 * n2
upper_pairs n1 n2 e = rw e (omega arith)

pub lower_pairs : (n1 n2 : ℕ) → n2 ≡ 2 → n1 * 1 + n1 * 1 ≡ n1 * n2
lower_pairs n1 n2 e = rw e (omega arith)

-- ---- the small exchanges made one after another

unfoldable all : Format → ℕ → ℕ → List Small → List Float → Change
all f ld n [] t = unchanged t
all f ld n (s ∷ rest) t = and_then (exchange f ld n s.row s.n1 s.n2 t) (all f ld n rest)

abbrev pub ended : Change → Working
ended c = record { todo = []; change = c }

module _ (f : Format) (ld n : ℕ) where
  -- nothing to do
  pub rounds-end : (k : ℕ) (c : Change) → rounds (zero_below f ld) k f ld n (ended c) ≡ ended c
  unfolding rounds round
  rounds-end zero c = refl
  rounds-end (suc k) c = rounds-end k c

  -- something to do, and so a round before the end
  pub rounds_on : (k : ℕ) (s : Small) (rest : List Small) (c d : Change) {w : Working} → rounds (zero_below f ld) k f ld n (record { todo = s ∷ rest; change = c }) ≡ ended d
      → round (zero_below f ld) f ld n (s ∷ rest) c ≡ w → (m : ℕ) × (rounds (zero_below f ld) m f ld n w ≡ ended d)
  unfolding rounds
  rounds_on zero s rest c d e g = let z : suc (length rest) ≡ 0 = ap (λ (w : Working). length w.todo) e in absurd (omega arith)
  rounds_on (suc k) s rest c d e g = (k, ap (λ (w : Working). rounds (zero_below f ld) k f ld n w) (sym g) ∙ e)

  -- the three kinds of a round
  module _ (s : Small) (rest : List Small) (c : Change) where
    pub round-upper : (eqb s.n1 2 && zero_below f ld c.form s.row) ≡ true
        → round (zero_below f ld) f ld n (s ∷ rest) c ≡ record { todo = small (s.row + 1) 1 s.n2 ∷ small s.row 1 s.n2 ∷ rest; change = c }
    unfolding round
    round-upper h = rw h

    pub round-lower : (eqb s.n1 2 && zero_below f ld c.form s.row) ≡ false → (eqb s.n2 2 && zero_below f ld c.form (s.row + s.n1)) ≡ true
        → round (zero_below f ld) f ld n (s ∷ rest) c ≡ record { todo = small s.row s.n1 1 ∷ small (s.row + 1) s.n1 1 ∷ rest; change = c }
    unfolding round
    round-lower g h = rw (g, h)

    pub round_whole : (eqb s.n1 2 && zero_below f ld c.form s.row) ≡ false → (eqb s.n2 2 && zero_below f ld c.form (s.row + s.n1)) ≡ false
        → round (zero_below f ld) f ld n (s ∷ rest) c ≡ record { todo = rest; change = and_then c (exchange_whole f ld n s.row s.n1 s.n2) }
    unfolding round
    round_whole g h = rw (g, h)

  -- a small exchange that is parted is its two parts, and one that is not is one swap with the blocks standardised
  module _ (s : Small) (rest : List Small) (c : Change) where
    upper_is : (eqb s.n1 2 && zero_below f ld c.form s.row) ≡ true
        → and_then c (all f ld n (small (s.row + 1) 1 s.n2 ∷ small s.row 1 s.n2 ∷ rest)) ≡ and_then c (all f ld n (s ∷ rest))
    unfolding all
    upper_is h =
        then_same c _ _
        (sym (then_then _ (exchange f ld n s.row 1 s.n2) (all f ld n rest))
        ∙ ap (λ (d : Change). and_then d (all f ld n rest)) (sym (upper-apart f ld n s.row s.n1 s.n2 c.form h)))

    lower-is : (eqb s.n1 2 && zero_below f ld c.form s.row) ≡ false → (eqb s.n2 2 && zero_below f ld c.form (s.row + s.n1)) ≡ true
        → and_then c (all f ld n (small s.row s.n1 1 ∷ small (s.row + 1) s.n1 1 ∷ rest)) ≡ and_then c (all f ld n (s ∷ rest))
    unfolding all
    lower-is g h =
        then_same c _ _
        (sym (then_then _ (exchange f ld n (s.row + 1) s.n1 1) (all f ld n rest))
        ∙ ap (λ (d : Change). and_then d (all f ld n rest)) (sym (lower-apart f ld n s.row s.n1 s.n2 c.form g h)))

    whole_is : 1 ≤ s.n1 → (eqb s.n1 2 && zero_below f ld c.form s.row) ≡ false → (eqb s.n2 2 && zero_below f ld c.form (s.row + s.n1)) ≡ false
        → and_then (and_then c (exchange_whole f ld n s.row s.n1 s.n2)) (all f ld n rest) ≡ and_then c (all f ld n (s ∷ rest))
    unfolding all
    whole_is o g h =
        then_then c (exchange_whole f ld n s.row s.n1 s.n2) (all f ld n rest)
        ∙ then_same c _ _ (ap (λ (d : Change). and_then d (all f ld n rest)) (sym (none_apart f ld n s.row s.n1 s.n2 c.form o g h)))

  rest_done : (k : ℕ) (todo : List Small) (c : Change) → Fit todo → 2 * pairs todo ≤ k + length todo
      → rounds (zero_below f ld) k f ld n (record { todo = todo; change = c }) ≡ ended (and_then c (all f ld n todo))
  unfolding rounds all pairs Fit
  rest_done zero [] c fit h = ap ended (sym (then_nothing c))
  rest_done zero (s ∷ rest) c fit h = let m = a_pair_each rest fit.1 in let o = one-pair fit.0 in absurd (omega arith)
  rest_done (suc k) [] c fit h = rounds-end (suc k) c ∙ ap ended (sym (then_nothing c))
  rest_done (suc k) (s ∷ rest) c fit h = go (λ l d. rest_done k l d) (eqb s.n1 2 && zero_below f ld c.form s.row) refl (eqb s.n2 2 && zero_below f ld c.form (s.row + s.n1)) refl
    where
      go : ((l : List Small) (d : Change) → Fit l → 2 * pairs l ≤ k + length l → rounds (zero_below f ld) k f ld n (record { todo = l; change = d }) ≡ ended (and_then d (all f ld n l)))
          → (a : Bool) → (eqb s.n1 2 && zero_below f ld c.form s.row) ≡ a → (b : Bool) → (eqb s.n2 2 && zero_below f ld c.form (s.row + s.n1)) ≡ b
          → rounds (zero_below f ld) k f ld n (round (zero_below f ld) f ld n (s ∷ rest) c) ≡ ended (and_then c (all f ld n (s ∷ rest)))
      go more true g b e =
          let w = upper_pairs s.n1 s.n2 (is-two f ld s.n1 s.row c.form g) in
          ap (λ (v : Working). rounds (zero_below f ld) k f ld n v) (round-upper s rest c g)
          ∙ more _ c (lower-sizes fit.0, (lower-sizes fit.0, fit.1)) (omega arith)
          ∙ ap ended (upper_is s rest c g)
      go more false g true e =
          let w = lower_pairs s.n1 s.n2 (is-two f ld s.n2 (s.row + s.n1) c.form e) in
          ap (λ (v : Working). rounds (zero_below f ld) k f ld n v) (round-lower s rest c g e)
          ∙ more _ c (upper-sizes fit.0, (upper-sizes fit.0, fit.1)) (omega arith)
          ∙ ap ended (lower-is s rest c g e)
      go more false g false e =
          let w = one-pair fit.0 in
          ap (λ (v : Working). rounds (zero_below f ld) k f ld n v) (round_whole s rest c g e)
          ∙ more rest _ fit.1 (omega arith)
          ∙ ap ended (whole_is s rest c fit.0.one1 g e)

pub loop_is_exchange : LoopIsExchange
unfolding all pairs Fit and_then
loop_is_exchange f ld n j n1 n2 t s = rest_done f ld n 7 (small j n1 n2 ∷ []) (unchanged t) (s, tt) (let k = four_pairs s in omega arith) ∙ ap (λ (c : Change). record { todo = []; change = c }) (then_nothing _)
