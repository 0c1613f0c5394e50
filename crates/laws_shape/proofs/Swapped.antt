-- Each of the four swaps, and standardising, below the diagonal: what they write lies in the square of their rows, and is zero more than one row below the diagonal and at the new edge between the two blocks. Assumes nothing.
use mathlib.Core.Path.{◌≡◌, refl, ap, ◌∙◌}
use Prim.Native.Nat.{ℕ, ◌+◌, ◌*◌, ◌≤◌, ◌<◌}
use native.Mathlib.Decide.{ℕ_discrete}
use native.Mathlib.Omega.{arith}
use mathlib.Core.Bool.{Bool, true, false, cond}
use mathlib.Core.List.{List}
use lib.ListN.{length}
use lib.Ieee.{Float, Format, binary32, binary64, of_bits, eq}
use Rattle.model.specs.Arith.{zero_of}
use Rattle.model.specs.Schur22.{Block}
use Rattle.model.specs.Columns.{Reflect4, Operation, rotates, reflects3, reflects4, on_form}
use Rattle.model.specs.Swaps.{declining, put, swap11, reflectors12, swap12, reflectors21, swap21, window_at, solution_of, reflectors4, declines, swap22_by, swap22, swap_of, standardise_by}
use Rattle.laws_stride.proofs.Put.{put-here, put_else}
use Rattle.laws_stride.proofs.Changes.{Room}
use Rattle.laws_shape.proofs.Within.{Within, Between, within_none, within_then, within_form, within_beside, within_put, within_above}
use Rattle.laws_shape.proofs.Shape.{Zero, Cut, Shape, Kept, cut_at, edge_same, worked}

-- ---- a zero put down stays where it is

is_zero : (f : Format) → eq (zero_of f) (zero_of f) ≡ true
unfolding eq of_bits
is_zero binary32 = refl
is_zero binary64 = refl

module _ (f : Format) (ld n : ℕ) (w : n ≤ ld) where
  -- a zero that was just put
  zero-put : (i j : ℕ) (t : List Float) → length t ≡ ld * n → i < n → j < n → Zero f ld (put ld i j (zero_of f) t) i j
  zero-put i j t l g h = ap (λ (x : Float). eq x (zero_of f)) (put-here ld n i j (zero_of f) t w l g h) ∙ is_zero f

  -- a zero at another place, or at the same
  zero-stays : (i j r c : ℕ) (t : List Float) → length t ≡ ld * n → i < n → j < n → r < n → Zero f ld t r c → Zero f ld (put ld i j (zero_of f) t) r c
  zero-stays i j r c t l g h k z =
      elim (ℕ_discrete r i) [
        | yes p ↦ elim (ℕ_discrete c j) [ yes q ↦ rw (p, q) (zero-put i j t l g h) | no q ↦ other (λ _ y. q y) ]
        | no p ↦ other (λ x _. p x)
      ]
    where
      other : (r ≡ i → c ≡ j → ⊥) → Zero f ld (put ld i j (zero_of f) t) r c
      other d = ap (λ (x : Float). eq x (zero_of f)) (put_else ld i j r c (zero_of f) t (omega arith) (omega arith) d) ∙ z

-- ---- a swap of the n1 rows from row j on with the n2 below them

pub record Swapped (f : Format) (ld n j n1 n2 : ℕ) (t t' : List Float) : Type 0 where
  pub within : Within ld n j (j + n1 + n2) t t'
  pub deep : (r c : ℕ) → j ≤ c → c + 1 < r → r < j + n1 + n2 → Zero f ld t' r c
  pub middle : Cut f ld n t' (j + n2)

module _ (f : Format) (ld n j : ℕ) (t : List Float) (s : Shape f ld n t) where
  w : n ≤ ld
  w = s.fits

  -- 1 against 1 writes nothing below the diagonal
  swapped11 : j + 2 ≤ n → Cut f ld n t (j + 1) → Swapped f ld n j 1 1 t (swap11 f ld n j t).form
  unfolding swap11
  swapped11 h m =
      record {
        within = nowhere j (j + 1 + 1);
        deep = λ r c p q l. absurd (omega arith);
        middle = edge_same f ld n (j + 1) (nowhere j j) (λ p q. omega arith) ∙ m;
      }
    where
      nowhere : (a b : ℕ) → Within ld n a b t (swap11 f ld n j t).form
      nowhere a b =
          within_then (within_then (within_above ld n a b (j + 1) (j + 1) _ t w (omega arith) (omega arith)) (within_above ld n a b j j _ _ w (omega arith) (omega arith)))
          (within_beside f ld n j (j + 2) a b (j + 2) j _ _ w h (omega arith) (omega arith) (omega arith) (omega arith))

  -- zeros put in the square after an operation on its rows
  module _ (b : ℕ) (h : b ≤ n) where
    turned : (o : Operation) → Between j b o → Within ld n j b t (on_form f ld n j b o t)
    turned o k = within_form f ld n j b j b o t w h (omega arith) (omega arith) k

    more : (r c : ℕ) {t' : List Float} → j ≤ c → r < b → Within ld n j b t t' → Within ld n j b t (put ld r c (zero_of f) t')
    more r c p q x = within_then x (within_put ld n j b r c (zero_of f) _ w h p q)

    zero : (r c : ℕ) {t' : List Float} → r < n → c < n → Within ld n j b t t' → Zero f ld (put ld r c (zero_of f) t') r c
    zero r c {t'} p q x = zero-put f ld n w r c t' (x.size ∙ s.size) p q

    stays : (i k r c : ℕ) {t' : List Float} → i < n → k < n → r < n → Within ld n j b t t' → Zero f ld t' r c → Zero f ld (put ld i k (zero_of f) t') r c
    stays i k r c {t'} g h l x z = zero-stays f ld n w i k r c t' (x.size ∙ s.size) g h l z

  -- 1 against 2: the last of the three rows becomes the single one
  swapped12 : j + 3 ≤ n → Swapped f ld n j 1 2 t (swap12 f ld n j t).form
  unfolding swap12
  swapped12 h =
      let b = j + 3 in
      let x = turned b h (reflects3 (reflectors12 f ld t j) j (j + 1) (j + 2)) (omega arith) in
      let y = more b h (j + 2) j (omega arith) (omega arith) x in
      let e : j + 1 + 2 ≡ j + 3 = omega arith in
      record {
        within = rw e (more b h (j + 2) (j + 1) (omega arith) (omega arith) y);
        deep = λ r c p q l. let i : r ≡ j + 2 = omega arith in let k : c ≡ j = omega arith in
            rw (i, k) (stays b h (j + 2) (j + 1) (j + 2) j (omega arith) (omega arith) (omega arith) y (zero b h (j + 2) j (omega arith) (omega arith) x));
        middle = cut_at f ld n _ (j + 2) (j + 1) (omega arith) (λ _. zero b h (j + 2) (j + 1) (omega arith) (omega arith) y);
      }

  -- 2 against 1: the first becomes the single one
  swapped21 : j + 3 ≤ n → Swapped f ld n j 2 1 t (swap21 f ld n j t).form
  unfolding swap21
  swapped21 h =
      let b = j + 3 in
      let x = turned b h (reflects3 (reflectors21 f ld t j) (j + 2) (j + 1) j) (omega arith) in
      let y = more b h (j + 1) j (omega arith) (omega arith) x in
      let e : j + 2 + 1 ≡ j + 3 = omega arith in
      record {
        within = rw e (more b h (j + 2) j (omega arith) (omega arith) y);
        deep = λ r c p q l. let i : r ≡ j + 2 = omega arith in let k : c ≡ j = omega arith in
            rw (i, k) (zero b h (j + 2) j (omega arith) (omega arith) y);
        middle = cut_at f ld n _ (j + 1) j refl (λ _. stays b h (j + 2) j (j + 1) j (omega arith) (omega arith) (omega arith) y (zero b h (j + 1) j (omega arith) (omega arith) x));
      }

  -- 2 against 2: four zeros
  swapped22 : (v : Reflect4) → j + 4 ≤ n → Swapped f ld n j 2 2 t (swap22_by f ld n j v t).form
  unfolding swap22_by
  swapped22 v h =
      let b = j + 4 in
      let x0 = turned b h (reflects4 v j (j + 1) (j + 2) (j + 3)) (omega arith) in
      let x1 = more b h (j + 2) j (omega arith) (omega arith) x0 in
      let x2 = more b h (j + 2) (j + 1) (omega arith) (omega arith) x1 in
      let x3 = more b h (j + 3) j (omega arith) (omega arith) x2 in
      let e : j + 2 + 2 ≡ j + 4 = omega arith in
      let k0 : j < n = omega arith in
      let k1 : j + 1 < n = omega arith in
      let k2 : j + 2 < n = omega arith in
      let k3 : j + 3 < n = omega arith in
      let z20 = stays b h (j + 3) (j + 1) (j + 2) j k3 k1 k2 x3 (stays b h (j + 3) j (j + 2) j k3 k0 k2 x2 (stays b h (j + 2) (j + 1) (j + 2) j k2 k1 k2 x1 (zero b h (j + 2) j k2 k0 x0))) in
      let z21 = stays b h (j + 3) (j + 1) (j + 2) (j + 1) k3 k1 k2 x3 (stays b h (j + 3) j (j + 2) (j + 1) k3 k0 k2 x2 (zero b h (j + 2) (j + 1) k2 k1 x1)) in
      let z30 = stays b h (j + 3) (j + 1) (j + 3) j k3 k1 k3 x3 (zero b h (j + 3) j k3 k0 x2) in
      let z31 = zero b h (j + 3) (j + 1) k3 k1 x3 in
      record {
        within = rw e (more b h (j + 3) (j + 1) (omega arith) (omega arith) x3);
        deep = λ r c p q l.
            elim (ℕ_discrete r (j + 2)) [
              | yes i ↦ let k : c ≡ j = omega arith in rw (i, k) z20
              | no i ↦ let g : r ≡ j + 3 = omega arith in
                  elim (ℕ_discrete c j) [
                    | yes k ↦ rw (g, k) z30
                    | no k ↦ let m : c ≡ j + 1 = omega arith in rw (g, m) z31
                  ]
            ];
        middle = cut_at f ld n _ (j + 2) (j + 1) (omega arith) (λ _. z21);
      }

  -- 2 against 2, declined or not
  swapped-pair : j + 4 ≤ n → Cut f ld n t (j + 2) → Swapped f ld n j 2 2 t (swap22 f ld n j t).form
  unfolding swap22
  swapped-pair h m = go (declines f (reflectors4 f (solution_of f (window_at ld t j))) (window_at ld t j))
    where
      v : Reflect4
      v = reflectors4 f (solution_of f (window_at ld t j))

      go : (b : Bool) → Swapped f ld n j 2 2 t (cond b (declining j 2 2 t) (swap22_by f ld n j v t)).form
      go true = record { within = within_none ld n j (j + 2 + 2) t; deep = λ r c p q l. s.deep r c q (omega arith); middle = m }
      go false = swapped22 v h

  pub swapped-of : (n1 n2 : ℕ) → Room n j n1 n2 → Cut f ld n t (j + n1) → Swapped f ld n j n1 n2 t (swap_of f ld n j n1 n2 t).form
  unfolding swap_of
  swapped-of n1 n2 k m =
      elim (ℕ_discrete n1 1) [
        | yes p ↦ elim (ℕ_discrete n2 1) [
          | yes q ↦ rw (p, q) (swapped11 (omega arith) (rw p at m))
          | no q ↦ let d : n2 ≡ 2 = omega arith in rw (p, d) (swapped12 (omega arith))
        ]
        | no p ↦ let e : n1 ≡ 2 = omega arith in
            elim (ℕ_discrete n2 1) [
              | yes q ↦ rw (e, q) (swapped21 (omega arith))
              | no q ↦ let d : n2 ≡ 2 = omega arith in rw (e, d) (swapped-pair (omega arith) (rw e at m))
            ]
      ]

-- ---- kept

module _ (f : Format) (ld n : ℕ) (t : List Float) (s : Shape f ld n t) where
  -- by a swap: the edges outside stay, and there is none across the new middle
  pub swap_keeps : (j n1 n2 : ℕ) → Room n j n1 n2 → Cut f ld n t j → Cut f ld n t (j + n1) → Cut f ld n t (j + n1 + n2)
      → Kept f ld n j (j + n1 + n2) t (swap_of f ld n j n1 n2 t).form × Cut f ld n (swap_of f ld n j n1 n2 t).form (j + n2)
  swap_keeps j n1 n2 k cj cm cb =
      let x = swapped-of f ld n j t s n1 n2 k cm in
      (worked f ld n j (j + n2) (j + n1 + n2) t _ (omega arith) (omega arith) (omega arith) (omega arith) (omega arith) s cj cb x.within x.deep x.middle, x.middle)

  -- by the two rows from row j on standardised, to whatever block
  pub standardise_keeps : (j : ℕ) (b : Block) → j + 2 ≤ n → Cut f ld n t j → Cut f ld n t (j + 2) → Kept f ld n j (j + 2) t (standardise_by f ld n j b t).form
  standardise_keeps j b h cj cb =
      worked f ld n j j (j + 2) t _ (omega arith) (omega arith) (omega arith) (omega arith) h s cj cb within (λ r c p q l. absurd (omega arith)) (edge_same f ld n j within (λ p q. omega arith) ∙ cj)
    where
      w : n ≤ ld
      w = s.fits

      within : Within ld n j (j + 2) t (standardise_by f ld n j b t).form
      within =
          within_then
          (within_then (within_then (within_then (within_above ld n j (j + 2) j j _ t w (omega arith) (omega arith)) (within_above ld n j (j + 2) j (j + 1) _ _ w (omega arith) (omega arith))) (within_put ld n j (j + 2) (j + 1) j _ _ w h (omega arith) (omega arith))) (within_above ld n j (j + 2) (j + 1) (j + 1) _ _ w (omega arith) (omega arith)))
          (within_beside f ld n j (j + 2) j (j + 2) (j + 2) j (rotates (record { c = b.cs; s = b.sn }) j (j + 1)) _ w h (omega arith) (omega arith) (omega arith) (omega arith))
