-- dlaexc's tests of three rows, and the swap with them. Assumes nothing.
use mathlib.Core.Path.{◌≡◌, refl}
use mathlib.Core.Bool.{true, false}
use mathlib.Core.List.{List}
use Prim.Native.Nat.{ℕ}
use lib.Ieee.{Float, binary64, lt}
use Rattle.model.specs.Columns.{Reflect3, on_factor}
use Rattle.model.specs.Swaps.{reflectors12, reflectors21}
use Rattle.model.specs.Stopping.{fails12, fails21, threshold3, tried_window3, window_of, triple_in, transposed3}
use Rattle.swaps.specs.declared.swap_12.Single.{Single}
use Rattle.swaps.specs.declared.swap_12.Single.TheVariants.{First, Last}
use Rattle.swaps.specs.Done.{Done}
use Rattle.swaps.specs.Forms.{rows3, swap3}
use Rattle.swaps.specs.Kernels.{reflected3}
use Rattle.swaps.specs.View.{columns3}
use Rattle.swaps.specs.Windows as Windows
use Rattle.swaps.proofs.Windows.{made_3, tried_3, threshold_3}
use Rattle.tries.specs.Tests.{left3, fails3, tried3}

module _ (ld j : ℕ) (t : List Float) (x : Single) where
  abbrev window : List (List Float)
  window = Windows.window_of 3 ld t (rows3 x j)

whole : (ld j : ℕ) (t : List Float) (x : Single)
    → lt (threshold3 binary64 (columns3 (window ld j t x))) (left3 x (columns3 (window ld j t x)) (tried_window3 binary64 (made_3 ld j t x) (columns3 (window ld j t x)))) ≡ fails3 x ld t j
unfolding fails12 fails21 reflectors12 reflectors21 window_of triple_in transposed3
whole ld j t First = refl
whole ld j t Last = refl

-- the code's comparison
pub test_3 : (ld j : ℕ) (t : List Float) (x : Single) {rows : List ℕ} {w y : List (List Float)} {v : Reflect3} {l k : Float}
    → rows ≡ rows3 x j
    → w ≡ Windows.window_of 3 ld t rows
    → v ≡ made_3 ld j t x
    → y ≡ Windows.tried 3 (reflected3 v) w
    → l ≡ left3 x (columns3 w) (columns3 y)
    → k ≡ Windows.threshold 3 w
    → lt k l ≡ fails3 x ld t j
test_3 ld j t x r e f g h i =
    rw (i, h, g, f, e, r, threshold_3 (window ld j t x), tried_3 (made_3 ld j t x) (window ld j t x)) (whole ld j t x)

module _ (ld n j : ℕ) (t : List Float) where
  pub failing : {u : List Float} (x : Single) → fails3 x ld t j ≡ true → Done ld n u t u (tried3 x ld n j t) × (true ≡ fails3 x ld t j)
  unfolding on_factor
  failing First e = rw e (record { form = refl; factor = refl }, refl)
  failing Last e = rw e (record { form = refl; factor = refl }, refl)

  pub passing : {u t₁ u₁ : List Float} (x : Single) → fails3 x ld t j ≡ false → Done ld n u t₁ u₁ (swap3 x ld n j t) → Done ld n u t₁ u₁ (tried3 x ld n j t) × (false ≡ fails3 x ld t j)
  passing x e d = rw e (d, refl)
