-- An array that is filled by index, and windows and reflections of three and of four as model has them. Assumes nothing.
use mathlib.Core.Path.{◌≡◌, refl, ap, ◌∙◌}
use mathlib.Core.List.{List, [], ◌∷◌}
use Prim.Native.Nat.{ℕ, ◌+◌, ◌<◌, ◌≤◌}
use native.Mathlib.Omega.{arith}
use lib.ListN.{length, get_or, set, length-set}
use lib.Ieee.{Float, binary64, neg, nan, sub}
use Rattle.std.proofs.lemmas.List.Edits.{fill_by_more}
use Rattle.std.proofs.lemmas.List.FromFn.{fill_by_all}
use Rattle.model.specs.Arith.{zero_of}
use Rattle.model.specs.Columns.{Reflect3, Reflect4, reflect_triple, reflect_quad, on_columns, on_factor}
use Rattle.model.specs.Exchange.{factor_rows}
use Rattle.model.specs.Householder.{make_householder_in_place, tail_fits}
use Rattle.model.specs.Lasy2.{num}
use Rattle.model.specs.Swaps as Swaps
use Rattle.model.specs.Stopping as Stopping
use Rattle.sylvester.specs.declared.lasy2.Solution.{Solution}
use Rattle.sylvester.specs.View.{sylvester}
use Rattle.swaps.specs.declared.kernels.Reflectors.{Reflectors}
use Rattle.swaps.specs.declared.swap_12.Single.{Single}
use Rattle.swaps.specs.declared.swap_12.Single.TheVariants.{First, Last}
use Rattle.swaps.specs.View.{triple, reflection3, reflection4, columns3, columns4}
use Rattle.swaps.specs.Done.{Done}
use Rattle.swaps.specs.Forms.{rows3, rows4, reflectors_in, form3, swap3}
use Rattle.swaps.specs.Kernels.{reflected3, reflected4, reflects3_lines}
use Rattle.swaps.specs.Lines.{each}
use Rattle.swaps.specs.Reflects.{IsReflectors}
use Rattle.swaps.specs.Windows.{window_of, transposed, tried, threshold}

-- n numbers, the first i of them by f
abbrev pub Filled : {X : Type 0} → ℕ → (ℕ → X) → X → ℕ → List X → Type 0
Filled n f d i xs = (length xs ≡ n) × ((k : ℕ) → k < i → get_or xs k d ≡ f k)

module _ {X : Type 0} {n : ℕ} (f : ℕ → X) (d : X) (i : ℕ) (xs : List X) where
  pub one_filled : {x : X} → Filled n f d i xs → i < n → x ≡ f i → Filled n f d (i + 1) (set xs i x)
  one_filled {x} h l e = (simp length-set h.0, rw e (fill_by_more f xs i d (omega arith) h.1))

  pub all_filled : Filled n f d i xs → n ≤ i → xs ≡ each n f
  all_filled h l = fill_by_all f xs n d h.0 (λ k g. h.1 k (omega arith))

-- ---- windows of three, and of four

pub window_at : (ld : ℕ) (t : List Float) (j : ℕ) {rows : List ℕ} {w : List (List Float)} → rows ≡ rows4 j → w ≡ window_of 4 ld t rows → columns4 w ≡ Swaps.window_at ld t j
unfolding Swaps.window_at Swaps.window_column
window_at ld t j a b = rw (b, a) (refl {a = Swaps.window_at ld t j})

pub transposed_3 : (w : List (List Float)) → columns3 (transposed 3 w) ≡ Stopping.transposed3 (columns3 w)
unfolding Stopping.transposed3
transposed_3 w = refl {a = Stopping.transposed3 (columns3 w)}

pub tried_3 : (v : Reflect3) (w : List (List Float)) → columns3 (tried 3 (reflected3 v) w) ≡ Stopping.tried_window3 binary64 v (columns3 w)
unfolding Stopping.tried_window3 Stopping.transposed3 Stopping.reflected_columns3
tried_3 v w = refl {a = Stopping.tried_window3 binary64 v (columns3 w)}

pub tried_4 : (v : Reflect4) (w : List (List Float)) → columns4 (tried 4 (reflected4 v) w) ≡ Swaps.tried_window binary64 v (columns4 w)
unfolding Swaps.tried_window Swaps.transposed Swaps.reflected_columns
tried_4 v w = refl {a = Swaps.tried_window binary64 v (columns4 w)}

pub threshold_3 : (w : List (List Float)) → threshold 3 w ≡ Stopping.threshold3 binary64 (columns3 w)
unfolding Stopping.threshold3 Stopping.dnorm_of3 Stopping.largest_of3
threshold_3 w = refl {a = Stopping.threshold3 binary64 (columns3 w)}

pub threshold_4 : (w : List (List Float)) → threshold 4 w ≡ Swaps.threshold binary64 (columns4 w)
unfolding Swaps.threshold Swaps.dnorm_of Swaps.largest_of
threshold_4 w = refl {a = Swaps.threshold binary64 (columns4 w)}

-- ---- pairs of reflections of three, and of four

pub pair_3 : (r : Reflectors 2 1) (a b : List Float)
    → length a ≡ 3
    → length b ≡ 3
    → IsReflectors 2 1 3 a b r.first.tau r.first.v r.second.tau r.second.v
    → reflection3 r ≡ Swaps.reflectors3 binary64 (triple a) (triple b)
unfolding Swaps.reflectors3 reflect_triple make_householder_in_place tail_fits sub
pair_3 r a b x y h =
    let e : a ≡ each 3 (λ (i : ℕ). get_or a i nan) = fill_by_all (λ (i : ℕ). get_or a i nan) a 3 nan x (λ k l. refl) in
    let d : b ≡ each 3 (λ (i : ℕ). get_or b i nan) = fill_by_all (λ (i : ℕ). get_or b i nan) b 3 nan y (λ k l. refl) in
    rw (h.second.0, h.second.1, h.first.0, h.first.1, e, d) (refl {a = Swaps.reflectors3 binary64 (triple (each 3 (λ (i : ℕ). get_or a i nan))) (triple (each 3 (λ (i : ℕ). get_or b i nan)))})

pub pair_4 : (r : Reflectors 3 2) (s : Solution)
    → IsReflectors 3 2 4 (num s.x 0 ∷ num s.x 1 ∷ neg s.scale ∷ zero_of binary64 ∷ []) (num s.x 2 ∷ num s.x 3 ∷ zero_of binary64 ∷ neg s.scale ∷ []) r.first.tau r.first.v r.second.tau r.second.v
    → reflection4 r ≡ Swaps.reflectors4 binary64 (sylvester s)
unfolding Swaps.reflectors4 reflect_quad make_householder_in_place tail_fits sub
pair_4 r s h = rw (h.second.0, h.second.1, h.first.0, h.first.1) (refl {a = Swaps.reflectors4 binary64 (sylvester s)})

-- ---- three rows exchanged

module _ (ld j : ℕ) (t : List Float) (x : Single) where
  -- the reflections made of the form's window
  abbrev pub made_3 : Reflect3
  made_3 = reflectors_in x (columns3 (window_of 3 ld t (rows3 x j)))

  pub made : {rows : List ℕ} {w : List (List Float)} {v : Reflect3} → rows ≡ rows3 x j → w ≡ window_of 3 ld t rows → v ≡ reflectors_in x (columns3 w) → v ≡ made_3
  made a b c = c ∙ ap (λ (w : List (List Float)). reflectors_in x (columns3 w)) (b ∙ ap (window_of 3 ld t) a)

whole_3 : (ld n j : ℕ) (t : List Float) {u t₁ u₁ : List Float} (x : Single)
    → t₁ ≡ form3 x ld n j (made_3 ld j t x) t
    → u₁ ≡ on_columns binary64 ld (factor_rows n u) (reflects3_lines (made_3 ld j t x) (rows3 x j)) u
    → Done ld n u t₁ u₁ (swap3 x ld n j t)
unfolding Swaps.swap12 Swaps.swap21 Swaps.reflectors12 Swaps.reflectors21 Stopping.transposed3 on_factor
whole_3 ld n j t First a b = record { form = a; factor = b }
whole_3 ld n j t Last a b = record { form = a; factor = b }

pub done_3 : (ld n j : ℕ) (t u : List Float) {t₁ u₁ : List Float} (x : Single) {rows : List ℕ} {v : Reflect3}
    → rows ≡ rows3 x j
    → v ≡ made_3 ld j t x
    → t₁ ≡ form3 x ld n j v t
    → u₁ ≡ on_columns binary64 ld (factor_rows n u) (reflects3_lines v rows) u
    → Done ld n u t₁ u₁ (swap3 x ld n j t)
done_3 ld n j t u x {rows} {v} a e f g =
    whole_3 ld n j t x (f ∙ ap (λ (k : Reflect3). form3 x ld n j k t) e)
    (g
    ∙ ap (λ (k : Reflect3). on_columns binary64 ld (factor_rows n u) (reflects3_lines k rows) u) e
    ∙ ap (λ (r : List ℕ). on_columns binary64 ld (factor_rows n u) (reflects3_lines (made_3 ld j t x) r) u) a)
