-- The steps of a tried exchange, one after another, are the exchange. Assumes nothing.
use mathlib.Core.Path.{◌≡◌, refl, ◌∙◌, subst}
use Prim.Native.Nat.{ℕ, ◌+◌}
use native.Mathlib.Omega.{arith}
use mathlib.Core.Bool.{Bool, true, false, cond}
use mathlib.Core.List.{List}
use lib.ListN.{length}
use lib.Ieee.{Float, binary64}
use Rattle.model.specs.Columns.{on_factor}
use Rattle.model.specs.Swaps.{Change, declining, declines_in, swaps_of, declined_of, swap11, swap22, swap22_by, swap_of}
use Rattle.model.specs.Stopping.{fails22, test_fails, standardise_also, try_exchange}
use Rattle.swaps.specs.Done.{Done}
use Rattle.swaps.proofs.Steps.{done_then}
use Rattle.tries.proofs.Counts.{try_counts}

-- ---- the swap, or what a test that fails leaves
module _ (ld n j n1 n2 : ℕ) (t : List Float) where
  abbrev pub tried_swap : Change
  tried_swap = cond (test_fails binary64 ld t j n1 n2) (declining j n1 n2 t) (swap_of binary64 ld n j n1 n2 t)

  pub failed : {u t₁ u₁ : List Float} → test_fails binary64 ld t j n1 n2 ≡ true → Done ld n u t₁ u₁ tried_swap → Done ld n u t₁ u₁ (try_exchange binary64 ld n j n1 n2 t)
  unfolding try_exchange
  failed h a = rw h (rw h at a)

  pub passed : {u t₁ u₁ t₂ u₂ t₃ u₃ : List Float}
      → test_fails binary64 ld t j n1 n2 ≡ false
      → Done ld n u t₁ u₁ tried_swap
      → length u₁ ≡ length u
      → Done ld n u₁ t₂ u₂ (standardise_also binary64 ld n n2 j t₁)
      → length u₂ ≡ length u₁
      → Done ld n u₂ t₃ u₃ (standardise_also binary64 ld n n1 (j + n2) t₂)
      → Done ld n u t₃ u₃ (try_exchange binary64 ld n j n1 n2 t)
  unfolding try_exchange
  passed h a e b g c = rw h (done_then (standardise_also binary64 ld n n1 (j + n2)) (done_then (standardise_also binary64 ld n n2 j) (rw h at a) e b) (g ∙ e) c)

-- ---- the exchange with its counts
pub whole : (ld n j n1 n2 : ℕ) (t : List Float) (r : Bool) {u t₁ u₁ : List Float}
    → Done ld n u t₁ u₁ (try_exchange binary64 ld n j n1 n2 t)
    → r ≡ test_fails binary64 ld t j n1 n2
    → Done ld n u t₁ u₁ (try_exchange binary64 ld n j n1 n2 t)
    × (r ≡ test_fails binary64 ld t j n1 n2)
    × (swaps_of (try_exchange binary64 ld n j n1 n2 t) ≡ 1)
    × (declined_of (try_exchange binary64 ld n j n1 n2 t) ≡ cond r 1 0)
whole ld n j n1 n2 t r a e = let k = try_counts binary64 ld n j n1 n2 t in (a, e, k.0, rw e k.1)

-- ---- two single rows

no_block : (ld n j : ℕ) (t u : List Float) → Done ld n u t u (standardise_also binary64 ld n 1 j t)
unfolding standardise_also on_factor
no_block ld n j t u = record { form = refl; factor = refl }

pub single : (ld n j : ℕ) (t : List Float) {u t₁ u₁ : List Float}
    → Done ld n u t₁ u₁ (swap11 binary64 ld n j t)
    → length u₁ ≡ length u
    → Done ld n u t₁ u₁ (try_exchange binary64 ld n j 1 1 t)
unfolding test_fails swap_of
single ld n j t {u} {t₁} {u₁} a e = passed ld n j 1 1 t refl a e (no_block ld n j t₁ u₁) refl (no_block ld n (j + 1) t₁ u₁)

-- ---- two 2-blocks: 01's swap makes the test itself

declined-pair : (ld n j : ℕ) (t : List Float) → declined_of (swap22 binary64 ld n j t) ≡ cond (fails22 binary64 ld t j) 1 0
unfolding swap22 swap22_by fails22 declines_in
declined-pair ld n j t = go (fails22 binary64 ld t j) refl
  where
    go : (b : Bool) → fails22 binary64 ld t j ≡ b → declined_of (swap22 binary64 ld n j t) ≡ cond b 1 0
    go true h = rw h refl
    go false h = rw h refl

told : (k : ℕ) (a b : Bool) → k ≡ cond a 1 0 → k ≡ cond b 1 0 → b ≡ a
told k true true d e = refl
told k false false d e = refl
told k true false d e = absurd (omega arith)
told k false true d e = absurd (omega arith)

pair_same : (ld n j : ℕ) (t : List Float) → swap22 binary64 ld n j t ≡ cond (fails22 binary64 ld t j) (declining j 2 2 t) (swap22 binary64 ld n j t)
unfolding swap22 fails22
pair_same ld n j t = go (fails22 binary64 ld t j) refl
  where
    go : (b : Bool) → fails22 binary64 ld t j ≡ b → swap22 binary64 ld n j t ≡ cond b (declining j 2 2 t) (swap22 binary64 ld n j t)
    go true h = rw h refl
    go false h = refl

pub pair : (ld n j : ℕ) (t : List Float) {u t₁ u₁ : List Float} {r : Bool}
    → Done ld n u t₁ u₁ (swap22 binary64 ld n j t)
    → declined_of (swap22 binary64 ld n j t) ≡ cond r 1 0
    → Done ld n u t₁ u₁ (tried_swap ld n j 2 2 t) × (r ≡ test_fails binary64 ld t j 2 2)
unfolding test_fails swap_of
pair ld n j t {u} {t₁} {u₁} {r} a e = (subst (λ (c : Change). Done ld n u t₁ u₁ c) (pair_same ld n j t) a, told _ (fails22 binary64 ld t j) r (declined-pair ld n j t) e)
