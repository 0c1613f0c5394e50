-- A tried exchange is one run of a swap routine, which declines where the test fails. Assumes nothing.
use mathlib.Core.Path.{◌≡◌, refl}
use Prim.Native.Nat.{ℕ, ◌+◌}
use native.Mathlib.Nat.{add-zero}
use mathlib.Core.Bool.{Bool, true, false, cond}
use mathlib.Core.List.{List, []}
use lib.Dec.{eqb}
use lib.Ieee.{Float, Format}
use Rattle.model.specs.Swaps.{unchanged, declining, and_then, declines_in, swaps_of, declined_of, swap11, swap12, swap21, swap22, swap22_by, swap_of, block_at, standardise_by}
use Rattle.model.specs.Stopping.{fails12, fails21, fails22, test_fails, exchanged_b, standardise_also, try_exchange}
use Rattle.laws.proofs.Runs.{swaps_then, declined_then}

pair-counts : (f : Format) (ld n j : ℕ) (t : List Float) → fails22 f ld t j ≡ false → (swaps_of (swap22 f ld n j t) ≡ 1) × (declined_of (swap22 f ld n j t) ≡ 0)
unfolding swap22 swap22_by fails22 declines_in
pair-counts f ld n j t h = rw h (refl, refl)

-- a swap whose test does not fail does not decline
swap_counts : (f : Format) (ld n j n1 n2 : ℕ) (t : List Float) → test_fails f ld t j n1 n2 ≡ false
    → (swaps_of (swap_of f ld n j n1 n2 t) ≡ 1) × (declined_of (swap_of f ld n j n1 n2 t) ≡ 0)
unfolding swap_of swap11 swap12 swap21 test_fails declines_in
swap_counts f ld n j n1 n2 t = go (eqb n1 1) (eqb n2 1)
  where
    go : (a b : Bool) → cond a (cond b false (fails12 f ld t j)) (cond b (fails21 f ld t j) (fails22 f ld t j)) ≡ false
        → (swaps_of (cond a (cond b (swap11 f ld n j t) (swap12 f ld n j t)) (cond b (swap21 f ld n j t) (swap22 f ld n j t))) ≡ 1)
        × (declined_of (cond a (cond b (swap11 f ld n j t) (swap12 f ld n j t)) (cond b (swap21 f ld n j t) (swap22 f ld n j t))) ≡ 0)
    go true true h = (refl, refl)
    go true false h = (refl, refl)
    go false true h = (refl, refl)
    go false false h = pair-counts f ld n j t h

-- standardising is no run
standard-runs : (f : Format) (ld n size j : ℕ) (t : List Float) → (standardise_also f ld n size j t).runs ≡ []
unfolding standardise_also
standard-runs f ld n size j t = go (eqb size 2)
  where
    go : (b : Bool) → (cond b (standardise_by f ld n j (exchanged_b f (block_at f ld t j)) t) (unchanged t)).runs ≡ []
    go true = refl
    go false = refl

pub try_counts : (f : Format) (ld n j n1 n2 : ℕ) (t : List Float)
    → (swaps_of (try_exchange f ld n j n1 n2 t) ≡ 1) × (declined_of (try_exchange f ld n j n1 n2 t) ≡ cond (test_fails f ld t j n1 n2) 1 0)
unfolding try_exchange declines_in
try_counts f ld n j n1 n2 t = go (test_fails f ld t j n1 n2) refl
  where
    go : (b : Bool) → test_fails f ld t j n1 n2 ≡ b
        → (swaps_of (cond b (declining j n1 n2 t) (and_then (and_then (swap_of f ld n j n1 n2 t) (standardise_also f ld n n2 j)) (standardise_also f ld n n1 (j + n2)))) ≡ 1)
        × (declined_of (cond b (declining j n1 n2 t) (and_then (and_then (swap_of f ld n j n1 n2 t) (standardise_also f ld n n2 j)) (standardise_also f ld n n1 (j + n2)))) ≡ cond b 1 0)
    go true h = (refl, refl)
    go false h = let s = swap_counts f ld n j n1 n2 t h in (simp (swaps_then, standard-runs, add-zero) s.0, simp (declined_then, standard-runs, add-zero) s.1)
