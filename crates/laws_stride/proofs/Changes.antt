-- Two forms in a relation that goes by their n rows. The four swaps, standardising, the exchange of rows below n and the tried one do the same operations and runs on both, and keep the relation. Assumes nothing.
use mathlib.Core.Path.{◌≡◌, refl, ap₂}
use Prim.Native.Nat.{ℕ, zero, suc, ◌+◌, ◌≤◌, ◌<◌}
use native.Mathlib.Omega.{arith}
use mathlib.Core.Bool.{◌&&◌, cond}
use mathlib.Core.List.{List, ◌++◌}
use lib.Dec.{eqb}
use lib.Ieee.{Float, Format}
use borrow.Author.Tests.{eqb-true, eqb-false}
use Rattle.model.specs.Arith.{zero_of}
use Rattle.model.specs.Form.{zero_below}
use Rattle.model.specs.Schur22.{Block}
use Rattle.model.specs.Columns.{Operation}
use Rattle.model.specs.Swaps.{Change, unchanged, swapped, declining, and_then, rotation11, swap11, reflectors12, swap12, reflectors21, swap21, window_column, window_at, reflectors4, solution_of, declines, swap22_by, swap22, swap_of, block_at, standardise_by, standardise}
use Rattle.model.specs.Exchange.{standardise_if, exchange_whole, exchange_by, exchange}
use Rattle.model.specs.Stopping.{triple_in, window_of, fails12, fails21, fails22, test_fails, exchanged_b, standardise_also, try_exchange}
use Rattle.laws_stride.proofs.Tests.{guarded, is-two, branch}
use Rattle.laws_stride.proofs.Rowwise.{Rowwise, zero_same, cell, set_at}
use Rattle.laws_stride.proofs.Operations.{Inside, AllInside, inside-append, on_form_lem}

-- the n1 rows from row j on and the n2 below them, one or two each, are below n
pub record Room (n j n1 n2 : ℕ) : Type 0 where
  pub some1 : 1 ≤ n1
  pub most1 : n1 ≤ 2
  pub some2 : 1 ≤ n2
  pub most2 : n2 ≤ 2
  pub below : j + n1 + n2 ≤ n

-- the same operations, on columns below n, and the same runs
pub record Alike (n : ℕ) (R : List Float → List Float → Type 0) (c d : Change) : Type 0 where
  pub forms : R c.form d.form
  pub operations : c.operations ≡ d.operations
  pub inside : AllInside n c.operations
  pub runs : c.runs ≡ d.runs

-- ---- a swap, and standardising after it, with whatever is done to the block that standardising gives

unfoldable pub standardise_with : (Block → Block) → Format → ℕ → ℕ → ℕ → ℕ → List Float → Change
standardise_with g f ld n size j t = cond (eqb size 2) (standardise_by f ld n j (g (block_at f ld t j)) t) (unchanged t)

unfoldable pub swap_with : (Block → Block) → Format → ℕ → ℕ → ℕ → ℕ → ℕ → List Float → Change
swap_with g f ld n j n1 n2 t = and_then (and_then (swap_of f ld n j n1 n2 t) (standardise_with g f ld n n2 j)) (standardise_with g f ld n n1 (j + n2))

module _ (f : Format) (ld md n : ℕ) (R : List Float → List Float → Type 0) (K : Rowwise ld md n R) where
  -- ---- nothing, and one change after another

  pub alike_unchanged : {a b : List Float} → R a b → Alike n R (unchanged a) (unchanged b)
  unfolding AllInside
  alike_unchanged r = record { forms = r; operations = refl; inside = tt; runs = refl }

  pub alike_then : {c d : Change} (g h : List Float → Change) → Alike n R c d → (R c.form d.form → Alike n R (g c.form) (h d.form)) → Alike n R (and_then c g) (and_then d h)
  unfolding and_then
  alike_then {c} g h s t =
      let w = t s.forms in
      record {
        forms = w.forms;
        operations = ap₂ ◌++◌ s.operations w.operations;
        inside = inside-append n c.operations _ s.inside w.inside;
        runs = ap₂ ◌++◌ s.runs w.runs;
      }

  -- ---- the swaps

  alike_swapped : (j n1 n2 : ℕ) (o : Operation) {a b : List Float} → Inside n o → R a b → Alike n R (swapped j n1 n2 a o) (swapped j n1 n2 b o)
  unfolding AllInside
  alike_swapped j n1 n2 o h r = record { forms = r; operations = refl; inside = (h, tt); runs = refl }

  alike_declining : (j n1 n2 : ℕ) {a b : List Float} → R a b → Alike n R (declining j n1 n2 a) (declining j n1 n2 b)
  unfolding AllInside
  alike_declining j n1 n2 r = record { forms = r; operations = refl; inside = tt; runs = refl }

  module _ (j : ℕ) {a b : List Float} (r : R a b) where
    rotation11-same : j + 1 < n → rotation11 f ld a j ≡ rotation11 f md b j
    unfolding rotation11
    rotation11-same h =
        let p : j < n = omega arith in
        rw ((K.reads r).same j (j + 1) p h, (K.reads r).same (j + 1) (j + 1) h h, (K.reads r).same j j p p)

    alike11 : j + 1 < n → Alike n R (swap11 f ld n j a) (swap11 f md n j b)
    unfolding swap11 Inside
    alike11 h =
        rw (rotation11-same h)
        (alike_swapped j 1 1 _ (omega arith)
        (on_form_lem f ld md n R K (j + 2) j _ (omega arith) (omega arith)
        (set_at K (cell j j (omega arith)) ((K.reads r).same (j + 1) (j + 1) h h) (set_at K (cell (j + 1) (j + 1) (omega arith)) ((K.reads r).same j j (omega arith) (omega arith)) r))))

    reflectors12-same : j + 2 < n → reflectors12 f ld a j ≡ reflectors12 f md b j
    unfolding reflectors12
    reflectors12-same h =
        let p : j < n = omega arith in
        let q : j + 1 < n = omega arith in
        rw ((K.reads r).same j (j + 1) p q, (K.reads r).same (j + 1) (j + 1) q q, (K.reads r).same j j p p, (K.reads r).same (j + 2) (j + 1) h q, (K.reads r).same j (j + 2) p h, (K.reads r).same (j + 1) (j + 2) q h, (K.reads r).same (j + 2) (j + 2) h h)

    alike12 : j + 2 < n → Alike n R (swap12 f ld n j a) (swap12 f md n j b)
    unfolding swap12 Inside
    alike12 h =
        rw (reflectors12-same h)
        (alike_swapped j 1 2 _ (omega arith)
        (K.puts (j + 2) (j + 1) (zero_of f) h (omega arith) (K.puts (j + 2) j (zero_of f) h (omega arith)
        (on_form_lem f ld md n R K j (j + 3) _ (omega arith) (omega arith) r))))

    reflectors21-same : j + 2 < n → reflectors21 f ld a j ≡ reflectors21 f md b j
    unfolding reflectors21
    reflectors21-same h =
        let p : j < n = omega arith in
        let q : j + 1 < n = omega arith in
        rw ((K.reads r).same (j + 1) (j + 2) q h, (K.reads r).same (j + 1) (j + 1) q q, (K.reads r).same (j + 2) (j + 2) h h, (K.reads r).same (j + 1) j q p, (K.reads r).same j (j + 2) p h, (K.reads r).same j (j + 1) p q, (K.reads r).same j j p p)

    alike21 : j + 2 < n → Alike n R (swap21 f ld n j a) (swap21 f md n j b)
    unfolding swap21 Inside
    alike21 h =
        rw (reflectors21-same h)
        (alike_swapped j 2 1 _ (omega arith)
        (K.puts (j + 2) j (zero_of f) h (omega arith) (K.puts (j + 1) j (zero_of f) (omega arith) (omega arith)
        (on_form_lem f ld md n R K j (j + 3) _ (omega arith) (omega arith) r))))

    column-same : (col : ℕ) → j + 3 < n → col < n → window_column ld a j col ≡ window_column md b j col
    unfolding window_column
    column-same col h g = rw ((K.reads r).same j col (omega arith) g, (K.reads r).same (j + 1) col (omega arith) g, (K.reads r).same (j + 2) col (omega arith) g, (K.reads r).same (j + 3) col (omega arith) g)

    window_same : j + 3 < n → window_at ld a j ≡ window_at md b j
    unfolding window_at
    window_same h = rw (column-same j h (omega arith), column-same (j + 1) h (omega arith), column-same (j + 2) h (omega arith), column-same (j + 3) h (omega arith))

    alike22 : j + 3 < n → Alike n R (swap22 f ld n j a) (swap22 f md n j b)
    unfolding swap22 swap22_by Inside
    alike22 h =
        rw (window_same h)
        (branch (Alike n R) (declines f (reflectors4 f (solution_of f (window_at md b j))) (window_at md b j)) refl
        (λ _. alike_declining j 2 2 r)
        (λ _. alike_swapped j 2 2 _ rows
        (K.puts (j + 3) (j + 1) (zero_of f) h (omega arith) (K.puts (j + 3) j (zero_of f) h (omega arith) (K.puts (j + 2) (j + 1) (zero_of f) (omega arith) (omega arith) (K.puts (j + 2) j (zero_of f) (omega arith) (omega arith)
        (on_form_lem f ld md n R K j (j + 4) _ (omega arith) rows r)))))))
      where
        rows : (j < n) × (j + 1 < n) × (j + 2 < n) × (j + 3 < n)
        rows = omega arith

    block_same : j + 1 < n → block_at f ld a j ≡ block_at f md b j
    unfolding block_at
    block_same h =
        let p : j < n = omega arith in
        cc ((K.reads r).same j j p p, (K.reads r).same j (j + 1) p h, (K.reads r).same (j + 1) j h p, (K.reads r).same (j + 1) (j + 1) h h)

    alike_standardise : (x : Block) → j + 1 < n → Alike n R (standardise_by f ld n j x a) (standardise_by f md n j x b)
    unfolding Inside AllInside
    alike_standardise x h =
        record {
          forms =
              on_form_lem f ld md n R K (j + 2) j _ (omega arith) rows
              (K.puts (j + 1) (j + 1) _ h h (K.puts (j + 1) j _ h (omega arith) (K.puts j (j + 1) _ (omega arith) h (K.puts j j _ (omega arith) (omega arith) r))));
          operations = refl;
          inside = (rows, tt);
          runs = refl;
        }
      where
        rows : (j < n) × (j + 1 < n)
        rows = omega arith

    -- ---- the tests of a tried exchange

    triple-same : (p q o col : ℕ) → p < n → q < n → o < n → col < n → triple_in ld a p q o col ≡ triple_in md b p q o col
    unfolding triple_in
    triple-same p q o col x y z h = rw ((K.reads r).same p col x h, (K.reads r).same q col y h, (K.reads r).same o col z h)

    window3-same : (p q o : ℕ) → p < n → q < n → o < n → window_of ld a p q o ≡ window_of md b p q o
    unfolding window_of
    window3-same p q o x y z = rw (triple-same p q o p x y z x, triple-same p q o q x y z y, triple-same p q o o x y z z)

    fails12-same : j + 2 < n → fails12 f ld a j ≡ fails12 f md b j
    unfolding fails12
    fails12-same h = rw (window3-same j (j + 1) (j + 2) (omega arith) (omega arith) h, reflectors12-same h)

    fails21-same : j + 2 < n → fails21 f ld a j ≡ fails21 f md b j
    unfolding fails21
    fails21-same h = rw (window3-same (j + 2) (j + 1) j h (omega arith) (omega arith), reflectors21-same h)

    fails22-same : j + 3 < n → fails22 f ld a j ≡ fails22 f md b j
    unfolding fails22
    fails22-same h = rw (window_same h)

  -- ---- the exchange

  alike_swap : (j n1 n2 : ℕ) {a b : List Float} → Room n j n1 n2 → R a b → Alike n R (swap_of f ld n j n1 n2 a) (swap_of f md n j n1 n2 b)
  unfolding swap_of
  alike_swap j n1 n2 w r =
      branch (Alike n R) (eqb n1 1) refl
      (λ d. branch (Alike n R) (eqb n2 1) refl (λ e. alike11 j r (omega arith)) (λ e. let q = eqb-false n2 1 e in alike12 j r (omega arith)))
      (λ d. let p = eqb-false n1 1 d in branch (Alike n R) (eqb n2 1) refl (λ e. alike21 j r (omega arith)) (λ e. let q = eqb-false n2 1 e in alike22 j r (omega arith)))

  alike_standardise_with : (g : Block → Block) (size j : ℕ) {a b : List Float} → j + size ≤ n → R a b → Alike n R (standardise_with g f ld n size j a) (standardise_with g f md n size j b)
  unfolding standardise_with
  alike_standardise_with g size j h r =
      branch (Alike n R) (eqb size 2) refl (λ e. let q = eqb-true size 2 e in rw (block_same j r (omega arith)) (alike_standardise j r _ (omega arith))) (λ _. alike_unchanged r)

  alike_with : (g : Block → Block) (j n1 n2 : ℕ) {a b : List Float} → Room n j n1 n2 → R a b → Alike n R (swap_with g f ld n j n1 n2 a) (swap_with g f md n j n1 n2 b)
  unfolding swap_with
  alike_with g j n1 n2 w r =
      alike_then _ _ (alike_then _ _ (alike_swap j n1 n2 w r) (λ s. alike_standardise_with g n2 j (omega arith) s)) (λ s. alike_standardise_with g n1 (j + n2) (omega arith) s)

  alike_whole : (j n1 n2 : ℕ) {a b : List Float} → Room n j n1 n2 → R a b → Alike n R (exchange_whole f ld n j n1 n2 a) (exchange_whole f md n j n1 n2 b)
  unfolding exchange_whole swap_with standardise_if standardise standardise_with
  alike_whole = alike_with (λ x. x)

  alike_by : (k j n1 n2 : ℕ) {a b : List Float} → Room n j n1 n2 → R a b → Alike n R (exchange_by k f ld n j n1 n2 a) (exchange_by k f md n j n1 n2 b)
  unfolding exchange_by
  alike_by zero j n1 n2 w r = alike_unchanged r
  alike_by (suc k) j n1 n2 {a} w r =
      branch (Alike n R) (eqb n1 2 && zero_below f ld a j) (guarded (eqb n1 2) _ _ (λ _. zero_same f j (omega arith) (K.reads r)))
      (λ e. let q = is-two n1 _ e in alike_then _ _ (alike_by k (j + 1) 1 n2 (omega arith) r) (alike_by k j 1 n2 (omega arith)))
      (λ _. branch (Alike n R) (eqb n2 2 && zero_below f ld a (j + n1)) (guarded (eqb n2 2) _ _ (λ e. let q = eqb-true n2 2 e in zero_same f (j + n1) (omega arith) (K.reads r)))
      (λ e. let q = is-two n2 _ e in alike_then _ _ (alike_by k j n1 1 (omega arith) r) (alike_by k (j + 1) n1 1 (omega arith)))
      (λ _. alike_whole j n1 n2 w r))

  pub alike_exchange : (j n1 n2 : ℕ) {a b : List Float} → Room n j n1 n2 → R a b → Alike n R (exchange f ld n j n1 n2 a) (exchange f md n j n1 n2 b)
  unfolding exchange
  alike_exchange j n1 n2 w r = alike_by (n1 + n2) j n1 n2 w r

  -- ---- the tried exchange

  test_same : (j n1 n2 : ℕ) {a b : List Float} → Room n j n1 n2 → R a b → test_fails f ld a j n1 n2 ≡ test_fails f md b j n1 n2
  unfolding test_fails
  test_same j n1 n2 w r =
      branch ◌≡◌ (eqb n1 1) refl
      (λ d. branch ◌≡◌ (eqb n2 1) refl (λ e. refl) (λ e. let q = eqb-false n2 1 e in fails12-same j r (omega arith)))
      (λ d. let p = eqb-false n1 1 d in branch ◌≡◌ (eqb n2 1) refl (λ e. fails21-same j r (omega arith)) (λ e. let q = eqb-false n2 1 e in fails22-same j r (omega arith)))

  pub alike_try : (j n1 n2 : ℕ) {a b : List Float} → Room n j n1 n2 → R a b → Alike n R (try_exchange f ld n j n1 n2 a) (try_exchange f md n j n1 n2 b)
  unfolding try_exchange swap_with standardise_also standardise_with
  alike_try j n1 n2 {a} w r = branch (Alike n R) (test_fails f ld a j n1 n2) (test_same j n1 n2 w r) (λ _. alike_declining j n1 n2 r) (λ _. alike_with (exchanged_b f) j n1 n2 w r)
