-- One swap with the blocks standardised, and the rounds of an exchange: what is done so far, and what the rounds that are left make of it. Assumes nothing.
use mathlib.Core.Path.{◌≡◌, refl, sym, ap, ◌∙◌, subst}
use Prim.Native.Nat.{ℕ, ◌+◌, ◌-◌, ◌*◌, ◌≤◌, ◌<◌}
use native.Mathlib.Nat.{add-zero}
use native.Mathlib.Omega.{arith}
use mathlib.Core.Bool.{true, false, ◌&&◌}
use mathlib.Core.List.{List, [], ◌∷◌}
use lib.Dec.{eqb, lit≤}
use lib.ListN.{length}
use lib.Ieee.{Float, binary64}
use Rattle.model.specs.Form.{zero_below}
use Rattle.model.specs.Columns.{on_factor}
use Rattle.model.specs.Swaps.{Change, unchanged, and_then, declines_in, swap11, swap_of}
use Rattle.model.specs.Exchange.{standardise_if, exchange_whole, exchange}
use Rattle.form.specs.Run.{Rows}
use Rattle.form.specs.declared.shape.Shape.{Shape}
use Rattle.swaps.specs.declared.neighbours.Neighbours.{Neighbours}
use Rattle.swaps.specs.Done.{Done, Step}
use Rattle.swaps.specs.Inside.{Fits}
use Rattle.laws.proofs.Runs.{swaps_then, declined_then}
use Rattle.laws_exchange.specs.Loop.{Small, small, Working, round, rounds, Sizes}
use Rattle.laws_exchange.proofs.Parts.{is-two, none_apart}
use Rattle.laws_exchange.proofs.Counts.{standard-runs}
use Rattle.laws_exchange.proofs.Loop.{pairs, Fit, one-pair, four_pairs, a_pair_each, upper_pairs, lower_pairs, rounds-end, rounds_on, round-upper, round-lower, round_whole, loop_is_exchange}
use Rattle.swaps.proofs.Steps.{done_then, step_then}

-- ---- one swap, and the blocks standardised, which is no run
pub whole-step : (ld n j n1 n2 : ℕ) (t : List Float) {u t₁ u₁ t₂ u₂ t₃ u₃ : List Float} {s d : ℕ}
    → Step ld n u t₁ u₁ s d (swap_of binary64 ld n j n1 n2 t)
    → length u₁ ≡ length u
    → Done ld n u₁ t₂ u₂ (standardise_if binary64 ld n n2 j t₁)
    → length u₂ ≡ length u₁
    → Done ld n u₂ t₃ u₃ (standardise_if binary64 ld n n1 (j + n2) t₂)
    → Step ld n u t₃ u₃ s d (exchange_whole binary64 ld n j n1 n2 t)
unfolding exchange_whole declines_in
whole-step ld n j n1 n2 t a e b g c =
    record {
      done = done_then (standardise_if binary64 ld n n1 (j + n2)) (done_then (standardise_if binary64 ld n n2 j) a.done e b) (g ∙ e) c;
      swaps = simp (swaps_then, standard-runs, add-zero) a.swaps;
      declined = simp (declined_then, standard-runs, add-zero) a.declined;
    }

-- ---- steps
pub seen_as : {ld n : ℕ} {u t₁ u₁ : List Float} {s d : ℕ} {a b : Change} → a ≡ b → Step ld n u t₁ u₁ s d a → Step ld n u t₁ u₁ s d b
seen_as {ld} {n} {u} {t₁} {u₁} {s} {d} e h = subst (λ (c : Change). Step ld n u t₁ u₁ s d c) e h

-- ---- two single rows
no_block : (ld n j : ℕ) (t u : List Float) → Done ld n u t u (standardise_if binary64 ld n 1 j t)
unfolding standardise_if on_factor
no_block ld n j t u = record { form = refl; factor = refl }

one_swap : (ld n j : ℕ) (t : List Float) {u t₁ u₁ : List Float} → Done ld n u t₁ u₁ (swap11 binary64 ld n j t) → Step ld n u t₁ u₁ 1 0 (swap_of binary64 ld n j 1 1 t)
unfolding swap_of swap11 declines_in
one_swap ld n j t a = record { done = a; swaps = refl; declined = refl }

pub single_step : (ld n j : ℕ) (t : List Float) {u t₁ u₁ : List Float} → Done ld n u t₁ u₁ (swap11 binary64 ld n j t) → length u₁ ≡ length u → Step ld n u t₁ u₁ 1 0 (exchange binary64 ld n j 1 1 t)
single_step ld n j t {u} {t₁} {u₁} a e =
    seen_as (sym (none_apart binary64 ld n j 1 1 t (lit≤ tt) refl refl)) (whole-step ld n j 1 1 t (one_swap ld n j t a) e (no_block ld n j t₁ u₁) refl (no_block ld n (j + 1) t₁ u₁))

-- ---- the small exchanges still to do

-- each has its rows inside the form, and three at most wait
unfoldable pub Within : ℕ → List Small → Type 0
Within n [] = Unit {0}
Within n (s ∷ rest) = Rows n s.row s.n1 s.n2 × (s.n1 + s.n2 + length rest ≤ 4) × Within n rest

sizes : {n j n1 n2 : ℕ} → Rows n j n1 n2 → Sizes n1 n2
sizes r = record { one1 = r.one1; two1 = r.two1; one2 = r.one2; two2 = r.two2 }

fit : (n : ℕ) (todo : List Small) → Within n todo → Fit todo
unfolding Within Fit
fit n [] w = tt
fit n (s ∷ rest) w = (sizes w.0, fit n rest w.2)

a_pair : (n : ℕ) (todo : List Small) → Within n todo → length todo ≤ pairs todo
a_pair n todo w = a_pair_each todo (fit n todo w)

-- how many rounds are left at most
unfoldable pub left : List Small → ℕ
left todo = 2 * pairs todo - length todo

-- the rows of the parts
lower-row : {n j n1 n2 : ℕ} → Rows n j n1 n2 → n1 ≡ 2 → Rows n (j + 1) 1 n2
lower-row r e = record { one1 = lit≤ tt; two1 = lit≤ tt; one2 = r.one2; two2 = r.two2; inside = let i = r.inside in omega arith }

upper-row : {n j n1 n2 : ℕ} → Rows n j n1 n2 → Rows n j 1 n2
upper-row r = record { one1 = lit≤ tt; two1 = lit≤ tt; one2 = r.one2; two2 = r.two2; inside = let i = r.inside in let k = r.one1 in omega arith }

upper_of_two : {n j n1 n2 : ℕ} → Rows n j n1 n2 → Rows n j n1 1
upper_of_two r = record { one1 = r.one1; two1 = r.two1; one2 = lit≤ tt; two2 = lit≤ tt; inside = let i = r.inside in let k = r.one2 in omega arith }

lower_of_two : {n j n1 n2 : ℕ} → Rows n j n1 n2 → n2 ≡ 2 → Rows n (j + 1) n1 1
lower_of_two r e = record { one1 = r.one1; two1 = r.two1; one2 = lit≤ tt; two2 = lit≤ tt; inside = let i = r.inside in omega arith }

-- With u₀ for the factor at the start, form and factor are now t and u, what `on` makes of them, and k rounds more make the whole.
pub record Reached (ld n : ℕ) (u₀ t u : List Float) (todo : List Small) (swaps declined : ℕ) (whole : Change) : Type 0 where
  pub k : ℕ
  pub on : Change
  pub step : Step ld n u₀ t u swaps declined on
  pub kept : length u ≡ length u₀
  pub gives : rounds (zero_below binary64 ld) k binary64 ld n (record { todo = todo; change = on }) ≡ record { todo = []; change = whole }
  pub within : Within n todo
  pub few : swaps + pairs todo ≤ 4
  pub fewer : declined + pairs todo ≤ 4

-- neighbouring blocks inside a form have such rows
pub rows_of : (s : Shape) (b : Neighbours) → Fits s b → Rows s.n b.row b.n1 b.n2
rows_of s b i = record { one1 = b.one1; two1 = b.two1; one2 = b.one2; two2 = b.two2; inside = i }

pub begins : {ld n j n1 n2 : ℕ} (t u : List Float) → Rows n j n1 n2 → Reached ld n u t u (small j n1 n2 ∷ []) 0 0 (exchange binary64 ld n j n1 n2 t)
unfolding on_factor declines_in Within pairs
begins {ld} {n} {j} {n1} {n2} t u r =
    let p = four_pairs (sizes r) in
    record {
      k = 7;
      on = unchanged t;
      step = record { done = record { form = refl; factor = refl }; swaps = refl; declined = refl };
      kept = refl;
      gives = loop_is_exchange binary64 ld n j n1 n2 t (sizes r);
      within = (r, let a = r.two1 in let b = r.two2 in omega arith, tt);
      few = omega arith;
      fewer = omega arith;
    }

pub ends : {ld n : ℕ} {u₀ t u : List Float} {s d : ℕ} {whole : Change} → Reached ld n u₀ t u [] s d whole → Step ld n u₀ t u s d whole × (s ≤ 4) × (d ≤ 4)
unfolding pairs
ends {ld} {n} w = (seen_as (ap (λ (x : Working). x.change) (sym (rounds-end binary64 ld n w.k w.on) ∙ w.gives)) w.step, let a = w.few in omega arith, let a = w.fewer in omega arith)

pub with_todo : {ld n : ℕ} {u₀ t u : List Float} {a b : List Small} {sw d : ℕ} {whole : Change} → a ≡ b → Reached ld n u₀ t u a sw d whole → Reached ld n u₀ t u b sw d whole
with_todo {ld} {n} {u₀} {t} {u} {sw = sw} {d = d} {whole = whole} e w = subst (λ (l : List Small). Reached ld n u₀ t u l sw d whole) e w

-- ---- a round
module _ {ld n : ℕ} {u₀ t u : List Float} (s : Small) (rest : List Small) {sw d : ℕ} {whole : Change} (w : Reached ld n u₀ t u (s ∷ rest) sw d whole) where
  pub rows : Rows n s.row s.n1 s.n2
  unfolding Within
  rows = w.within.0

  -- with what is to do changed, and nothing done
  parted : {todo : List Small} → round (zero_below binary64 ld) binary64 ld n (s ∷ rest) w.on ≡ record { todo = todo; change = w.on } → Within n todo → pairs todo ≡ pairs (s ∷ rest) → Reached ld n u₀ t u todo sw d whole
  parted e i p =
      let m = rounds_on binary64 ld n w.k s rest w.on whole w.gives e in
      record {
        k = m.0;
        on = w.on;
        step = w.step;
        kept = w.kept;
        gives = m.1;
        within = i;
        few = rw p w.few;
        fewer = rw p w.fewer;
      }

  -- where it is parted, one more at most waits
  pub upper_room : (eqb s.n1 2 && zero_below binary64 ld t s.row) ≡ true → length rest ≤ 1
  unfolding Within
  upper_room h = let e = is-two binary64 ld s.n1 s.row t h in let b = w.within.1 in let r = rows.one2 in omega arith

  pub lower_room : (eqb s.n2 2 && zero_below binary64 ld t (s.row + s.n1)) ≡ true → length rest ≤ 1
  unfolding Within
  lower_room h = let e = is-two binary64 ld s.n2 (s.row + s.n1) t h in let b = w.within.1 in let r = rows.one1 in omega arith

  pub upper_on : (eqb s.n1 2 && zero_below binary64 ld t s.row) ≡ true → Reached ld n u₀ t u (small (s.row + 1) 1 s.n2 ∷ small s.row 1 s.n2 ∷ rest) sw d whole
  unfolding Within pairs
  upper_on h =
      let r = rows in
      let e = is-two binary64 ld s.n1 s.row t h in
      let p = upper_pairs s.n1 s.n2 e in
      let b = w.within.1 in
      parted (round-upper binary64 ld n s rest w.on (rw w.step.done.form at h))
      (lower-row r e, omega arith, (upper-row r, omega arith, w.within.2)) (omega arith)

  pub lower_on : (eqb s.n1 2 && zero_below binary64 ld t s.row) ≡ false → (eqb s.n2 2 && zero_below binary64 ld t (s.row + s.n1)) ≡ true
      → Reached ld n u₀ t u (small s.row s.n1 1 ∷ small (s.row + 1) s.n1 1 ∷ rest) sw d whole
  unfolding Within pairs
  lower_on g h =
      let r = rows in
      let e = is-two binary64 ld s.n2 (s.row + s.n1) t h in
      let p = lower_pairs s.n1 s.n2 e in
      let b = w.within.1 in
      parted (round-lower binary64 ld n s rest w.on (rw w.step.done.form at g) (rw w.step.done.form at h))
      (upper_of_two r, omega arith, (lower_of_two r e, omega arith, w.within.2)) (omega arith)

  pub whole_on : {t₁ u₁ : List Float} {s₁ d₁ : ℕ} → (eqb s.n1 2 && zero_below binary64 ld t s.row) ≡ false → (eqb s.n2 2 && zero_below binary64 ld t (s.row + s.n1)) ≡ false
      → Step ld n u t₁ u₁ s₁ d₁ (exchange_whole binary64 ld n s.row s.n1 s.n2 t) → length u₁ ≡ length u → s₁ ≡ 1 → d₁ ≤ 1
      → Reached ld n u₀ t₁ u₁ rest (sw + s₁) (d + d₁) whole
  unfolding Within pairs
  whole_on g h x e a b =
      let p = one-pair (sizes rows) in
      let q = w.few in
      let y = w.fewer in
      let m = rounds_on binary64 ld n w.k s rest w.on whole w.gives (round_whole binary64 ld n s rest w.on (rw w.step.done.form at g) (rw w.step.done.form at h)) in
      record {
        k = m.0;
        on = and_then w.on (exchange_whole binary64 ld n s.row s.n1 s.n2);
        step = step_then (exchange_whole binary64 ld n s.row s.n1 s.n2) w.step w.kept x;
        kept = e ∙ w.kept;
        gives = m.1;
        within = w.within.2;
        few = omega arith;
        fewer = omega arith;
      }

  -- fewer are left
  parted_fewer : (todo : List Small) → length todo ≡ length (s ∷ rest) + 1 → pairs todo ≡ pairs (s ∷ rest) → left todo < left (s ∷ rest)
  unfolding left
  parted_fewer todo e p = let a = a_pair n (s ∷ rest) w.within in omega arith

  pub upper_fewer : (eqb s.n1 2 && zero_below binary64 ld t s.row) ≡ true → left (small (s.row + 1) 1 s.n2 ∷ small s.row 1 s.n2 ∷ rest) < left (s ∷ rest)
  unfolding pairs
  upper_fewer h = let p = upper_pairs s.n1 s.n2 (is-two binary64 ld s.n1 s.row t h) in parted_fewer _ (omega arith) (omega arith)

  pub lower_fewer : (eqb s.n2 2 && zero_below binary64 ld t (s.row + s.n1)) ≡ true → left (small s.row s.n1 1 ∷ small (s.row + 1) s.n1 1 ∷ rest) < left (s ∷ rest)
  unfolding pairs
  lower_fewer h = let p = lower_pairs s.n1 s.n2 (is-two binary64 ld s.n2 (s.row + s.n1) t h) in parted_fewer _ (omega arith) (omega arith)

  pub whole_fewer : left rest < left (s ∷ rest)
  unfolding left pairs Within
  whole_fewer = let a = a_pair n rest w.within.2 in let p = one-pair (sizes rows) in omega arith
