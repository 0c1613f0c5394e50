-- The claim on the runs of a change: steps that fit keep an accepted form accepted; and how changes made of such steps follow one another. Assumes nothing.
use mathlib.Core.Path.{◌≡◌, refl, sym, ap, ap₂, subst, ◌∙◌}
use Prim.Native.Nat.{ℕ, ◌+◌, ◌≤◌}
use native.Mathlib.Decide.{ℕ_discrete}
use native.Mathlib.Omega.{arith}
use mathlib.Core.Bool.{Bool, true, false, ◌||◌, cond}
use mathlib.Core.List.{List, [], ◌∷◌, ◌++◌}
use lib.Dec.{eqb}
use lib.Ieee.{Float, Format}
use borrow.Author.Tests.{le-ltb, ltb-false}
use Rattle.std.proofs.lemmas.Bool.{cond_both}
use Rattle.model.specs.Schur22.{Block}
use Rattle.model.specs.Swaps.{Swap, Change, unchanged, and_then, declining, swap_of, standardise_by}
use Rattle.model.specs.Exchange.{line8, line9, crosses, line10}
use Rattle.laws_moves.proofs.Upper.{or_left, or_right}
use Rattle.laws_stride.proofs.Lines.{sizes}
use Rattle.laws_stride.proofs.Changes.{Room}
use Rattle.laws_shape.specs.Steps.{Step, runs, standardises, stepped, stepped_by, runs_of, RunFits, RowsFit, Fits, AllFit, StepsKeep, Stepwise}
use Rattle.laws_shape.proofs.Shape.{Cut, Shape, shape, accepted}
use Rattle.laws_shape.proofs.Swapped.{swap_keeps, standardise_keeps}

-- ---- the lines of a run, and what they say of its rows

-- both sizes are 1 or 2, the rows are below n, and no 2-block lies across an edge
pub record Edges (f : Format) (ld n : ℕ) (t : List Float) (j n1 n2 : ℕ) : Type 0 where
  pub room : Room n j n1 n2
  pub upper : Cut f ld n t j
  pub middle : Cut f ld n t (j + n1)
  pub lower : Cut f ld n t (j + n1 + n2)

one_or_two : (k : ℕ) → 1 ≤ k → k ≤ 2 → (eqb k 1 || eqb k 2) ≡ true
one_or_two k g h = elim (ℕ_discrete k 1) [ yes e ↦ rw e | no e ↦ let d : k ≡ 2 = omega arith in rw d ]

module _ (f : Format) (ld n : ℕ) (t : List Float) where
  pub edges-of : (r : Swap) → RunFits f ld n t r → Edges f ld n t r.row r.n1 r.n2
  unfolding line9 line10
  edges-of r h =
      let z = sizes r.n1 r.n2 h.sizes in
      let p = or_right (crosses f ld n t r.row) _ h.edges in
      record {
        room = record { some1 = z.0.0; most1 = z.0.1; some2 = z.1.0; most2 = z.1.1; below = ltb-false n (r.row + r.n1 + r.n2) h.rows };
        upper = or_left (crosses f ld n t r.row) _ h.edges;
        middle = or_left (crosses f ld n t (r.row + r.n1)) _ p;
        lower = or_right (crosses f ld n t (r.row + r.n1)) _ p;
      }

  pub run_fits : (r : Swap) → Edges f ld n t r.row r.n1 r.n2 → RunFits f ld n t r
  unfolding line8 line9 line10
  run_fits r e =
      let k = e.room in
      record {
        sizes = rw (one_or_two r.n1 k.some1 k.most1, one_or_two r.n2 k.some2 k.most2);
        rows = le-ltb n (r.row + r.n1 + r.n2) k.below;
        edges = rw (e.upper, e.middle, e.lower);
      }

-- ---- steps that fit keep the shape

step_keeps : (f : Format) (ld n : ℕ) (t : List Float) (s : Step) → Shape f ld n t → Fits f ld n t s → Shape f ld n (stepped f ld n s t)
unfolding stepped Fits
step_keeps f ld n t (runs r) h k =
    let e = edges-of f ld n t r k in
    cond_both r.declined t _ (Shape f ld n) (λ _. h) (λ _. (swap_keeps f ld n t h r.row r.n1 r.n2 e.room e.upper e.middle e.lower).0.shape)
step_keeps f ld n t (standardises j b) h k = (standardise_keeps f ld n t h j b k.rows k.upper k.lower).shape

steps_shape : (f : Format) (ld n : ℕ) (t : List Float) (ss : List Step) → Shape f ld n t → AllFit f ld n t ss → Shape f ld n (stepped_by f ld n ss t)
unfolding stepped_by AllFit
steps_shape f ld n t [] h k = h
steps_shape f ld n t (s ∷ ss) h k = steps_shape f ld n (stepped f ld n s t) ss (step_keeps f ld n t s h k.0) k.1

pub steps_keep_lem : StepsKeep
steps_keep_lem f ld n t ss h k = accepted f ld n _ (steps_shape f ld n t ss (shape f ld n t h) k)

-- ---- one change made of steps, and then another

fit_append : (f : Format) (ld n : ℕ) (t : List Float) (ss xs : List Step) → AllFit f ld n t ss → AllFit f ld n (stepped_by f ld n ss t) xs → AllFit f ld n t (ss ++ xs)
unfolding AllFit stepped_by
fit_append f ld n t [] xs h k = k
fit_append f ld n t (s ∷ ss) xs h k = (h.0, fit_append f ld n (stepped f ld n s t) ss xs h.1 k)

stepped-append : (f : Format) (ld n : ℕ) (t : List Float) (ss xs : List Step) → stepped_by f ld n (ss ++ xs) t ≡ stepped_by f ld n xs (stepped_by f ld n ss t)
unfolding stepped_by
stepped-append f ld n t [] xs = refl
stepped-append f ld n t (s ∷ ss) xs = stepped-append f ld n (stepped f ld n s t) ss xs

runs_append : (ss xs : List Step) → runs_of (ss ++ xs) ≡ runs_of ss ++ runs_of xs
unfolding runs_of
runs_append [] xs = refl
runs_append (runs r ∷ ss) xs = ap (λ (rs : List Swap). r ∷ rs) (runs_append ss xs)
runs_append (standardises j b ∷ ss) xs = runs_append ss xs

module _ (f : Format) (ld n : ℕ) where
  pub stepwise-none : (t : List Float) → Stepwise f ld n t (unchanged t)
  unfolding AllFit stepped_by runs_of
  stepwise-none t = record { steps = []; fit = tt; form = refl; runs = refl }

  pub stepwise_then : {t : List Float} {c : Change} (next : List Float → Change) → Stepwise f ld n t c → Stepwise f ld n c.form (next c.form) → Stepwise f ld n t (and_then c next)
  unfolding and_then
  stepwise_then {t} {c} next x y =
      record {
        steps = x.steps ++ y.steps;
        fit = fit_append f ld n t x.steps y.steps x.fit (subst (λ (u : List Float). AllFit f ld n u y.steps) x.form y.fit);
        form = y.form ∙ ap (stepped_by f ld n y.steps) x.form ∙ sym (stepped-append f ld n t x.steps y.steps);
        runs = ap₂ ◌++◌ x.runs y.runs ∙ sym (runs_append x.steps y.steps);
      }

  -- the steps themselves

  pub stepwise-declined : (t : List Float) (j n1 n2 : ℕ) → Edges f ld n t j n1 n2 → Stepwise f ld n t (declining j n1 n2 t)
  unfolding AllFit Fits stepped_by stepped runs_of
  stepwise-declined t j n1 n2 e = record { steps = runs (record { row = j; n1 = n1; n2 = n2; declined = true }) ∷ []; fit = (run_fits f ld n t _ e, tt); form = refl; runs = refl }

  pub stepwise-standard : (t : List Float) (j : ℕ) (b : Block) → RowsFit f ld n t j → Stepwise f ld n t (standardise_by f ld n j b t)
  unfolding AllFit Fits stepped_by stepped runs_of
  stepwise-standard t j b k = record { steps = standardises j b ∷ []; fit = (k, tt); form = refl; runs = refl }

  -- a swap that is one run, and has left the form if that declined
  pub stepwise-run : (t : List Float) (j n1 n2 : ℕ) (d : Bool) → Edges f ld n t j n1 n2 → (swap_of f ld n j n1 n2 t).runs ≡ record { row = j; n1 = n1; n2 = n2; declined = d } ∷ []
      → (d ≡ true → (swap_of f ld n j n1 n2 t).form ≡ t) → Stepwise f ld n t (swap_of f ld n j n1 n2 t)
  unfolding AllFit Fits stepped_by stepped runs_of
  stepwise-run t j n1 n2 d e r h =
      record { steps = runs (record { row = j; n1 = n1; n2 = n2; declined = d }) ∷ []; fit = (run_fits f ld n t (record { row = j; n1 = n1; n2 = n2; declined = d }) e, tt); form = go d h; runs = r }
    where
      go : (b : Bool) → (b ≡ true → (swap_of f ld n j n1 n2 t).form ≡ t) → (swap_of f ld n j n1 n2 t).form ≡ cond b t (swap_of f ld n j n1 n2 t).form
      go true g = g refl
      go false g = refl
