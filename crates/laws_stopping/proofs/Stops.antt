-- The claim: the move stops exactly where a test has failed, and then exactly one has, the last. Assumes nothing.
use Prim.Native.Nat.{ℕ, ◌+◌}
use native.Mathlib.Omega.{arith}
use mathlib.Core.Path.{◌≡◌, refl, sym, ap, ap₂, ◌∙◌}
use mathlib.Core.Logic.{◌↔◌, inl, inr}
use mathlib.Core.Bool.{Bool, true, false, cond, false≢true, true≢false}
use mathlib.Core.List.{List, [], ◌∷◌, ◌++◌, map, append-nil, append_assoc}
use lib.Dec.{eqb}
use lib.Ieee.{Float, Format}
use Rattle.model.specs.Swaps.{Swap, Change, unchanged, declining, declines_in, declined_of, and_then, swap11, swap12, swap21, swap22_by, swap22, swap_of}
use Rattle.laws.proofs.Runs.{declined_then}
use Rattle.model.specs.Move.{Exchange, Moving, move_line}
use Rattle.model.specs.Stopping.{fails22, test_fails, standardise_also, try_exchange, stopping, Going, stopping_move, Stopped, ended, stopping_call}
use Rattle.laws_stopping.specs.Made.{make_by, made_by}
use Rattle.laws_stopping.specs.Stops.{fails, run_of, told, Passed, Failed, Stops, StopsExactly, CallStops}
use Rattle.laws_stopping.proofs.Agree.{OneTwo, Sized, AllSized, On, Off, off_done, off_sized}
use Rattle.laws_stopping.proofs.Follows.{Ends, walk_ends, calm}

module _ (f : Format) (ld n : ℕ) where
  -- ---- one exchange is one run, declined exactly where the test fails

  run : ℕ → ℕ → ℕ → Bool → Swap
  run j n1 n2 b = record { row = j; n1 = n1; n2 = n2; declined = b }

  -- a swap whose test passes, and the standardising after it
  swap_runs : (j n1 n2 : ℕ) (t : List Float) → OneTwo n1 → OneTwo n2 → test_fails f ld t j n1 n2 ≡ false
      → (and_then (and_then (swap_of f ld n j n1 n2 t) (standardise_also f ld n n2 j)) (standardise_also f ld n n1 (j + n2))).runs ≡ run j n1 n2 false ∷ []
  unfolding run test_fails fails22 swap_of swap11 swap12 swap21 swap22 swap22_by standardise_also and_then
  swap_runs j n1 n2 t (inl p) (inl q) e = rw (p, q)
  swap_runs j n1 n2 t (inl p) (inr q) e = rw (p, q)
  swap_runs j n1 n2 t (inr p) (inl q) e = rw (p, q)
  swap_runs j n1 n2 t (inr p) (inr q) e = rw (p, q) (rw (rw (p, q) at e))

  try_run : (t : List Float) (e : Exchange) → Sized e → (make_by (stopping f ld n) e t).runs ≡ run_of (fails f ld t e) e ∷ []
  unfolding try_exchange run
  try_run t e s = go (fails f ld t e) refl
    where
      go : (b : Bool) → fails f ld t e ≡ b → (make_by (stopping f ld n) e t).runs ≡ run_of (fails f ld t e) e ∷ []
      go true q = rw q
      go false q = rw q (swap_runs e.row e.n1 e.n2 t s.first s.second q)

  -- nothing is written where it fails
  try_failed : (t : List Float) (e : Exchange) → fails f ld t e ≡ true → make_by (stopping f ld n) e t ≡ declining e.row e.n1 e.n2 t
  unfolding try_exchange
  try_failed t e q = rw q

  -- ---- lists

  made_told : (c : Change) (es : List Exchange) → AllSized es → (made_by (stopping f ld n) c es).runs ≡ c.runs ++ told f ld n c.form es
  unfolding made_by told and_then
  made_told c [] s = sym (append-nil c.runs)
  made_told c (e ∷ es) s =
      made_told (and_then c (make_by (stopping f ld n) e)) es s.1
      ∙ ap (λ (rs : List Swap). (c.runs ++ rs) ++ told f ld n (make_by (stopping f ld n) e c.form).form es) (try_run c.form e s.0)
      ∙ append_assoc c.runs (run_of (fails f ld c.form e) e ∷ []) _

  -- where none declined, no test failed
  told_none : (t : List Float) (es : List Exchange) → declines_in (told f ld n t es) ≡ 0 → told f ld n t es ≡ map (run_of false) es
  unfolding told declines_in
  told_none t [] h = refl
  told_none t (e ∷ es) h = go (fails f ld t e) _ refl h (told_none (make_by (stopping f ld n) e t).form es)
    where
      go : (b : Bool) (rest : List Swap) → fails f ld t e ≡ b → cond b 1 0 + declines_in rest ≡ 0 → (declines_in rest ≡ 0 → rest ≡ map (run_of false) es)
          → run_of (fails f ld t e) e ∷ rest ≡ map (run_of false) (e ∷ es)
      go true rest q k more = absurd (omega arith)
      go false rest q k more = ap₂ (λ (b : Bool) (rs : List Swap). run_of b e ∷ rs) q (more (omega arith))

  -- an exchange that declined has failed its test
  declined-failed : (t : List Float) (e : Exchange) → Sized e → eqb (declined_of (make_by (stopping f ld n) e t)) 0 ≡ false → fails f ld t e ≡ true
  unfolding declines_in
  declined-failed t e s h = go (fails f ld t e) refl
    where
      go : (b : Bool) → fails f ld t e ≡ b → b ≡ true
      go true q = refl
      go false q = absurd (true≢false (sym (ap (λ (rs : List Swap). eqb (declines_in rs) 0) (try_run t e s ∙ ap (λ (b : Bool). run_of b e ∷ []) q)) ∙ h))

  -- ---- the move

  module _ (t : List Float) where
    runs-told : (m : Moving) → m.change ≡ made_by (stopping f ld n) (unchanged t) m.exchanges → AllSized m.exchanges → m.change.runs ≡ told f ld n t m.exchanges
    runs-told m d s = ap (λ (c : Change). c.runs) d ∙ made_told (unchanged t) m.exchanges s

    passed : (m : Moving) → On (try_exchange f ld n) f ld n t m → Passed m
    passed m o =
        let e = runs-told m o.done o.sized in
        record { runs = e ∙ told_none t m.exchanges (sym (ap declines_in e) ∙ o.quiet); declined = o.quiet }

    failed : (m : Moving) → Off (try_exchange f ld n) f ld n t m → Failed f ld n t m
    unfolding and_then declines_in
    failed m o =
        let c = made_by (stopping f ld n) (unchanged t) o.before in
        let x = declined-failed c.form o.last o.sized o.failed in
        let w = try_failed c.form o.last x in
        let e = o.done ∙ ap (λ (d : Change). record { form = d.form; operations = c.operations ++ d.operations; runs = c.runs ++ d.runs }) w in
        let r = made_told (unchanged t) o.before o.earlier in
        let q = told_none t o.before (sym (ap declines_in r) ∙ o.quiet) in
        let y = ap (λ (d : Change). d.form) e in
        record {
          before = o.before;
          last = o.last;
          exchanges = o.exchanges;
          runs = ap (λ (d : Change). d.runs) e ∙ ap (λ (rs : List Swap). rs ++ (run_of true o.last ∷ [])) (r ∙ q);
          declined = ap (λ (d : Change). declined_of d) o.done ∙ declined_then c (make_by (stopping f ld n) o.last) ∙ ap₂ (λ (a b : ℕ). a + b) o.quiet (ap (λ (d : Change). declined_of d) w);
          failed = ap (λ (u : List Float). fails f ld u o.last) y ∙ x;
          form = y;
          operations = ap (λ (d : Change). d.operations) e ∙ append-nil c.operations;
        }

    stops : (g : Going) → Ends (try_exchange f ld n) f ld n t (calm f ld n) g.stopped g.moving → Stops f ld n t g
    stops g h = go g.stopped refl h
      where
        go : (b : Bool) → g.stopped ≡ b → Ends (try_exchange f ld n) f ld n t (calm f ld n) b g.moving → Stops f ld n t g
        go false e o = record { runs = runs-told g.moving o.done o.sized; ended = λ _. passed g.moving o; stopped = λ q. absurd (false≢true (sym e ∙ q)) }
        go true e o =
            record {
              runs = runs-told g.moving (off_done (try_exchange f ld n) f ld n t g.moving o) (off_sized (try_exchange f ld n) f ld n t g.moving o);
              ended = λ q. absurd (true≢false (sym e ∙ q));
              stopped = λ _. failed g.moving o;
            }

pub stops_exactly : StopsExactly
stops_exactly f ld n from to t = stops f ld n t (stopping_move f ld n from to t) (walk_ends (try_exchange f ld n) f ld n t (calm f ld n) from to)

-- ---- the call

told_by : (b : Bool) (d : ℕ) → (b ≡ false → d ≡ 0) → (b ≡ true → d ≡ 1) → ((b ≡ true) ↔ (d ≡ 1)) × ((b ≡ false) ↔ (d ≡ 0))
told_by true d h k = let e = k refl in ((λ _. e, λ _. refl), (λ q. absurd (true≢false q), λ q. absurd (omega arith)))
told_by false d h k = let e = h refl in ((λ q. absurd (false≢true q), λ q. absurd (omega arith)), (λ _. e, λ _. refl))

pub call-stops : CallStops
unfolding stopping_call
call-stops f ld n from to t u = go (eqb (move_line f ld n t u from to) 0)
  where
    s : Stops f ld n t (stopping_move f ld n from to t)
    s = stops_exactly f ld n from to t

    go : (b : Bool)
        → (let c : Stopped = cond b (ended f ld n u (stopping_move f ld n from to t)) (record { answer = move_line f ld n t u from to; stopped = false; here = 0; swaps = 0; declined = 0; form = t; factor = u }) in
        ((c.stopped ≡ true) ↔ (c.declined ≡ 1)) × ((c.stopped ≡ false) ↔ (c.declined ≡ 0)))
    go true = told_by _ _ (λ e. (s.ended e).declined) (λ e. (s.stopped e).declined)
    go false = told_by false 0 (λ _. refl) (λ e. absurd (false≢true e))
