-- The move that stops (reorder_schur_stopping): dlaexc's tests on a tried window, the exchange with them, the control of a move over any exchange, and the call. Definitions only. Assumes nothing.
use Rattle.std.specs.Prelude.{ℕ, zero, suc, ◌+◌, ◌-◌, Bool, true, false, not, ◌&&◌, cond, List, [], ◌∷◌, ◌++◌, eqb, ltb, Float}
use Rattle.std.specs.Float.{Format}
use Rattle.std.specs.Float.Ieee.{neg, sub, mul, div, lt, eq, ne}
use Rattle.model.specs.Arith.{zero_of, ten_of, eps_of, min_positive_of, abs, fmax}
use Rattle.model.specs.Form.{entry, zero_below}
use Rattle.model.specs.Schur22.{Block}
use Rattle.model.specs.Columns.{Triple, Reflect3, reflect3, on_factor}
use Rattle.model.specs.Swaps.{Change, unchanged, declining, and_then, swaps_of, declined_of, reflectors12, reflectors21, window_at, solution_of, reflectors4, declines, swap_of, block_at, standardise_by}
use Rattle.model.specs.Exchange.{exchange, factor_rows}
use Rattle.model.specs.Move.{Moving, first_row, size_at, size_above, arrived, landed_whole, goal_down, move_line}

-- ---- the window of three rows, tried

-- its three columns
pub record Window3 : Type 0 where
  pub c0 : Triple
  pub c1 : Triple
  pub c2 : Triple

-- rows p, q and r of a column
unfoldable pub triple_in : ℕ → List Float → ℕ → ℕ → ℕ → ℕ → Triple
triple_in ld t p q r col = record { x0 = entry ld t p col; x1 = entry ld t q col; x2 = entry ld t r col }

-- rows and columns p, q and r, in this order
unfoldable pub window_of : ℕ → List Float → ℕ → ℕ → ℕ → Window3
window_of ld t p q r = record { c0 = triple_in ld t p q r p; c1 = triple_in ld t p q r q; c2 = triple_in ld t p q r r }

unfoldable pub transposed3 : Window3 → Window3
transposed3 w =
    record {
      c0 = record { x0 = w.c0.x0; x1 = w.c1.x0; x2 = w.c2.x0 };
      c1 = record { x0 = w.c0.x1; x1 = w.c1.x1; x2 = w.c2.x1 };
      c2 = record { x0 = w.c0.x2; x1 = w.c1.x2; x2 = w.c2.x2 };
    }

-- both reflections of each column
unfoldable pub reflected_columns3 : Format → Reflect3 → Window3 → Window3
reflected_columns3 f v w = record { c0 = reflect3 f v w.c0; c1 = reflect3 f v w.c1; c2 = reflect3 f v w.c2 }

-- the window with its rows, and then its columns, changed as the swap changes the form's
unfoldable pub tried_window3 : Format → Reflect3 → Window3 → Window3
tried_window3 f v w = transposed3 (reflected_columns3 f v (transposed3 (reflected_columns3 f v w)))

-- the larger of m and a column's magnitudes
unfoldable pub largest_of3 : Float → Triple → Float
largest_of3 m q = fmax (fmax (fmax m (abs q.x0)) (abs q.x1)) (abs q.x2)

-- the window's largest magnitude
unfoldable pub dnorm_of3 : Format → Window3 → Float
dnorm_of3 f w = largest_of3 (largest_of3 (largest_of3 (zero_of f) w.c0) w.c1) w.c2

-- 01's threshold: the larger of 10 × eps × dnorm and min_positive / eps
unfoldable pub threshold3 : Format → Window3 → Float
threshold3 f w = fmax (mul f (mul f (ten_of f) (eps_of f)) (dnorm_of3 f w)) (div f (min_positive_of f) (eps_of f))

-- ---- dlaexc's tests: what is to become zero, and the change of the single row's diagonal number, which goes from the first place of the window to the last

-- 1 and 2, w the window and x the same tried: x(2,0), x(2,1), and x(2,2) less w(0,0)
unfoldable pub left12 : Format → Window3 → Window3 → Float
left12 f w x = fmax (fmax (abs x.c0.x2) (abs x.c1.x2)) (abs (sub f x.c2.x2 w.c0.x0))

-- 2 and 1, rows and columns in reversed order, as the reflections take them: so the form's (1,0), (2,0) and (0,0) stand at (1,2), (0,2) and (2,2), and its (2,2) at (0,0)
unfoldable pub left21 : Format → Window3 → Window3 → Float
left21 f w x = fmax (fmax (abs x.c2.x1) (abs x.c2.x0)) (abs (sub f x.c2.x2 w.c0.x0))

unfoldable pub fails12 : Format → ℕ → List Float → ℕ → Bool
fails12 f ld t j =
    let w = window_of ld t j (j + 1) (j + 2) in
    lt (threshold3 f w) (left12 f w (tried_window3 f (reflectors12 f ld t j) w))

unfoldable pub fails21 : Format → ℕ → List Float → ℕ → Bool
fails21 f ld t j =
    let w = window_of ld t (j + 2) (j + 1) j in
    lt (threshold3 f w) (left21 f w (tried_window3 f (reflectors21 f ld t j) w))

-- 2 and 2: 01's own
unfoldable pub fails22 : Format → ℕ → List Float → ℕ → Bool
fails22 f ld t j = let w = window_at ld t j in declines f (reflectors4 f (solution_of f w)) w

-- whether the test of the n1 rows from row j on with the n2 below them fails; two single rows have none
unfoldable pub test_fails : Format → ℕ → List Float → ℕ → ℕ → ℕ → Bool
test_fails f ld t j n1 n2 = cond (eqb n1 1) (cond (eqb n2 1) false (fails12 f ld t j)) (cond (eqb n2 1) (fails21 f ld t j) (fails22 f ld t j))

-- ---- standardising with dlanv2's exchange: 01's leaves b zero and c not only where it has rotated the block

unfoldable pub exchanged_b : Format → Block → Block
exchanged_b f x =
    cond (eq x.b (zero_of f) && ne x.c (zero_of f)) (record { a = x.a; b = neg x.c; c = zero_of f; d = x.d; cs = neg x.sn; sn = x.cs }) x

-- the rows from row j on so standardised if there are two
unfoldable pub standardise_also : Format → ℕ → ℕ → ℕ → ℕ → List Float → Change
standardise_also f ld n size j t = cond (eqb size 2) (standardise_by f ld n j (exchanged_b f (block_at f ld t j)) t) (unchanged t)

-- ---- the exchange: a test that fails counts, and writes nothing; else 01's swap, then the new upper block standardised, then the lower

unfoldable pub try_exchange : Format → ℕ → ℕ → ℕ → ℕ → ℕ → List Float → Change
try_exchange f ld n j n1 n2 t =
    cond (test_fails f ld t j n1 n2) (declining j n1 n2 t)
    (and_then (and_then (swap_of f ld n j n1 n2 t) (standardise_also f ld n n2 j)) (standardise_also f ld n n1 (j + n2)))

-- ---- the control of a move over its exchange

-- the exchange of the n1 rows from a row on with the n2 below them, and whether the move stops at one that declines
pub record Kind : Type 0 where
  pub exchange : ℕ → ℕ → ℕ → List Float → Change
  pub stops : Bool

-- 01's move goes on, this one stops
abbrev pub goes_on : Format → ℕ → ℕ → Kind
goes_on f ld n = record { exchange = exchange f ld n; stops = false }

abbrev pub stopping : Format → ℕ → ℕ → Kind
stopping f ld n = record { exchange = try_exchange f ld n; stops = true }

-- a move on its way, and whether it has stopped
pub record Going : Type 0 where
  pub stopped : Bool
  pub moving : Moving

abbrev pub goes : Moving → Going
goes m = record { stopped = false; moving = m }

-- on with it, unless it has stopped
unfoldable pub onward : Going → (Moving → Going) → Going
onward g next = cond g.stopped g (next g.moving)

-- one exchange more: the row stays, and is moved on where the step ends
unfoldable pub trying : Kind → ℕ → ℕ → ℕ → Moving → Going
trying k j n1 n2 m =
    record {
      stopped = k.stops && not (eqb (declined_of (k.exchange j n1 n2 m.change.form)) 0);
      moving =
          record { here = m.here; nbf = m.nbf; change = and_then m.change (k.exchange j n1 n2); exchanges = m.exchanges ++ (record { row = j; n1 = n1; n2 = n2 } ∷ []) };
    }

-- ---- down

-- one row or a 2-block, past the block below
unfoldable pub whole_down : Kind → Format → ℕ → ℕ → Moving → Going
whole_down k f ld n m =
    let next = size_at f ld n m.change.form (m.here + m.nbf) in
    onward (trying k m.here m.nbf next m) (λ e. goes (landed_whole f ld (m.here + next) e))

-- past a 2-block that the lower row has passed, and that may have split at that
unfoldable pub past_two_down : Kind → Format → ℕ → ℕ → Moving → Going
past_two_down k f ld n m =
    let h = m.here in
    onward (cond (zero_below f ld m.change.form (h + 1)) (onward (trying k h 1 1 m) (trying k (h + 1) 1 1)) (trying k h 1 2 m)) (λ e. goes (arrived (h + 2) e))

-- two rows, the lower first
unfoldable pub apart_down : Kind → Format → ℕ → ℕ → Moving → Going
apart_down k f ld n m =
    let h = m.here in
    let next = size_at f ld n m.change.form (h + 2) in
    onward (trying k (h + 1) 1 next m) (λ e. cond (eqb next 1) (onward (trying k h 1 1 e) (λ d. goes (arrived (h + 1) d))) (past_two_down k f ld n e))

unfoldable pub step_down : Kind → Format → ℕ → ℕ → Moving → Going
step_down k f ld n m = cond (eqb m.nbf 3) (apart_down k f ld n m) (whole_down k f ld n m)

-- until the goal is reached or a step stops, in i steps at most
unfoldable pub walk_down : Kind → ℕ → Format → ℕ → ℕ → ℕ → Moving → Going
walk_down k zero f ld n goal m = goes m
walk_down k (suc i) f ld n goal m = cond (ltb m.here goal) (onward (step_down k f ld n m) (walk_down k i f ld n goal)) (goes m)

-- ---- up

unfoldable pub whole_up : Kind → Format → ℕ → ℕ → Moving → Going
whole_up k f ld n m =
    let next = size_above f ld m.change.form m.here in
    onward (trying k (m.here - next) next m.nbf m) (λ e. goes (landed_whole f ld (m.here - next) e))

unfoldable pub past_two_up : Kind → Format → ℕ → ℕ → Moving → Going
past_two_up k f ld n m =
    let h = m.here in
    onward (cond (zero_below f ld m.change.form (h - 1)) (onward (trying k h 1 1 m) (trying k (h - 1) 1 1)) (trying k (h - 1) 2 1 m)) (λ e. goes (arrived (h - 2) e))

-- two rows, the upper first
unfoldable pub apart_up : Kind → Format → ℕ → ℕ → Moving → Going
apart_up k f ld n m =
    let h = m.here in
    let next = size_above f ld m.change.form h in
    onward (trying k (h - next) next 1 m) (λ e. cond (eqb next 1) (onward (trying k h 1 1 e) (λ d. goes (arrived (h - 1) d))) (past_two_up k f ld n e))

unfoldable pub step_up : Kind → Format → ℕ → ℕ → Moving → Going
step_up k f ld n m = cond (eqb m.nbf 3) (apart_up k f ld n m) (whole_up k f ld n m)

unfoldable pub walk_up : Kind → ℕ → Format → ℕ → ℕ → ℕ → Moving → Going
walk_up k zero f ld n goal m = goes m
walk_up k (suc i) f ld n goal m = cond (ltb goal m.here) (onward (step_up k f ld n m) (walk_up k i f ld n goal)) (goes m)

-- ---- the move of the block in row `from` to row `to`

-- from and to are first rows of blocks
unfoldable pub walk_from : Kind → Format → ℕ → ℕ → ℕ → ℕ → List Float → Going
walk_from k f ld n from to t =
    let nbf = size_at f ld n t from in
    let start : Moving = record { here = from; nbf = nbf; change = unchanged t; exchanges = [] } in
    cond (eqb from to) (goes start)
    (cond (ltb from to) (walk_down k n f ld n (goal_down nbf (size_at f ld n t to) to) start) (walk_up k n f ld n to start))

unfoldable pub walk : Kind → Format → ℕ → ℕ → ℕ → ℕ → List Float → Going
walk k f ld n from to t = walk_from k f ld n (first_row f ld t from) (first_row f ld t to) t

abbrev pub stopping_move : Format → ℕ → ℕ → ℕ → ℕ → List Float → Going
stopping_move f ld n from to t = walk (stopping f ld n) f ld n from to t

-- ---- the call

pub record Stopped : Type 0 where
  pub answer : ℕ
  pub stopped : Bool
  pub here : ℕ
  pub swaps : ℕ
  pub declined : ℕ
  pub form : List Float
  pub factor : List Float

-- a move that has stopped or come to its end, and the factor beside it
abbrev pub ended : Format → ℕ → ℕ → List Float → Going → Stopped
ended f ld n u g =
    let m = g.moving in
    let c = m.change in
    record { answer = 0; stopped = g.stopped; here = m.here; swaps = swaps_of c; declined = declined_of c; form = c.form; factor = on_factor f ld (factor_rows n u) c.operations u }

unfoldable pub stopping_call : Format → ℕ → ℕ → List Float → List Float → ℕ → ℕ → Stopped
stopping_call f ld n t u from to =
    let line = move_line f ld n t u from to in
    cond (eqb line 0) (ended f ld n u (stopping_move f ld n from to t)) (record { answer = line; stopped = false; here = 0; swaps = 0; declined = 0; form = t; factor = u })
