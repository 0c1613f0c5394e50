-- A move of a triangular form, of either kind, is a chain of exchanges of single rows, down or up, which have no test: so both kinds are one, and do to the diagonal what taking out and putting in does to the row list. Assumes nothing.
use mathlib.Core.Path.{◌≡◌, refl, ap, ◌∙◌, subst}
use Prim.Native.Nat.{ℕ, zero, suc, ◌+◌, ◌-◌, ◌≤◌, ◌<◌}
use native.Mathlib.Numerals.{add-one}
use native.Mathlib.Decide.{dec_lt, ℕ_discrete}
use native.Mathlib.Omega.{arith}
use mathlib.Core.Bool.{Bool, true, false, not, ◌||◌, cond}
use mathlib.Core.List.{List, [], ◌∷◌, ◌++◌}
use lib.Dec.{eqb, ltb}
use lib.ListN.{length, get_or}
use lib.Ieee.{Float, Format}
use borrow.Author.Tests.{lt-ltb, le-ltb, eq-eqb, ne_eqb, ltb-true, not-false}
use Rattle.model.specs.Form.{line4, line7}
use Rattle.model.specs.Swaps.{Change, declines_in, declined_of, unchanged, and_then, swap11, swap_of}
use Rattle.model.specs.Exchange.{exchange, exchange_by, exchange_whole, standardise_if}
use Rattle.model.specs.Move.{Exchange, Moving, exchanging, landed_whole, down_whole, down_step, down_by, up_whole, up_step, up_by, goal_down, move_from, move, Moved, moved, move_call}
use Rattle.model.specs.Stopping.{try_exchange, test_fails, standardise_also, stopping, Going, goes, onward, trying, whole_down, step_down, walk_down, whole_up, step_up, walk_up, walk_from, walk, stopping_move, Stopped, ended, stopping_call}
use Rattle.laws.proofs.Runs.{declined_then}
use Rattle.laws_moves.specs.Lists.{Move, form_moved, fed_of, take_out, put_in, refused, rows_moved}
use Rattle.laws_moves.specs.Kinds.{never_stopped}
use Rattle.laws_moves.proofs.Swap.{after}
use Rattle.laws_moves.proofs.Upper.{Upper, or_left, or_right, size-at, size_above_lem, first-row, move-line}
use Rattle.laws_moves.proofs.Rows.{Tracks, tracks_after, put-lower, put_higher, put_back, one_out}

-- one row on its way
abbrev one : ℕ → Change → List Exchange → Moving
one h c e = record { here = h; nbf = 1; change = c; exchanges = e }

-- ---- one step: the exchange with the row below, or with the row above

abbrev with_next : Format → ℕ → ℕ → ℕ → Change → Change
with_next f ld n j c = and_then c (exchange f ld n j 1 1)

abbrev noted : ℕ → List Exchange → List Exchange
noted j e = e ++ (record { row = j; n1 = 1; n2 = 1 } ∷ [])

-- two single rows have no test: the exchange of the move that stops is 01's, which declines nothing
try_one : (f : Format) (ld n j : ℕ) (t : List Float) → try_exchange f ld n j 1 1 t ≡ exchange f ld n j 1 1 t
unfolding try_exchange test_fails standardise_also exchange exchange_by exchange_whole standardise_if
try_one f ld n j t = refl

none-one : (f : Format) (ld n j : ℕ) (t : List Float) → declined_of (exchange f ld n j 1 1 t) ≡ 0
unfolding exchange exchange_by exchange_whole standardise_if swap_of swap11 and_then declines_in
none-one f ld n j t = refl

down-one : (f : Format) (ld n h : ℕ) (c : Change) (e : List Exchange) → Upper f ld n c.form → down_step f ld n (one h c e) ≡ one (h + 1) (with_next f ld n h c) (noted h e)
unfolding down_step down_whole landed_whole exchanging
down-one f ld n h c e u = rw (size-at f ld n (h + 1) c.form u)

up_one : (f : Format) (ld n h : ℕ) (c : Change) (e : List Exchange) → Upper f ld n c.form → h < n → up_step f ld n (one h c e) ≡ one (h - 1) (with_next f ld n (h - 1) c) (noted (h - 1) e)
unfolding up_step up_whole landed_whole exchanging
up_one f ld n h c e u l = rw (size_above_lem f ld n h c.form u l)

-- of the move that stops
down_try : (f : Format) (ld n h : ℕ) (c : Change) (e : List Exchange) → Upper f ld n c.form → step_down (stopping f ld n) f ld n (one h c e) ≡ goes (one (h + 1) (with_next f ld n h c) (noted h e))
unfolding step_down whole_down landed_whole onward trying and_then
down_try f ld n h c e u = rw (size-at f ld n (h + 1) c.form u, try_one, none-one)

up_try : (f : Format) (ld n h : ℕ) (c : Change) (e : List Exchange) → Upper f ld n c.form → h < n → step_up (stopping f ld n) f ld n (one h c e) ≡ goes (one (h - 1) (with_next f ld n (h - 1) c) (noted (h - 1) e))
unfolding step_up whole_up landed_whole onward trying and_then
up_try f ld n h c e u l = rw (size_above_lem f ld n h c.form u l, try_one, none-one)

-- ---- the number x on its way through the others, the row list rs without it

tracks_down : (f : Format) (ld n h x : ℕ) (a t : List Float) (rs : List ℕ) → h + 1 < n → suc (length rs) ≡ n → Tracks f ld n a t (put_in x h rs) → Tracks f ld n a (after f ld n h t) (put_in x (h + 1) rs)
tracks_down f ld n h x a t rs g m k = rw (add-one h, ← put-lower x h rs (omega arith)) (tracks_after f ld n h a t (put_in x h rs) g k)

tracks_up : (f : Format) (ld n h x : ℕ) (a t : List Float) (rs : List ℕ) → h + 1 < n → suc (length rs) ≡ n → Tracks f ld n a t (put_in x (h + 1) rs) → Tracks f ld n a (after f ld n h t) (put_in x h rs)
tracks_up f ld n h x a t rs g m k = rw (← put_higher x h rs (omega arith)) (tracks_after f ld n h a t (put_in x (suc h) rs) g (rw add-one at k))

-- a walk: the move that stops goes as 01's, nothing is declined, and the row list reads the diagonal
record Walked (f : Format) (ld n : ℕ) (a : List Float) (rs : List ℕ) (g : Going) (m : Moving) : Type 0 where
  kinds : g ≡ goes m
  none : declined_of m.change ≡ 0
  tracks : Tracks f ld n a m.change.form rs

-- one exchange more declines nothing
none_then : (f : Format) (ld n j : ℕ) (c : Change) → declined_of c ≡ 0 → declined_of (with_next f ld n j c) ≡ 0
none_then f ld n j c z = rw (declined_then, z, none-one)

module _ (f : Format) (ld n goal x : ℕ) (a : List Float) (rs : List ℕ) (fits : suc (length rs) ≡ n) where
  down : (k h : ℕ) (c : Change) (e : List Exchange) → goal < n → h ≤ goal → goal ≤ h + k → declined_of c ≡ 0 → Tracks f ld n a c.form (put_in x h rs)
      → Walked f ld n a (put_in x goal rs) (walk_down (stopping f ld n) k f ld n goal (one h c e)) (down_by k f ld n goal (one h c e))
  unfolding walk_down onward down_by and_then
  down zero h c e g l b z t = let q : h ≡ goal = omega arith in record { kinds = refl; none = z; tracks = rw q at t }
  down (suc k) h c e g l b z t =
      elim (dec_lt h goal) [
        | yes p ↦ rw (lt-ltb h goal p, down-one f ld n h c e t.upper, down_try f ld n h c e t.upper)
            (down k (h + 1) (with_next f ld n h c) (noted h e) g (omega arith) (omega arith) (none_then f ld n h c z) (tracks_down f ld n h x a c.form rs (omega arith) fits t))
        | no p ↦ let q : h ≡ goal = omega arith in rw (le-ltb h goal (omega arith)) (record { kinds = refl; none = z; tracks = rw q at t })
      ]

  up : (k h : ℕ) (c : Change) (e : List Exchange) → h < n → goal ≤ h → h ≤ goal + k → declined_of c ≡ 0 → Tracks f ld n a c.form (put_in x h rs)
      → Walked f ld n a (put_in x goal rs) (walk_up (stopping f ld n) k f ld n goal (one h c e)) (up_by k f ld n goal (one h c e))
  unfolding walk_up onward up_by and_then
  up zero h c e g l b z t = let q : h ≡ goal = omega arith in record { kinds = refl; none = z; tracks = rw q at t }
  up (suc k) h c e g l b z t =
      elim (dec_lt goal h) [
        | yes p ↦
            let q : h ≡ h - 1 + 1 = omega arith in
            rw (lt-ltb goal h p, up_one f ld n h c e t.upper g, up_try f ld n h c e t.upper g)
            (up k (h - 1) (with_next f ld n (h - 1) c) (noted (h - 1) e) (omega arith) (omega arith) (omega arith) (none_then f ld n (h - 1) c z)
            (tracks_up f ld n (h - 1) x a c.form rs (omega arith) fits (subst (λ (i : ℕ). Tracks f ld n a c.form (put_in x i rs)) q t)))
        | no p ↦ let q : h ≡ goal = omega arith in rw (le-ltb goal h (omega arith)) (record { kinds = refl; none = z; tracks = rw q at t })
      ]

-- ---- the move

move_walks : (f : Format) (ld n from to : ℕ) (a t : List Float) (rs : List ℕ) → from < n → to < n → Tracks f ld n a t rs
    → Walked f ld n a (cond (eqb from to) rs (put_in (get_or rs from 0) to (take_out from rs))) (stopping_move f ld n from to t) (move f ld n from to t)
unfolding walk walk_from move move_from goal_down declines_in
move_walks f ld n from to a t rs g h k =
    rw (first-row f ld n from t u g, first-row f ld n to t u h, size-at f ld n from t u, size-at f ld n to t u)
    (elim (ℕ_discrete from to) [
      | yes p ↦ rw (eq-eqb from to p) (record { kinds = refl; none = refl; tracks = k })
      | no p ↦ rw (ne_eqb from to p)
          (elim (dec_lt from to) [
            | yes q ↦ rw (lt-ltb from to q) (down f ld n to x a out fits n from (unchanged t) [] h (omega arith) (omega arith) refl start)
            | no q ↦ rw (le-ltb from to (omega arith)) (up f ld n to x a out fits n from (unchanged t) [] g (omega arith) (omega arith) refl start)
          ])
    ])
  where
    u : Upper f ld n t
    u = k.upper

    x : ℕ
    x = get_or rs from 0

    out : List ℕ
    out = take_out from rs

    placed : from < length rs
    placed = let e = k.size in omega arith

    fits : suc (length out) ≡ n
    fits = one_out from rs placed ∙ k.size

    start : Tracks f ld n a t (put_in x from out)
    start = rw (put_back from rs placed) k

-- ---- the call: turned away for line 4 or line 7, and else the move

line_tells : (r s t : Bool) → eqb (cond r 4 (cond s 7 (cond t 7 0))) 0 ≡ not (r || (s || t))
line_tells true s t = refl
line_tells false true t = refl
line_tells false false true = refl
line_tells false false false = refl

refused-is : (ld n : ℕ) (m : Move) → line4 ld n m.factor || (line7 n m.from || line7 n m.to) ≡ refused ld n (fed_of m)
unfolding line4 line7 refused
refused-is ld n m = refl

-- a position of a move that is not refused
below : (n p : ℕ) → line7 n p ≡ false → p < n
unfolding line7
below n p e = ltb-true p n (not-false (ltb p n) e)

both_below : (ld n : ℕ) (m : Move) → refused ld n (fed_of m) ≡ false → (m.from < n) × (m.to < n)
both_below ld n m e =
    let l7 = line7 n m.from in
    let r7 = line7 n m.to in
    let d = or_right (line4 ld n m.factor) (l7 || r7) (refused-is ld n m ∙ e) in
    (below n m.from (or_left l7 r7 d), below n m.to (or_right l7 r7 d))

-- a call of either kind: what is said of a walk, of what the two calls answer
pub record Called (f : Format) (ld n : ℕ) (a : List Float) (rs : List ℕ) (s : Stopped) (m : Moved) : Type 0 where
  pub kinds : s ≡ never_stopped m
  pub none : m.declined ≡ 0
  pub tracks : Tracks f ld n a m.form rs

ends : (f : Format) (ld n : ℕ) (a u : List Float) (rs : List ℕ) (g : Going) (m : Moving) → Walked f ld n a rs g m → Called f ld n a rs (ended f ld n u g) (moved f ld n u m)
ends f ld n a u rs g m w = record { kinds = ap (ended f ld n u) w.kinds; none = w.none; tracks = w.tracks }

-- refused or not
either : (b : Bool) (P : List ℕ → Stopped → Moved → Type 0) (rs ls : List ℕ) (s t : Stopped) (m v : Moved) → P rs s m → (b ≡ false → P ls t v) → P (cond b rs ls) (cond (not b) t s) (cond (not b) v m)
either true P rs ls s t m v p q = p
either false P rs ls s t m v p q = q refl

pub called : (f : Format) (ld n : ℕ) (m : Move) (a t : List Float) (rs : List ℕ) → Tracks f ld n a t rs
    → Called f ld n a (rows_moved ld n (fed_of m) rs) (stopping_call f ld n t m.factor m.from m.to) (move_call f ld n t m.factor m.from m.to)
unfolding rows_moved stopping_call move_call
called f ld n m a t rs k =
    rw (move-line f ld n m.from m.to t m.factor k.upper, line_tells, refused-is ld n m)
    (either (refused ld n (fed_of m)) (Called f ld n a) _ _ _ _ _ _ (record { kinds = refl; none = refl; tracks = k })
    (λ e. let i = both_below ld n m e in ends f ld n a m.factor _ _ _ (move_walks f ld n m.from m.to a t rs i.0 i.1 k)))

-- the form by either call
by_kind : (f : Format) (ld n : ℕ) (a : List Float) (rs : List ℕ) (b : Bool) (s : Stopped) (m : Moved) → Called f ld n a rs s m → Tracks f ld n a (cond b s.form m.form) rs
by_kind f ld n a rs true s m c = rw c.kinds c.tracks
by_kind f ld n a rs false s m c = c.tracks

pub call_tracks : (f : Format) (ld n : ℕ) (m : Move) (a t : List Float) (rs : List ℕ) → Tracks f ld n a t rs → Tracks f ld n a (form_moved f ld n m t) (rows_moved ld n (fed_of m) rs)
unfolding form_moved
call_tracks f ld n m a t rs k = by_kind f ld n a (rows_moved ld n (fed_of m) rs) m.stops _ _ (called f ld n m a t rs k)
