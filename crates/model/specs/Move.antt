-- The move of a block (reorder_schur), whole, and as a call. Definitions only. Assumes nothing.
use Rattle.std.specs.Prelude.{ℕ, zero, suc, ◌+◌, ◌-◌, ◌&&◌, cond, List, [], ◌∷◌, ◌++◌, eqb, ltb, leb, Float}
use Rattle.std.specs.Float.{Format}
use Rattle.model.specs.Lines.{first_of}
use Rattle.model.specs.Form.{zero_below, nonzero_below, two_block, row_count, stride, form_length, factor_length, deep_entry, touching_blocks, position}
use Rattle.model.specs.Columns.{on_factor}
use Rattle.model.specs.Swaps.{Change, unchanged, and_then, swaps_of, declined_of}
use Rattle.model.specs.Exchange.{exchange, factor_rows}

-- ---- blocks

-- the first row of the block that row p is in
unfoldable pub first_row : Format → ℕ → List Float → ℕ → ℕ
first_row f ld t p = cond (ltb 0 p && nonzero_below f ld t (p - 1)) (p - 1) p

-- the size of the block that begins in row p
unfoldable pub size_at : Format → ℕ → ℕ → List Float → ℕ → ℕ
size_at f ld n t p = cond (two_block f ld n t p) 2 1

-- the size of the block that ends above row p
unfoldable pub size_above : Format → ℕ → List Float → ℕ → ℕ
size_above f ld t p = cond (leb 2 p && nonzero_below f ld t (p - 2)) 2 1

-- ---- a move on its way

-- an exchange of n1 rows from a row on with n2 below them
pub record Exchange : Type 0 where
  pub row : ℕ
  pub n1 : ℕ
  pub n2 : ℕ

-- The moved block's row, and nbf: 1 for one row, 2 for a 2-block, 3 for a 2-block that has split and goes on as two rows. Beside the change so far, the exchanges made, in order.
pub record Moving : Type 0 where
  pub here : ℕ
  pub nbf : ℕ
  pub change : Change
  pub exchanges : List Exchange

-- one exchange more
unfoldable pub exchanging : Format → ℕ → ℕ → ℕ → ℕ → ℕ → Moving → Moving
exchanging f ld n j n1 n2 m =
    record { here = m.here; nbf = m.nbf; change = and_then m.change (exchange f ld n j n1 n2); exchanges = m.exchanges ++ (record { row = j; n1 = n1; n2 = n2 } ∷ []) }

-- arrived in a row
unfoldable pub arrived : ℕ → Moving → Moving
arrived row m = record { here = row; nbf = m.nbf; change = m.change; exchanges = m.exchanges }

-- arrived in a row, where a 2-block may have split
unfoldable pub landed_whole : Format → ℕ → ℕ → Moving → Moving
landed_whole f ld row m =
    record { here = row; nbf = cond (eqb m.nbf 2 && zero_below f ld m.change.form row) 3 m.nbf; change = m.change; exchanges = m.exchanges }

-- ---- down

-- one row or a 2-block, past the block below
unfoldable pub down_whole : Format → ℕ → ℕ → Moving → Moving
down_whole f ld n m =
    let next = size_at f ld n m.change.form (m.here + m.nbf) in
    landed_whole f ld (m.here + next) (exchanging f ld n m.here m.nbf next m)

-- past a 2-block that the lower row has passed, and that may have split at that
unfoldable pub down_past_two : Format → ℕ → ℕ → Moving → Moving
down_past_two f ld n m =
    let h = m.here in
    arrived (h + 2)
    (cond (zero_below f ld m.change.form (h + 1)) (exchanging f ld n (h + 1) 1 1 (exchanging f ld n h 1 1 m)) (exchanging f ld n h 1 2 m))

-- two rows, the lower first
unfoldable pub down_apart : Format → ℕ → ℕ → Moving → Moving
down_apart f ld n m =
    let h = m.here in
    let next = size_at f ld n m.change.form (h + 2) in
    let below = exchanging f ld n (h + 1) 1 next m in
    cond (eqb next 1) (arrived (h + 1) (exchanging f ld n h 1 1 below)) (down_past_two f ld n below)

unfoldable pub down_step : Format → ℕ → ℕ → Moving → Moving
down_step f ld n m = cond (eqb m.nbf 3) (down_apart f ld n m) (down_whole f ld n m)

-- until the goal is reached, in k steps at most
unfoldable pub down_by : ℕ → Format → ℕ → ℕ → ℕ → Moving → Moving
down_by zero f ld n goal m = m
down_by (suc k) f ld n goal m = cond (ltb m.here goal) (down_by k f ld n goal (down_step f ld n m)) m

-- ---- up

unfoldable pub up_whole : Format → ℕ → ℕ → Moving → Moving
up_whole f ld n m =
    let next = size_above f ld m.change.form m.here in
    landed_whole f ld (m.here - next) (exchanging f ld n (m.here - next) next m.nbf m)

unfoldable pub up_past_two : Format → ℕ → ℕ → Moving → Moving
up_past_two f ld n m =
    let h = m.here in
    arrived (h - 2)
    (cond (zero_below f ld m.change.form (h - 1)) (exchanging f ld n (h - 1) 1 1 (exchanging f ld n h 1 1 m)) (exchanging f ld n (h - 1) 2 1 m))

-- two rows, the upper first
unfoldable pub up_apart : Format → ℕ → ℕ → Moving → Moving
up_apart f ld n m =
    let h = m.here in
    let next = size_above f ld m.change.form h in
    let above = exchanging f ld n (h - next) next 1 m in
    cond (eqb next 1) (arrived (h - 1) (exchanging f ld n h 1 1 above)) (up_past_two f ld n above)

unfoldable pub up_step : Format → ℕ → ℕ → Moving → Moving
up_step f ld n m = cond (eqb m.nbf 3) (up_apart f ld n m) (up_whole f ld n m)

unfoldable pub up_by : ℕ → Format → ℕ → ℕ → ℕ → Moving → Moving
up_by zero f ld n goal m = m
up_by (suc k) f ld n goal m = cond (ltb goal m.here) (up_by k f ld n goal (up_step f ld n m)) m

-- ---- the move of the block in row `from` to row `to`

-- going down, a 2-block's goal is a row less against a single row, and a single row's a row more against a 2-block
unfoldable pub goal_down : ℕ → ℕ → ℕ → ℕ
goal_down nbf nbl to = cond (eqb nbf 2 && eqb nbl 1) (to - 1) (cond (eqb nbf 1 && eqb nbl 2) (to + 1) to)

-- from and to are first rows of blocks
unfoldable pub move_from : Format → ℕ → ℕ → ℕ → ℕ → List Float → Moving
move_from f ld n from to t =
    let nbf = size_at f ld n t from in
    let start : Moving = record { here = from; nbf = nbf; change = unchanged t; exchanges = [] } in
    cond (eqb from to) start
    (cond (ltb from to) (down_by n f ld n (goal_down nbf (size_at f ld n t to) to) start) (up_by n f ld n to start))

unfoldable pub move : Format → ℕ → ℕ → ℕ → ℕ → List Float → Moving
move f ld n from to t = move_from f ld n (first_row f ld t from) (first_row f ld t to) t

-- ---- the call

unfoldable pub move_line : Format → ℕ → ℕ → List Float → List Float → ℕ → ℕ → ℕ
unfolding first_of
move_line f ld n t u from to =
    first_of
    (row_count n
    ∷ stride ld n
    ∷ form_length ld n t
    ∷ factor_length ld n u
    ∷ deep_entry f ld n t
    ∷ touching_blocks f ld n t
    ∷ position n from
    ∷ position n to
    ∷ [])

pub record Moved : Type 0 where
  pub answer : ℕ
  pub landed : ℕ
  pub swaps : ℕ
  pub declined : ℕ
  pub form : List Float
  pub factor : List Float

-- a move that has ended, and the factor beside it
abbrev pub moved : Format → ℕ → ℕ → List Float → Moving → Moved
moved f ld n u m =
    let c = m.change in
    record { answer = 0; landed = m.here; swaps = swaps_of c; declined = declined_of c; form = c.form; factor = on_factor f ld (factor_rows n u) c.operations u }

unfoldable pub move_call : Format → ℕ → ℕ → List Float → List Float → ℕ → ℕ → Moved
move_call f ld n t u from to =
    let line = move_line f ld n t u from to in
    cond (eqb line 0) (moved f ld n u (move f ld n from to t)) (record { answer = line; landed = 0; swaps = 0; declined = 0; form = t; factor = u })
