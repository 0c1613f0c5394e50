-- The exchange of two neighbouring blocks worked in a loop over the small exchanges still to do, and the claim that it is the exchange as model has it. Definitions only: proofs/Loop.antt proves it. Assumes nothing.
use Rattle.std.specs.Prelude.{ℕ, zero, suc, ◌+◌, ◌≤◌, ◌≡◌, Bool, ◌&&◌, cond, List, [], ◌∷◌, eqb, Float}
use Rattle.std.specs.Float.{Format}
use Rattle.model.specs.Form.{zero_below}
use Rattle.model.specs.Swaps.{Change, unchanged, and_then}
use Rattle.model.specs.Exchange.{exchange_whole, exchange}

-- a small exchange still to do: the n1 rows from a row on with the n2 below them
pub record Small : Type 0 where
  pub row : ℕ
  pub n1 : ℕ
  pub n2 : ℕ

abbrev pub small : ℕ → ℕ → ℕ → Small
small row n1 n2 = record { row = row; n1 = n1; n2 = n2 }

-- the small exchanges still to do, the next one first, and what was done before them
pub record Working : Type 0 where
  pub todo : List Small
  pub change : Change

-- One round, with `is_zero t j` for whether the entry just below the diagonal in column j of a form is zero. The next small exchange is parted where two of its rows have a zero inside at this moment: of the first pair the lower row goes first, of the second pair the upper row. Else it is made: one swap, and the blocks standardised.
unfoldable pub round : (List Float → ℕ → Bool) → Format → ℕ → ℕ → List Small → Change → Working
round is_zero f ld n [] c = record { todo = []; change = c }
round is_zero f ld n (s ∷ rest) c =
    let j = s.row in
    cond (eqb s.n1 2 && is_zero c.form j) (record { todo = small (j + 1) 1 s.n2 ∷ small j 1 s.n2 ∷ rest; change = c })
    (cond (eqb s.n2 2 && is_zero c.form (j + s.n1)) (record { todo = small j s.n1 1 ∷ small (j + 1) s.n1 1 ∷ rest; change = c })
    (record { todo = rest; change = and_then c (exchange_whole f ld n j s.n1 s.n2) }))

-- so many rounds; one with nothing to do changes nothing
unfoldable pub rounds : (List Float → ℕ → Bool) → ℕ → Format → ℕ → ℕ → Working → Working
rounds is_zero zero f ld n w = w
rounds is_zero (suc k) f ld n w = rounds is_zero k f ld n (round is_zero f ld n w.todo w.change)

-- one small exchange to do, and nothing done
abbrev pub start : ℕ → ℕ → ℕ → List Float → Working
start j n1 n2 t = record { todo = small j n1 n2 ∷ []; change = unchanged t }

-- each size is 1 or 2
pub record Sizes (n1 n2 : ℕ) : Type 0 where
  pub one1 : 1 ≤ n1
  pub two1 : n1 ≤ 2
  pub one2 : 1 ≤ n2
  pub two2 : n2 ≤ 2

-- After seven rounds nothing is left to do, and what was done is the exchange: the form, the operations on the factor's columns, and the list of runs.
abbrev pub LoopIsExchange : Type 0
LoopIsExchange = (f : Format) (ld n j n1 n2 : ℕ) (t : List Float) → Sizes n1 n2
    → rounds (zero_below f ld) 7 f ld n (start j n1 n2 t) ≡ record { todo = []; change = exchange f ld n j n1 n2 t }
