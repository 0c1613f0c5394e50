-- The claim: what an accepted call leaves at each row, by any reading of a 2-block. So a 1-block is read alike by both calls, and nothing hangs on the walk. Definitions only: proofs/Rows.antt proves it. Assumes nothing.
use Rattle.std.specs.Prelude.{ℕ, ◌+◌, ◌<◌, ◌≡◌, true, false, List, length, Float}
use Rattle.std.specs.Float.{Format}
use Rattle.model.specs.Arith.{zero_of}
use Rattle.model.specs.Form.{at, entry, two_block}
use Rattle.model.specs.Schur22.{Values, values_of}
use Rattle.model.specs.Values.{Reading, read_at, Parts, values_line, values_read}

-- no 2-block begins in row i, nor in the row above
pub record OneBlock (f : Format) (ld n : ℕ) (t : List Float) (i : ℕ) : Type 0 where
  pub below : two_block f ld n t i ≡ false
  pub above : (j : ℕ) → j + 1 ≡ i → two_block f ld n t j ≡ false

-- the two values stand in rows j and j + 1
pub record PairAt (p : Parts) (j : ℕ) (v : Values) : Type 0 where
  pub re1 : at p.re j ≡ v.re1
  pub im1 : at p.im j ≡ v.im1
  pub re2 : at p.re (j + 1) ≡ v.re2
  pub im2 : at p.im (j + 1) ≡ v.im2

-- every row of a form of n rows is one or the other
pub record EachRow (f : Format) (rd : Reading) (ld n : ℕ) (t : List Float) (p : Parts) : Type 0 where
  pub one_real : (i : ℕ) → i < n → OneBlock f ld n t i → at p.re i ≡ entry ld t i i
  pub one_imaginary : (i : ℕ) → i < n → OneBlock f ld n t i → at p.im i ≡ zero_of f
  pub two : (j : ℕ) → two_block f ld n t j ≡ true → PairAt p j (values_of f (read_at rd ld t j))
  pub reals : length p.re ≡ n
  pub imaginaries : length p.im ≡ n

abbrev pub RowsRead : Type 0
RowsRead = (f : Format) (rd : Reading) (ld n : ℕ) (t : List Float) (s : Parts) → values_line f ld n t s ≡ 0 → EachRow f rd ld n t (values_read f rd ld n t s).parts
