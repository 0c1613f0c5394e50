-- The claim: what a call gives, and the n rows that it leaves, hang on the n rows that it is given, and neither on the stride nor on the rows from n on. Definitions only: the proofs are in proofs/. Assumes nothing.
-- With both strides one, no row from n on is read. With n for the second, a call at any stride does what it did without one: LikeBase, the corollary.
use Rattle.std.specs.Prelude.{ℕ, ◌*◌, ◌<◌, ◌≡◌, ◌⊎◌, false, List, length, Float}
use Rattle.std.specs.Float.{Format}
use Rattle.model.specs.Form.{entry, line17}
use Rattle.model.specs.Exchange.{Exchanged, exchange_call}
use Rattle.model.specs.Move.{Moved, move_call}
use Rattle.model.specs.Stopping.{Stopped, stopping_call}
use Rattle.model.specs.Values.{Reading, Parts, values_read, block_values}
use Rattle.model.specs.Vectors.{Vectors, evd_from_real_schur, column_of}
use Rattle.laws_stride.specs.Base.{base_move, base_exchange, base_values, base_vectors, base_column}

-- both strides are allowed
pub record Allowed (ld md n : ℕ) : Type 0 where
  pub first : line17 ld n ≡ false
  pub second : line17 md n ≡ false

-- a by the stride ld and b by the stride md have their lengths, and the same numbers in the n rows
pub record SameRows (ld md n : ℕ) (a b : List Float) : Type 0 where
  pub size : length a ≡ ld * n
  pub size' : length b ≡ md * n
  pub same : (i j : ℕ) → i < n → j < n → entry ld a i j ≡ entry md b i j

-- of two factors, or there is none
abbrev pub SameFactor : ℕ → ℕ → ℕ → List Float → List Float → Type 0
SameFactor ld md n u v = SameRows ld md n u v ⊎ ((length u ≡ 0) × (length v ≡ 0))

pub record SameMoved (ld md n : ℕ) (r s : Moved) : Type 0 where
  pub answer : r.answer ≡ s.answer
  pub landed : r.landed ≡ s.landed
  pub swaps : r.swaps ≡ s.swaps
  pub declined : r.declined ≡ s.declined
  pub form : SameRows ld md n r.form s.form
  pub factor : SameFactor ld md n r.factor s.factor

pub record SameStopped (ld md n : ℕ) (r s : Stopped) : Type 0 where
  pub answer : r.answer ≡ s.answer
  pub stopped : r.stopped ≡ s.stopped
  pub here : r.here ≡ s.here
  pub swaps : r.swaps ≡ s.swaps
  pub declined : r.declined ≡ s.declined
  pub form : SameRows ld md n r.form s.form
  pub factor : SameFactor ld md n r.factor s.factor

pub record SameExchanged (ld md n : ℕ) (r s : Exchanged) : Type 0 where
  pub answer : r.answer ≡ s.answer
  pub swaps : r.swaps ≡ s.swaps
  pub declined : r.declined ≡ s.declined
  pub form : SameRows ld md n r.form s.form
  pub factor : SameFactor ld md n r.factor s.factor

pub record SameVectors (ld md n : ℕ) (r s : Vectors) : Type 0 where
  pub answer : r.answer ≡ s.answer
  pub v : SameRows ld md n r.v s.v

pub record TwoStrides : Type 0 where
  pub moves : (f : Format) (ld md n : ℕ) (a b u v : List Float) (from to : ℕ) → Allowed ld md n → SameRows ld md n a b → SameFactor ld md n u v
      → SameMoved ld md n (move_call f ld n a u from to) (move_call f md n b v from to)
  pub stopping_moves : (f : Format) (ld md n : ℕ) (a b u v : List Float) (from to : ℕ) → Allowed ld md n → SameRows ld md n a b → SameFactor ld md n u v
      → SameStopped ld md n (stopping_call f ld n a u from to) (stopping_call f md n b v from to)
  pub exchanges : (f : Format) (ld md n : ℕ) (a b u v : List Float) (j n1 n2 : ℕ) → Allowed ld md n → SameRows ld md n a b → SameFactor ld md n u v
      → SameExchanged ld md n (exchange_call f ld n a u j n1 n2) (exchange_call f md n b v j n1 n2)
  -- by any reading of a 2-block, so of block_values and standardised_values alike
  pub values : (f : Format) (rd : Reading) (ld md n : ℕ) (a b : List Float) (s : Parts) → Allowed ld md n → SameRows ld md n a b → values_read f rd ld n a s ≡ values_read f rd md n b s
  pub vectors : (f : Format) (ld md n : ℕ) (a b v w : List Float) → Allowed ld md n → SameRows ld md n a b → SameRows ld md n v w
      → SameVectors ld md n (evd_from_real_schur f ld n a v) (evd_from_real_schur f md n b w)
  pub column : (ld md n : ℕ) (v w : List Float) (col : ℕ) → Allowed ld md n → SameRows ld md n v w → column_of ld n v col ≡ column_of md n w col

-- The n rows of a, at the stride ld, copied out are b, of n by n: a call on a does what the call without a stride does on b.
pub record LikeBase : Type 0 where
  pub moves : (f : Format) (ld n : ℕ) (a b u v : List Float) (from to : ℕ) → line17 ld n ≡ false → SameRows ld n n a b → SameFactor ld n n u v
      → SameMoved ld n n (move_call f ld n a u from to) (base_move f n b v from to)
  pub exchanges : (f : Format) (ld n : ℕ) (a b u v : List Float) (j n1 n2 : ℕ) → line17 ld n ≡ false → SameRows ld n n a b → SameFactor ld n n u v
      → SameExchanged ld n n (exchange_call f ld n a u j n1 n2) (base_exchange f n b v j n1 n2)
  pub values : (f : Format) (ld n : ℕ) (a b : List Float) (s : Parts) → line17 ld n ≡ false → SameRows ld n n a b → block_values f ld n a s ≡ base_values f n b s
  pub vectors : (f : Format) (ld n : ℕ) (a b v w : List Float) → line17 ld n ≡ false → SameRows ld n n a b → SameRows ld n n v w
      → SameVectors ld n n (evd_from_real_schur f ld n a v) (base_vectors f n b w)
  pub column : (ld n : ℕ) (v w : List Float) (col : ℕ) → line17 ld n ≡ false → SameRows ld n n v w → column_of ld n v col ≡ base_column n w col
