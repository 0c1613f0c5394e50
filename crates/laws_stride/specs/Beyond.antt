-- The claim: no call changes a number in a row from n on, of whatever buffer it writes. Definitions only: the proofs are in proofs/. Assumes nothing.
-- Nothing is asked of the call: it holds for one that is turned away and for one that is not, whatever stands in those rows.
use Rattle.std.specs.Prelude.{ℕ, ◌≤◌, ◌<◌, ◌≡◌, List, length, Float}
use Rattle.std.specs.Float.{Format}
use Rattle.model.specs.Form.{entry}
use Rattle.model.specs.Exchange.{exchange_call}
use Rattle.model.specs.Move.{move_call}
use Rattle.model.specs.Stopping.{stopping_call}
use Rattle.model.specs.Vectors.{evd_from_real_schur}

-- b has as many numbers as a, and in the rows from n on the same ones
pub record BeyondStays (ld n : ℕ) (a b : List Float) : Type 0 where
  pub size : length b ≡ length a
  pub beyond : (i j : ℕ) → n ≤ i → i < ld → entry ld b i j ≡ entry ld a i j

pub record RowsBeyond : Type 0 where
  pub move_form : (f : Format) (ld n : ℕ) (t u : List Float) (from to : ℕ) → BeyondStays ld n t (move_call f ld n t u from to).form
  pub move_factor : (f : Format) (ld n : ℕ) (t u : List Float) (from to : ℕ) → BeyondStays ld n u (move_call f ld n t u from to).factor
  pub stopping_form : (f : Format) (ld n : ℕ) (t u : List Float) (from to : ℕ) → BeyondStays ld n t (stopping_call f ld n t u from to).form
  pub stopping_factor : (f : Format) (ld n : ℕ) (t u : List Float) (from to : ℕ) → BeyondStays ld n u (stopping_call f ld n t u from to).factor
  pub exchange_form : (f : Format) (ld n : ℕ) (t u : List Float) (j n1 n2 : ℕ) → BeyondStays ld n t (exchange_call f ld n t u j n1 n2).form
  pub exchange_factor : (f : Format) (ld n : ℕ) (t u : List Float) (j n1 n2 : ℕ) → BeyondStays ld n u (exchange_call f ld n t u j n1 n2).factor
  pub vectors : (f : Format) (ld n : ℕ) (t v : List Float) → BeyondStays ld n v (evd_from_real_schur f ld n t v).v
