-- The claim: an accepted exchange counts one to four swaps, and four exactly when both sizes are 2, each with a zero inside at the start. Definitions only: proofs/Counts.antt proves it. Assumes nothing.
use Rattle.std.specs.Prelude.{ℕ, ◌+◌, ◌≤◌, ◌≡◌, true, List, Float}
use Rattle.std.specs.Float.{Format}
use Rattle.model.specs.Form.{zero_below}
use Rattle.model.specs.Exchange.{exchange_line, exchange_call}

-- both sizes are 2, each with a zero inside
pub record BothParted (f : Format) (ld : ℕ) (t : List Float) (j n1 n2 : ℕ) : Type 0 where
  pub two1 : n1 ≡ 2
  pub zero1 : zero_below f ld t j ≡ true
  pub two2 : n2 ≡ 2
  pub zero2 : zero_below f ld t (j + n1) ≡ true

-- one to four swaps, and when there are four
pub record OneToFour (f : Format) (ld : ℕ) (t : List Float) (j n1 n2 swaps : ℕ) : Type 0 where
  pub least : 1 ≤ swaps
  pub most : swaps ≤ 4
  pub four : swaps ≡ 4 → BothParted f ld t j n1 n2
  pub parted : BothParted f ld t j n1 n2 → swaps ≡ 4

-- of every call that no line turns away, whatever numbers stand in the form and the factor
abbrev pub CountsOfExchange : Type 0
CountsOfExchange = (f : Format) (ld n : ℕ) (t u : List Float) (j n1 n2 : ℕ) → n ≤ ld → exchange_line f ld n t u j n1 n2 ≡ 0
    → OneToFour f ld t j n1 n2 (exchange_call f ld n t u j n1 n2).swaps
