-- The claims on whole calls: on a form whose 2-blocks are standardised both readings give the same bits, but for the second real part of a 2-block whose diagonal numbers are zeros of unlike signs. Definitions only: proofs/Forms.antt proves them. Assumes nothing.
use Rattle.std.specs.Prelude.{ℕ, ◌+◌, ◌<◌, ◌≡◌, true, false, List, ◌⊎◌, T, Float}
use Rattle.std.specs.Float.{Format}
use Rattle.std.specs.Float.Ieee.{fits}
use Rattle.model.specs.Form.{at, entry, two_block}
use Rattle.model.specs.Values.{Parts, values_line, block_values, standardised_values}
use Rattle.laws_values.specs.Blocks.{Standard, UnlikeZeros}

-- each 2-block is standardised
abbrev pub AllStandard : Format → ℕ → ℕ → List Float → Type 0
AllStandard f ld n t = (j : ℕ) → two_block f ld n t j ≡ true → Standard f (entry ld t j j) (entry ld t j (j + 1)) (entry ld t (j + 1) j) (entry ld t (j + 1) (j + 1))

-- the two diagonal numbers of each 2-block have the same bits
abbrev pub AllLevel : Format → ℕ → ℕ → List Float → Type 0
AllLevel f ld n t = (j : ℕ) → two_block f ld n t j ≡ true → entry ld t j j ≡ entry ld t (j + 1) (j + 1)

pub record SameReadings (f : Format) (ld n : ℕ) (t : List Float) (s : Parts) : Type 0 where
  pub imaginary : (standardised_values f ld n t s).parts.im ≡ (block_values f ld n t s).parts.im
  -- the real parts of an accepted form: as it stands only the second row of a 2-block has another row's number
  pub own : (i : ℕ) → i < n → values_line f ld n t s ≡ 0 → at (standardised_values f ld n t s).parts.re i ≡ entry ld t i i
  pub first : (i : ℕ) → i < n → values_line f ld n t s ≡ 0 → ((j : ℕ) → j + 1 ≡ i → two_block f ld n t j ≡ false) → at (block_values f ld n t s).parts.re i ≡ entry ld t i i
  pub second : (j : ℕ) → values_line f ld n t s ≡ 0 → two_block f ld n t j ≡ true → at (block_values f ld n t s).parts.re (j + 1) ≡ entry ld t j j
  -- so the real parts have the same bits in every other row, and there too unless the two are zeros of unlike signs
  pub same : (i : ℕ) → i < n → values_line f ld n t s ≡ 0 → ((j : ℕ) → j + 1 ≡ i → two_block f ld n t j ≡ false) → at (standardised_values f ld n t s).parts.re i ≡ at (block_values f ld n t s).parts.re i
  pub same_or_zeros : (j : ℕ) → values_line f ld n t s ≡ 0 → two_block f ld n t j ≡ true → T (fits f (entry ld t j j)) → T (fits f (entry ld t (j + 1) (j + 1)))
      → (at (standardised_values f ld n t s).parts.re (j + 1) ≡ at (block_values f ld n t s).parts.re (j + 1)) ⊎ UnlikeZeros f (entry ld t j j) (entry ld t (j + 1) (j + 1))
  -- with the same bits there, all is the same
  pub all : AllLevel f ld n t → standardised_values f ld n t s ≡ block_values f ld n t s

pub record ReadingsOfForms : Type 0 where
  -- which calls are turned away, and by which line, is the same for both, on every form
  pub answer : (f : Format) (ld n : ℕ) (t : List Float) (s : Parts) → (standardised_values f ld n t s).answer ≡ (block_values f ld n t s).answer
  pub on_standard : (f : Format) (ld n : ℕ) (t : List Float) (s : Parts) → AllStandard f ld n t → SameReadings f ld n t s
