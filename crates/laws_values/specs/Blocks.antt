-- The claims on one 2-block: what both readings give of a standardised one, and what standardising leaves. Definitions only: proofs/Blocks.antt proves them. Assumes nothing.
use Rattle.std.specs.Prelude.{◌≡◌, true, ◌⊎◌, T, Float}
use Rattle.std.specs.Float.{Format}
use Rattle.std.specs.Float.Ieee.{neg, eq, ne, fits}
use Rattle.model.specs.Arith.{zero_of}
use Rattle.model.specs.Schur22.{real, complex, Block, unlike_signs, standard, lahqr_schur22}
use Rattle.model.specs.Values.{imag_size, as_it_stands, standardised_first}

-- a 2-block of rows (a, b) and (c, d) that standardising keeps: equal diagonal numbers, and beside them two of unlike signs, neither zero
pub record Standard (f : Format) (a b c d : Float) : Type 0 where
  pub level : eq a d ≡ true
  pub apart : unlike_signs f b c ≡ true
  pub upper : ne b (zero_of f) ≡ true
  pub lower : ne c (zero_of f) ≡ true

-- both numbers are zero, of unlike signs
pub record UnlikeZeros (f : Format) (a d : Float) : Type 0 where
  pub is_zero : eq a (zero_of f) ≡ true
  pub other : a ≡ neg d

-- a block that standardising leaves with c not zero: as it came, or with one diagonal number twice
pub record AsItCame (f : Format) (a b c d : Float) (x : Block) : Type 0 where
  pub is_standard : Standard f a b c d
  pub kept : (x.a ≡ a) × (x.b ≡ b) × (x.c ≡ c) × (x.d ≡ d)

pub record Levelled (f : Format) (x : Block) : Type 0 where
  pub mean : x.a ≡ x.d
  pub beside : (eq x.b (zero_of f) ≡ true) ⊎ (unlike_signs f x.b x.c ≡ true)

pub record ReadingsOfBlocks : Type 0 where
  -- the size is the same product of roots whichever comes first: it is never rounded otherwise
  pub size : (f : Format) (b c : Float) → imag_size f b c ≡ imag_size f c b
  -- of a standardised block: the same size, the same first number, and the lower diagonal number for the second
  pub of_standard : (f : Format) (a b c d : Float) → Standard f a b c d → standardised_first f a b c d ≡ complex a d (imag_size f c b)
  -- so the same pair, to the bit, where the diagonal numbers have the same bits
  pub same : (f : Format) (a b c d : Float) → Standard f a b c d → a ≡ d → standardised_first f a b c d ≡ as_it_stands f a b c d
  -- two numbers of the format that are equal have the same bits, or are zeros of unlike signs
  pub equal : (f : Format) (a d : Float) → T (fits f a) → T (fits f d) → eq a d ≡ true → (a ≡ d) ⊎ UnlikeZeros f a d
  -- a block with b zero is read as two real numbers, the lower first
  pub exchanged : (f : Format) (a b c d : Float) → ne c (zero_of f) ≡ true → eq b (zero_of f) ≡ true → standardised_first f a b c d ≡ real d a
  -- what standardising leaves with c not zero
  pub left : (f : Format) (a b c d : Float) → ne (standard f a b c d).c (zero_of f) ≡ true
      → AsItCame f a b c d (standard f a b c d) ⊎ Levelled f (standard f a b c d)
  -- and that block, read again, gives the pair that it gave, unless b has become zero or the diagonal a NaN
  pub again : (f : Format) (a b c d : Float) → let x = standard f a b c d in ne x.c (zero_of f) ≡ true → ne x.b (zero_of f) ≡ true → eq x.a x.d ≡ true
      → standardised_first f x.a x.b x.c x.d ≡ (lahqr_schur22 f a b c d).eigenvalues
