-- Document 01's starred worked values, as patterns: one list of tests, and the claim that each of them holds. `worked_hold` of proofs/Worked.antt proves it. Assumes nothing.
use Rattle.std.specs.Prelude.{ℕ, Bool, true, false, ◌&&◌, List, [], ◌∷◌, map, T, eqb, Float}
use Rattle.std.specs.Float.{binary64}
use Rattle.std.specs.Float.Ieee.{of_bits, to_bits}
use Rattle.model.specs.Root.{sqrt}
use Rattle.model.specs.Arith.{hypot}
use Rattle.model.specs.Jacobi.{rotg}
use Rattle.model.specs.Schur22.{Block, Eigenvalues, real, complex, Standardised, values_of, lahqr_schur22}
use Rattle.model.specs.Form.{entry}
use Rattle.model.specs.Exchange.{exchange_call}
use Rattle.model.specs.Move.{Moved, move_call}
use Rattle.model.specs.Vectors.{evd_from_real_schur, column_of}

-- ---- how a test is written

-- the f64 of pattern b
abbrev of : ℕ → Float
of b = of_bits binary64 b

-- x is the f64 of pattern b
abbrev is : Float → ℕ → Bool
is x b = eqb (to_bits binary64 x) b

-- numbers are the f64s of patterns, one for one
abbrev are : List Float → List ℕ → Bool
are [] [] = true
are [] (b ∷ bs) = false
are (x ∷ xs) [] = false
are (x ∷ xs) (b ∷ bs) = is x b && are xs bs

-- the four numbers of a block, and its rotation
abbrev numbers : Block → List Float
numbers x = x.a ∷ x.b ∷ x.c ∷ x.d ∷ x.cs ∷ x.sn ∷ []

-- whether a pair is complex, by its case
abbrev is_complex : Eigenvalues → Bool
is_complex (real a d) = false
is_complex (complex a d m) = true

-- the real and the imaginary part of both values of a pair
abbrev values : Eigenvalues → List Float
values e = let v = values_of binary64 e in v.re1 ∷ v.im1 ∷ v.re2 ∷ v.im2 ∷ []

-- the diagonal of a form of three rows
abbrev diagonal : List Float → List Float
diagonal t = entry 3 t 0 0 ∷ entry 3 t 1 1 ∷ entry 3 t 2 2 ∷ []

-- a move from row to row that is not turned away, with the diagonal that it ends in and its swaps
abbrev ends : Moved → List ℕ → ℕ → Bool
ends m bits swaps = eqb m.answer 0 && are (diagonal m.form) bits && eqb m.swaps swaps

abbrev standard : ℕ → ℕ → ℕ → ℕ → Standardised
standard a b c d = lahqr_schur22 binary64 (of a) (of b) (of c) (of d)

-- patterns
abbrev one : ℕ
one = 0x3ff0_0000_0000_0000

abbrev two : ℕ
two = 0x4000_0000_0000_0000

abbrev three : ℕ
three = 0x4008_0000_0000_0000

abbrev five : ℕ
five = 0x4014_0000_0000_0000

abbrev seven : ℕ
seven = 0x401c_0000_0000_0000

abbrev minus_one : ℕ
minus_one = 0xbff0_0000_0000_0000

-- diagonal 1, 2, 3, zeros elsewhere
abbrev three_rows : List Float
three_rows = map of (one ∷ 0 ∷ 0 ∷ 0 ∷ two ∷ 0 ∷ 0 ∷ 0 ∷ three ∷ [])

-- the 2-block of rows (0, 1) and (-1, 0)
abbrev turn : List Float
turn = map of (0 ∷ minus_one ∷ one ∷ 0 ∷ [])

-- the form of rows (1, 1) and (0, 2), and what is lent for its vectors
abbrev upper : List Float
upper = map of (one ∷ 0 ∷ one ∷ two ∷ [])

abbrev lent : List Float
lent = map of (0 ∷ 0 ∷ 0 ∷ 0 ∷ [])

-- every test of a list holds
abbrev all : List Bool → Bool
all [] = true
all (t ∷ ts) = t && all ts

-- ---- the list: to add a value, add its line

abbrev pub worked : List Bool
worked =
    -- root of 4 is 2
    is (sqrt binary64 (of 0x4010_0000_0000_0000)) 0x4000_0000_0000_0000
    -- of 2^-1074 is 2^-537
    ∷ is (sqrt binary64 (of 0x1)) 0x1e60_0000_0000_0000
    -- of minus zero is minus zero
    ∷ is (sqrt binary64 (of 0x8000_0000_0000_0000)) 0x8000_0000_0000_0000
    -- hypot(3, 4) is 5
    ∷ is (hypot binary64 (of three) (of 0x4010_0000_0000_0000)) five
    -- rotg(3, 4): r is 5, c the f64 nearest 0.6, s nearest -0.8
    ∷ is (rotg binary64 (of three) (of 0x4010_0000_0000_0000)).r five
    ∷ is (rotg binary64 (of three) (of 0x4010_0000_0000_0000)).rot.c 0x3fe3_3333_3333_3333
    ∷ is (rotg binary64 (of three) (of 0x4010_0000_0000_0000)).rot.s 0xbfe9_9999_9999_999a
    -- standardising (5, 0, 2, 7) gives (7, -2, 0, 5), cs 0, sn 1
    ∷ are (numbers (standard five 0 two seven).block) (seven ∷ 0xc000_0000_0000_0000 ∷ 0 ∷ five ∷ 0 ∷ one ∷ [])
    -- (0, 1, -1, 0) is unchanged, complex, size 1
    ∷ are (numbers (standard 0 one minus_one 0).block) (0 ∷ one ∷ minus_one ∷ 0 ∷ one ∷ 0 ∷ [])
    ∷ is_complex (standard 0 one minus_one 0).eigenvalues
    ∷ are (values (standard 0 one minus_one 0).eigenvalues) (0 ∷ one ∷ 0 ∷ minus_one ∷ [])
    -- diagonal 1, 2, 3, zeros elsewhere: 0 to 2 ends 2, 3, 1 with 2 swaps; 2 to 0 ends 3, 1, 2
    ∷ ends (move_call binary64 3 3 three_rows [] 0 2) (two ∷ three ∷ one ∷ []) 2
    ∷ ends (move_call binary64 3 3 three_rows [] 2 0) (three ∷ one ∷ two ∷ []) 2
    -- the 2-block of rows (0, 1) and (-1, 0), from 1 to 0: landed 0, swaps 0
    ∷ eqb (move_call binary64 2 2 turn [] 1 0).answer 0
    ∷ eqb (move_call binary64 2 2 turn [] 1 0).landed 0
    ∷ eqb (move_call binary64 2 2 turn [] 1 0).swaps 0
    -- exchange at 0 of sizes 1 and 1 there: 10
    ∷ eqb (exchange_call binary64 2 2 turn [] 0 1 1).answer 10
    -- vectors of rows (1, 1) and (0, 2): second column 1, 1
    ∷ are (column_of 2 2 (evd_from_real_schur binary64 2 2 upper lent).v 1) (one ∷ one ∷ [])
    ∷ []

abbrev pub Worked : Type 0
Worked = T (all worked)
