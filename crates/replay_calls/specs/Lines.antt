-- What a line of each call shows, by the call's definition in model. Definitions only. Assumes nothing.
use Rattle.std.specs.Prelude.{ℕ, ◌+◌, ◌*◌, Bool, ◌&&◌, cond, List, [], ◌∷◌, ◌++◌, eqb, leb, length, get_or, take, drop, Float}
use Rattle.std.specs.Float.{binary64}
use Rattle.std.specs.Float.Ieee.{of_bits}
use Rattle.model.specs.Arith as Arith
use Rattle.model.specs.Root as Root
use Rattle.model.specs.Jacobi as Jacobi
use Rattle.model.specs.Householder as Householder
use Rattle.model.specs.Schur22 as Schur22
use Rattle.model.specs.Lasy2 as Lasy2
use Rattle.replay_text.specs.Float.{is_word, are_words}
use Rattle.replay_text.specs.Shown.{judged, from}
use Rattle.replay_text.specs.declared.outcome.Outcome.{Outcome}

-- the number of word i
abbrev pub at : List ℕ → ℕ → Float
at w i = of_bits binary64 (get_or w i 0)

-- x is the number of word i
abbrev pub is : List ℕ → ℕ → Float → Bool
is w i x = is_word x (get_or w i 0)

-- of a call that takes a number and gives one
abbrev pub one : (Float → Float) → List ℕ → Outcome
one g w = judged (eqb (length w) 2) (is w 1 (g (at w 0)))

-- of one that takes two
abbrev pub two : (Float → Float → Float) → List ℕ → Outcome
two g w = judged (eqb (length w) 3) (is w 2 (g (at w 0) (at w 1)))

abbrev pub abs : List ℕ → Outcome
abs = one Arith.abs

abbrev pub abs1 : List ℕ → Outcome
abs1 = one Arith.abs1

abbrev pub abs2 : List ℕ → Outcome
abs2 = one (Arith.abs2 binary64)

abbrev pub recip : List ℕ → Outcome
recip = one (Arith.recip binary64)

abbrev pub sqrt : List ℕ → Outcome
sqrt = one (Root.sqrt binary64)

abbrev pub mul_pow2 : List ℕ → Outcome
mul_pow2 = two (Arith.mul_pow2 binary64)

abbrev pub fmax : List ℕ → Outcome
fmax = two Arith.fmax

abbrev pub fmin : List ℕ → Outcome
fmin = two Arith.fmin

abbrev pub hypot : List ℕ → Outcome
hypot = two (Arith.hypot binary64)

abbrev pub norm_l2 : List ℕ → Outcome
norm_l2 w = judged (eqb (length w) 8 && leb (get_or w 0 0) 6) (is w 7 (Arith.norm_l2 binary64 (take (get_or w 0 0) (from w 1 6))))

abbrev pub rotg : List ℕ → Outcome
rotg w = let g = Jacobi.rotg binary64 (at w 0) (at w 1) in judged (eqb (length w) 5) (is w 2 g.rot.c && is w 3 g.rot.s && is w 4 g.r)

abbrev pub rotation : List ℕ → Jacobi.Rotation
rotation w = record { c = at w 0; s = at w 1 }

abbrev pub adjoint : List ℕ → Outcome
adjoint w = let j = Jacobi.adjoint (rotation w) in judged (eqb (length w) 4) (is w 2 j.c && is w 3 j.s)

abbrev pub apply : List ℕ → Outcome
apply w = let p = Jacobi.apply_right binary64 (rotation w) (at w 2) (at w 3) in judged (eqb (length w) 6) (is w 4 p.x && is w 5 p.y)

-- the places of a tail of n numbers: 5, or n if that is more
unfoldable pub places : ℕ → ℕ
places n = cond (leb n 5) 5 n

abbrev pub make_householder_in_place : List ℕ → Outcome
make_householder_in_place w =
    let n = get_or w 0 0 in
    let p = places n in
    let t = from w 2 p in
    let r = Householder.make_householder_in_place binary64 (at w 1) (take n t) in
    judged (leb n 66 && eqb (length w) (7 + 2 * p))
    (eqb r.answer (get_or w (2 + p) 0) && is w (3 + p) r.head && is w (4 + p) r.tau && is w (5 + p) r.head_with_beta_inv && is w (6 + p) r.norm
    && are_words (r.tail ++ drop n t) (take p (drop (7 + p) w)))

-- the numbers of a block and its values, as they stand in a line of lahqr_schur22
unfoldable pub is_block : List ℕ → Schur22.Block → Bool
is_block w x = is w 4 x.a && is w 5 x.b && is w 6 x.c && is w 7 x.d && is w 12 x.cs && is w 13 x.sn

unfoldable pub is_values : List ℕ → Schur22.Values → Bool
is_values w v = is w 8 v.re1 && is w 9 v.im1 && is w 10 v.re2 && is w 11 v.im2

abbrev pub lahqr_schur22 : List ℕ → Outcome
lahqr_schur22 w =
    let s = Schur22.lahqr_schur22 binary64 (at w 0) (at w 1) (at w 2) (at w 3) in
    judged (eqb (length w) 14) (is_block w s.block && is_values w (Schur22.values_of binary64 s.eigenvalues))

-- the rows of four words, column after column
abbrev pub square : ℕ → ℕ → ℕ → ℕ → List (List Float)
square a c b d = (of_bits binary64 a ∷ of_bits binary64 b ∷ []) ∷ (of_bits binary64 c ∷ of_bits binary64 d ∷ []) ∷ []

-- the same from word i on
abbrev pub square_from : List ℕ → ℕ → List (List Float)
square_from w i = square (get_or w i 0) (get_or w (i + 1) 0) (get_or w (i + 2) 0) (get_or w (i + 3) 0)

abbrev pub lasy2 : List ℕ → Outcome
lasy2 w =
    let s = Lasy2.lasy2 binary64 (square_from w 0) (square_from w 4) (square_from w 8) in
    judged (eqb (length w) 17) (is w 12 s.x00 && is w 13 s.x10 && is w 14 s.x01 && is w 15 s.x11 && is w 16 s.scale)
