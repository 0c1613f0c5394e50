-- Document 01's list of what turns a call away: the order in which its lines are tested, and the first of a call's lines that applies. Definitions only. Assumes nothing.
-- A call names the lines about the things that it is given; that they stand in 01's order there is for the reader, and `order` alone decides.
use Rattle.std.specs.Prelude.{ℕ, Bool, ◌&&◌, cond, List, [], ◌∷◌, eqb}

-- a line's number, and whether it applies
pub record Line : Type 0 where
  pub number : ℕ
  pub applies : Bool

-- the order in which the lines are tested
unfoldable pub order : List ℕ
order = 1 ∷ 12 ∷ 2 ∷ 17 ∷ 3 ∷ 4 ∷ 5 ∷ 6 ∷ 7 ∷ 8 ∷ 9 ∷ 10 ∷ 11 ∷ []

-- the number k where a line of that number applies, and else the rest
unfoldable pub told_or : ℕ → List Line → ℕ → ℕ
told_or k [] rest = rest
told_or k (l ∷ ls) rest = cond (eqb l.number k && l.applies) k (told_or k ls rest)

-- the first of some numbers of which a line applies, or 0
unfoldable pub first_among : List ℕ → List Line → ℕ
first_among [] ls = 0
first_among (k ∷ ks) ls = told_or k ls (first_among ks ls)

-- the number of the first of these lines that applies, or 0
unfoldable pub first_of : List Line → ℕ
unfolding order told_or first_among
first_of ls = first_among order ls
