-- Recorded runs of DTREXC as compiled from reference LAPACK 3.11.0, beside the control of Dtrexc.antt. Definitions only. Assumes nothing.
-- oracle/lapack/dtrexc_calls.c made them: there DLAEXC only throws dice for the subdiagonal's zeros and for INFO. They take every line of DTREXC past the tests of its arguments.
use Rattle.std.specs.Prelude.{ℕ, ◌+◌, ◌-◌, ◌/◌, ◌%◌, ◌^◌, ◌≡◌, Bool, true, false, ◌&&◌, List, [], ◌∷◌, eqb}
use Rattle.laws_dtrexc.specs.Dtrexc.{Exchanged, Call, dtrexc}

-- The form is the list of the subdiagonals and INFOs to come: now, and as each call of DLAEXC leaves them. Bit J - 1 of a subdiagonal says that T( J+1, J ) is zero
abbrev pub Form : Type 0
Form = List (ℕ × ℕ)

unfoldable pub zero_in : Form → ℕ → ℕ → Bool
zero_in [] I J = false
zero_in (p ∷ ps) I J = eqb I (J + 1) && eqb (p.0 / 2 ^ (J - 1) % 2) 1

unfoldable pub info_in : Form → ℕ
info_in [] = 0
info_in (p ∷ ps) = p.1

unfoldable pub next_in : Form → ℕ → ℕ → ℕ → Exchanged Form
next_in [] J1 N1 N2 = record { T = []; INFO = 0 }
next_in (p ∷ ps) J1 N1 N2 = record { T = ps; INFO = info_in ps }

-- N, IFST and ILST, the subdiagonals and INFOs, the calls that LAPACK made, and its ILST and INFO at the end
pub record Run : Type 0 where
  pub N : ℕ
  pub IFST : ℕ
  pub ILST : ℕ
  pub form : Form
  pub calls : List (ℕ × ℕ × ℕ)
  pub ended : ℕ
  pub INFO : ℕ

abbrev run : ℕ → ℕ → ℕ → Form → List (ℕ × ℕ × ℕ) → ℕ → ℕ → Run
run N IFST ILST form calls ended INFO = record { N = N; IFST = IFST; ILST = ILST; form = form; calls = calls; ended = ended; INFO = INFO }

-- the same calls
unfoldable pub same_calls : List Call → List (ℕ × ℕ × ℕ) → Bool
same_calls [] [] = true
same_calls [] (d ∷ ds) = false
same_calls (c ∷ cs) [] = false
same_calls (c ∷ cs) (d ∷ ds) = eqb c.J1 d.0 && eqb c.N1 d.1 && eqb c.N2 d.2 && same_calls cs ds

-- the control makes them, and ends as LAPACK did
unfoldable pub agrees : Run → Bool
agrees x =
    let v = dtrexc (record { is_zero = zero_in; dlaexc = next_in }) x.N x.form x.IFST x.ILST in
    same_calls v.calls x.calls && eqb v.ILST x.ended && eqb v.INFO x.INFO

unfoldable pub all : List Run → Bool
all [] = true
all (x ∷ xs) = agrees x && all xs

-- (oracle/lapack/dtrexc_calls.txt)
unfoldable pub runs : List Run
runs =
    run 9 9 2 ((14130, 0) ∷ (28329, 0) ∷ (28122, 0) ∷ (25966, 0) ∷ (27341, 0) ∷ (27341, 0) ∷ (30122, 0) ∷ (27325, 0) ∷ (14267, 0) ∷ (16019, 1) ∷ []) ((7, 1, 2) ∷ (5, 2, 2) ∷ (3, 2, 1) ∷ (5, 1, 1) ∷ (4, 1, 1) ∷ (2, 1, 1) ∷ (3, 1, 1) ∷ (1, 1, 1) ∷ (2, 1, 1) ∷ []) 1 1
    ∷ run 7 7 2 ((27482, 0) ∷ (27482, 0) ∷ (32234, 0) ∷ (24437, 0) ∷ (24437, 1) ∷ (12214, 0) ∷ (11549, 1) ∷ (7861, 1) ∷ []) ((5, 1, 2) ∷ (3, 2, 1) ∷ (5, 1, 1) ∷ (4, 1, 1) ∷ (2, 1, 1) ∷ (3, 1, 1) ∷ (1, 1, 1) ∷ []) 2 1
    ∷ run 9 1 9 ((23978, 0) ∷ (14170, 0) ∷ (14170, 0) ∷ (14170, 0) ∷ (15082, 0) ∷ (22205, 0) ∷ (22205, 0) ∷ (27478, 0) ∷ (31406, 0) ∷ (23390, 1) ∷ []) ((1, 2, 2) ∷ (3, 2, 1) ∷ (5, 1, 2) ∷ (4, 1, 1) ∷ (5, 1, 1) ∷ (7, 1, 1) ∷ (6, 1, 1) ∷ (8, 1, 1) ∷ (7, 1, 1) ∷ []) 8 1
    ∷ run 8 1 8 ((23898, 0) ∷ (23898, 0) ∷ (23898, 0) ∷ (30538, 0) ∷ (30126, 0) ∷ (13934, 0) ∷ (13934, 0) ∷ []) ((1, 2, 2) ∷ (3, 2, 1) ∷ (5, 1, 2) ∷ (4, 1, 2) ∷ (7, 1, 1) ∷ (6, 1, 1) ∷ []) 7 0
    ∷ run 8 5 1 ((22232, 0) ∷ (8047, 0) ∷ (21845, 0) ∷ (15741, 1) ∷ []) ((3, 2, 1) ∷ (2, 1, 1) ∷ (1, 1, 1) ∷ []) 2 1
    ∷ run 5 1 5 ((9685, 0) ∷ (14298, 0) ∷ (10971, 0) ∷ (23475, 1) ∷ []) ((1, 1, 2) ∷ (3, 1, 1) ∷ (4, 1, 1) ∷ []) 4 1
    ∷ run 5 5 2 ((23902, 0) ∷ (15788, 0) ∷ (7342, 0) ∷ (27566, 1) ∷ []) ((4, 1, 1) ∷ (2, 2, 1) ∷ (1, 1, 1) ∷ []) 2 1
    ∷ run 5 1 4 ((14199, 0) ∷ (32170, 0) ∷ (21823, 0) ∷ (21823, 1) ∷ []) ((1, 1, 1) ∷ (2, 1, 2) ∷ (4, 1, 1) ∷ []) 4 1
    ∷ run 9 8 2 ((23387, 0) ∷ (9909, 0) ∷ (21846, 0) ∷ (22379, 0) ∷ (22379, 0) ∷ (22379, 0) ∷ (21851, 0) ∷ (27348, 1) ∷ []) ((6, 2, 2) ∷ (4, 2, 1) ∷ (6, 1, 1) ∷ (5, 1, 1) ∷ (3, 1, 1) ∷ (4, 1, 1) ∷ (2, 1, 1) ∷ []) 3 1
    ∷ run 9 3 8 ((11098, 0) ∷ (13661, 0) ∷ (29098, 0) ∷ (29098, 0) ∷ (7082, 0) ∷ (11945, 1) ∷ (27499, 1) ∷ []) ((3, 2, 1) ∷ (5, 1, 2) ∷ (4, 1, 2) ∷ (7, 1, 1) ∷ (6, 1, 1) ∷ (8, 1, 1) ∷ []) 7 1
    ∷ run 3 2 3 ((7514, 0) ∷ (7514, 1) ∷ []) ((1, 2, 1) ∷ []) 1 1
    ∷ run 3 2 3 ((9904, 0) ∷ (9904, 1) ∷ []) ((1, 2, 1) ∷ []) 1 1
    ∷ run 8 2 1 ((4789, 0) ∷ (4789, 1) ∷ []) ((1, 1, 2) ∷ []) 2 1
    ∷ run 3 3 1 ((9717, 0) ∷ (9717, 1) ∷ []) ((1, 1, 2) ∷ []) 2 1
    ∷ run 9 9 1 ((11102, 0) ∷ (11702, 0) ∷ (30574, 0) ∷ (31469, 0) ∷ (30126, 1) ∷ []) ((6, 2, 2) ∷ (4, 2, 1) ∷ (5, 2, 1) ∷ (2, 2, 1) ∷ []) 4 1
    ∷ run 9 3 8 ((23405, 0) ∷ (23405, 0) ∷ (23978, 0) ∷ (23978, 0) ∷ (21852, 0) ∷ (30047, 1) ∷ []) ((2, 2, 1) ∷ (4, 1, 2) ∷ (3, 1, 1) ∷ (4, 1, 1) ∷ (6, 1, 1) ∷ []) 5 1
    ∷ run 7 2 7 ((21950, 0) ∷ (21719, 0) ∷ (23221, 0) ∷ (23221, 0) ∷ (30037, 1) ∷ (12118, 1) ∷ []) ((1, 2, 1) ∷ (3, 1, 2) ∷ (2, 1, 1) ∷ (3, 1, 1) ∷ (5, 1, 2) ∷ []) 4 1
    ∷ run 9 7 2 ((13994, 0) ∷ (23898, 0) ∷ (9901, 0) ∷ (32218, 0) ∷ (32474, 1) ∷ (27476, 0) ∷ (22377, 0) ∷ []) ((5, 2, 2) ∷ (3, 2, 1) ∷ (5, 1, 1) ∷ (4, 1, 1) ∷ (1, 2, 1) ∷ (2, 2, 1) ∷ []) 1 0
    ∷ run 7 7 7 ((5814, 0) ∷ []) ([]) 7 0
    ∷ run 2 1 1 ((8157, 0) ∷ []) ([]) 1 0
    ∷ run 1 1 1 ((5821, 0) ∷ []) ([]) 1 0
    ∷ run 1 1 1 ((9621, 0) ∷ []) ([]) 1 0
    ∷ run 9 5 2 ((6891, 0) ∷ (6891, 1) ∷ []) ((3, 2, 2) ∷ []) 5 1
    ∷ run 5 3 4 ((3029, 0) ∷ (3029, 1) ∷ []) ((2, 2, 2) ∷ []) 2 1
    ∷ run 6 5 1 ((5962, 0) ∷ (5962, 1) ∷ []) ((3, 2, 2) ∷ []) 5 1
    ∷ run 9 2 9 ((6026, 0) ∷ (6026, 1) ∷ []) ((1, 2, 2) ∷ []) 1 1
    ∷ run 7 3 2 ((6102, 0) ∷ (6102, 1) ∷ []) ((1, 2, 1) ∷ []) 3 1
    ∷ run 7 3 1 ((2038, 0) ∷ (2038, 1) ∷ []) ((1, 2, 1) ∷ []) 3 1
    ∷ run 8 1 7 ((9581, 0) ∷ (9581, 1) ∷ []) ((1, 1, 2) ∷ []) 1 1
    ∷ run 7 1 2 ((9549, 0) ∷ (9549, 1) ∷ []) ((1, 1, 2) ∷ []) 1 1
    ∷ run 9 3 7 ((28330, 0) ∷ (7102, 0) ∷ (7102, 1) ∷ []) ((3, 2, 2) ∷ (6, 1, 2) ∷ []) 5 1
    ∷ run 6 5 2 ((32758, 0) ∷ (7598, 0) ∷ (7598, 1) ∷ []) ((3, 1, 2) ∷ (1, 2, 1) ∷ []) 3 1
    ∷ run 8 4 6 ((11098, 0) ∷ (15321, 0) ∷ (13994, 0) ∷ (10926, 1) ∷ []) ((3, 2, 1) ∷ (5, 1, 2) ∷ (4, 1, 2) ∷ []) 4 1
    ∷ run 9 9 5 ((13677, 0) ∷ (13677, 0) ∷ (21834, 0) ∷ (23894, 1) ∷ []) ((7, 1, 2) ∷ (5, 2, 1) ∷ (6, 2, 1) ∷ []) 7 1
    ∷ run 8 1 6 ((13692, 0) ∷ (19158, 0) ∷ (23418, 0) ∷ (11608, 1) ∷ []) ((1, 2, 1) ∷ (3, 1, 2) ∷ (2, 1, 2) ∷ []) 2 1
    ∷ run 7 4 1 ((28006, 0) ∷ (28006, 0) ∷ (30421, 0) ∷ (30133, 1) ∷ []) ((3, 1, 2) ∷ (1, 2, 1) ∷ (2, 2, 1) ∷ []) 3 1
    ∷ run 9 5 9 ((15214, 0) ∷ (11115, 0) ∷ (15085, 0) ∷ (5291, 0) ∷ (25975, 1) ∷ []) ((5, 2, 1) ∷ (7, 1, 2) ∷ (6, 1, 1) ∷ (7, 1, 1) ∷ []) 8 1
    ∷ []

abbrev pub RecordedRuns : Type 0
RecordedRuns = all runs ≡ true
