-- LAPACK's dtrexc (SRC/dtrexc.f of reference LAPACK 3.11.0): the control, that is, which calls of DLAEXC it makes. Rows count from 1, and the names are LAPACK's. Definitions only. Assumes nothing.
-- The form is of any type: what dtrexc asks of it are the two fields of `Routines`. Q, WORK and the tests of the arguments have no part in the control and are left out.
use Rattle.std.specs.Prelude.{ℕ, zero, suc, ◌+◌, ◌-◌, Bool, not, ◌&&◌, ◌||◌, cond, List, [], ◌∷◌, ◌++◌, eqb, ltb, leb}

-- ---- what dtrexc rests on

-- what DLAEXC leaves
pub record Exchanged (Form : Type 0) : Type 0 where
  pub T : Form
  pub INFO : ℕ

-- is_zero is the test T( I, J ).EQ.ZERO of T, I and J, and dlaexc the CALL DLAEXC( .., T, .., J1, N1, N2, .., INFO ) of T, J1, N1 and N2
pub record Routines (Form : Type 0) : Type 0 where
  pub is_zero : Form → ℕ → ℕ → Bool
  pub dlaexc : Form → ℕ → ℕ → ℕ → Exchanged Form

-- ---- its variables, and where control goes

-- a call of DLAEXC: the N1 rows from row J1 on with the N2 below them
pub record Call : Type 0 where
  pub J1 : ℕ
  pub N1 : ℕ
  pub N2 : ℕ

-- the variables that change on the way, and the calls made, in order
pub record Variables (Form : Type 0) : Type 0 where
  pub T : Form
  pub ILST : ℕ
  pub HERE : ℕ
  pub NBF : ℕ
  pub INFO : ℕ
  pub calls : List Call

-- control goes on to the next statement, or RETURN was met
pub data Control (Form : Type 0) : Type 0 where
  goes : Variables Form → Control Form
  returns : Variables Form → Control Form

infixl 20 ◌>>=◌
abbrev pub ◌>>=◌ : {Form : Type 0} → Control Form → (Variables Form → Control Form) → Control Form
◌>>=◌ (goes v) rest = rest v
◌>>=◌ (returns v) rest = returns v

-- what the caller has back
pub record Returned (Form : Type 0) : Type 0 where
  pub T : Form
  pub ILST : ℕ
  pub INFO : ℕ
  pub calls : List Call

-- ---- single statements

-- ILST = HERE
unfoldable pub ilst_here : {Form : Type 0} → Variables Form → Variables Form
ilst_here v = record { T = v.T; ILST = v.HERE; HERE = v.HERE; NBF = v.NBF; INFO = v.INFO; calls = v.calls }

-- HERE = ROW
unfoldable pub to_row : {Form : Type 0} → ℕ → Variables Form → Variables Form
to_row ROW v = record { T = v.T; ILST = v.ILST; HERE = ROW; NBF = v.NBF; INFO = v.INFO; calls = v.calls }

module _ {Form : Type 0} (r : Routines Form) where
  -- T( I, J ).NE.ZERO
  abbrev pub NE : Form → ℕ → ℕ → Bool
  NE T I J = not (r.is_zero T I J)

  -- CALL DLAEXC( .., J1, N1, N2, .., INFO )
  unfoldable pub call : ℕ → ℕ → ℕ → Variables Form → Variables Form
  call J1 N1 N2 v =
      let e = r.dlaexc v.T J1 N1 N2 in
      record { T = e.T; ILST = v.ILST; HERE = v.HERE; NBF = v.NBF; INFO = e.INFO; calls = v.calls ++ (record { J1 = J1; N1 = N1; N2 = N2 } ∷ []) }

  -- the same call, and then IF( INFO.NE.0 ) THEN ILST = HERE, RETURN
  unfoldable pub call_or_return : ℕ → ℕ → ℕ → Variables Form → Control Form
  call_or_return J1 N1 N2 v =
      let w = call J1 N1 N2 v in
      cond (eqb w.INFO 0) (goes w) (returns (ilst_here w))

  -- IF( NBF.EQ.2 ) THEN IF( T( HERE+1, HERE ).EQ.ZERO ) NBF = 3
  unfoldable pub breaks : Variables Form → Variables Form
  breaks v =
      record {
        T = v.T;
        ILST = v.ILST;
        HERE = v.HERE;
        NBF = cond (eqb v.NBF 2 && r.is_zero v.T (v.HERE + 1) v.HERE) 3 v.NBF;
        INFO = v.INFO;
        calls = v.calls;
      }

-- ---- label 10: swap block with next one below

module _ {Form : Type 0} (r : Routines Form) (N : ℕ) where
  -- current block either 1 by 1 or 2 by 2
  unfoldable pub below : Variables Form → Control Form
  below v =
      let NBNEXT : ℕ = cond (leb (v.HERE + v.NBF + 1) N && NE r v.T (v.HERE + v.NBF + 1) (v.HERE + v.NBF)) 2 1 in
      do
        w ← call_or_return r v.HERE v.NBF NBNEXT v
        goes (breaks r (to_row (w.HERE + NBNEXT) w))

  -- two 1 by 1 blocks, of which the lower has passed a 2 by 2 block: recompute NBNEXT in case 2 by 2 split
  unfoldable pub below3_past2 : Variables Form → Control Form
  below3_past2 v =
      let NBNEXT : ℕ = cond (r.is_zero v.T (v.HERE + 2) (v.HERE + 1)) 1 2 in
      cond (eqb NBNEXT 2)
      (do
        w ← call_or_return r v.HERE 1 NBNEXT v
        goes (to_row (w.HERE + 2) w))
      (let w = call r v.HERE 1 1 v in
      let x = call r (w.HERE + 1) 1 1 w in
      goes (to_row (x.HERE + 2) x))

  -- current block consists of two 1 by 1 blocks, each of which must be swapped individually
  unfoldable pub below3 : Variables Form → Control Form
  below3 v =
      let NBNEXT : ℕ = cond (leb (v.HERE + 3) N && NE r v.T (v.HERE + 3) (v.HERE + 2)) 2 1 in
      do
        w ← call_or_return r (v.HERE + 1) 1 NBNEXT v
        cond (eqb NBNEXT 1) (let x = call r w.HERE 1 NBNEXT w in goes (to_row (x.HERE + 1) x)) (below3_past2 w)

  -- IF( NBF.EQ.1.OR. NBF.EQ.2 ) .., to IF( HERE.LT.ILST ) GO TO 10, at most so many times round
  unfoldable pub label10 : ℕ → Variables Form → Control Form
  label10 zero v = goes v
  label10 (suc k) v = do
    w ← cond (eqb v.NBF 1 || eqb v.NBF 2) (below v) (below3 v)
    cond (ltb w.HERE w.ILST) (label10 k w) (goes w)

-- ---- label 20: swap block with next one above

module _ {Form : Type 0} (r : Routines Form) where
  -- current block either 1 by 1 or 2 by 2
  unfoldable pub above : Variables Form → Control Form
  above v =
      let NBNEXT : ℕ = cond (leb 3 v.HERE && NE r v.T (v.HERE - 1) (v.HERE - 2)) 2 1 in
      do
        w ← call_or_return r (v.HERE - NBNEXT) NBNEXT v.NBF v
        goes (breaks r (to_row (w.HERE - NBNEXT) w))

  -- two 1 by 1 blocks, of which the upper has passed a 2 by 2 block: recompute NBNEXT in case 2 by 2 split
  unfoldable pub above3_past2 : Variables Form → Control Form
  above3_past2 v =
      let NBNEXT : ℕ = cond (r.is_zero v.T v.HERE (v.HERE - 1)) 1 2 in
      cond (eqb NBNEXT 2)
      (do
        w ← call_or_return r (v.HERE - 1) 2 1 v
        goes (to_row (w.HERE - 2) w))
      (let w = call r v.HERE 1 1 v in
      let x = call r (w.HERE - 1) 1 1 w in
      goes (to_row (x.HERE - 2) x))

  -- current block consists of two 1 by 1 blocks, each of which must be swapped individually
  unfoldable pub above3 : Variables Form → Control Form
  above3 v =
      let NBNEXT : ℕ = cond (leb 3 v.HERE && NE r v.T (v.HERE - 1) (v.HERE - 2)) 2 1 in
      do
        w ← call_or_return r (v.HERE - NBNEXT) NBNEXT 1 v
        cond (eqb NBNEXT 1) (let x = call r w.HERE NBNEXT 1 w in goes (to_row (x.HERE - 1) x)) (above3_past2 w)

  -- IF( NBF.EQ.1.OR. NBF.EQ.2 ) .., to IF( HERE.GT.ILST ) GO TO 20, at most so many times round
  unfoldable pub label20 : ℕ → Variables Form → Control Form
  label20 zero v = goes v
  label20 (suc k) v = do
    w ← cond (eqb v.NBF 1 || eqb v.NBF 2) (above v) (above3 v)
    cond (ltb w.ILST w.HERE) (label20 k w) (goes w)

-- ---- the whole

-- RETURN. At the end of the text ILST = HERE stands before it
unfoldable pub returned : {Form : Type 0} → Control Form → Returned Form
returned (goes v) = record { T = v.T; ILST = v.HERE; INFO = v.INFO; calls = v.calls }
returned (returns v) = record { T = v.T; ILST = v.ILST; INFO = v.INFO; calls = v.calls }

-- Going down: IF( NBF.EQ.2.AND. NBL.EQ.1 ) ILST = ILST - 1, and then IF( NBF.EQ.1.AND. NBL.EQ.2 ) ILST = ILST + 1
unfoldable pub updated : ℕ → ℕ → ℕ → ℕ
updated NBF NBL ILST =
    let ILST' = cond (eqb NBF 2 && eqb NBL 1) (ILST - 1) ILST in
    cond (eqb NBF 1 && eqb NBL 2) (ILST' + 1) ILST'

module _ {Form : Type 0} (r : Routines Form) (N : ℕ) where
  -- IF( IFST.GT.1 ) THEN IF( T( IFST, IFST-1 ).NE.ZERO ) IFST = IFST - 1, and the same of ILST
  unfoldable pub first_of : Form → ℕ → ℕ
  first_of T ROW = cond (ltb 1 ROW && NE r T ROW (ROW - 1)) (ROW - 1) ROW

  -- NBF = 1, IF( IFST.LT.N ) THEN IF( T( IFST+1, IFST ).NE.ZERO ) NBF = 2, and the same of NBL and ILST
  unfoldable pub size_of : Form → ℕ → ℕ
  size_of T ROW = cond (ltb ROW N && NE r T (ROW + 1) ROW) 2 1

  -- with each loop at most k times round
  unfoldable pub dtrexc_by : ℕ → Form → ℕ → ℕ → Returned Form
  dtrexc_by k T IFST₀ ILST₀ =
      let IFST = first_of T IFST₀ in
      let NBF = size_of T IFST in
      let ILST = first_of T ILST₀ in
      let NBL = size_of T ILST in
      cond (leb N 1) (record { T = T; ILST = ILST₀; INFO = 0; calls = [] })
      (cond (eqb IFST ILST) (record { T = T; ILST = ILST; INFO = 0; calls = [] })
      (cond (ltb IFST ILST)
      (returned (label10 r N k (record { T = T; ILST = updated NBF NBL ILST; HERE = IFST; NBF = NBF; INFO = 0; calls = [] })))
      (returned (label20 r k (record { T = T; ILST = ILST; HERE = IFST; NBF = NBF; INFO = 0; calls = [] })))))

  -- N times round is always enough
  unfoldable pub dtrexc : Form → ℕ → ℕ → Returned Form
  dtrexc T IFST ILST = dtrexc_by N T IFST ILST
