-- dtrexc's loops, for any form and whatever DLAEXC does, go at most N times round. Assumes nothing.
use Prim.Native.Nat.{ℕ, zero, suc, ◌+◌, ◌-◌, ◌≤◌, ◌<◌}
use native.Mathlib.Nat.{add-zero, add-suc}
use native.Mathlib.Omega.{arith}
use mathlib.Core.Path.{◌≡◌, refl, ap, ◌∙◌}
use mathlib.Core.Bool.{Bool, true, false, ◌&&◌, ◌||◌, cond}
use mathlib.Core.List.{[]}
use lib.Dec.{eqb, ltb, leb}
use borrow.Author.Tests.{ltb-true}
use Rattle.laws_dtrexc.specs.Dtrexc.{Routines, Variables, Control, goes, returns, ◌>>=◌, NE, call, to_row, call_or_return, breaks, below, below3_past2, below3, label10, above, above3_past2, above3, label20, updated, first_of, size_of, dtrexc_by, dtrexc}
use Rattle.laws_dtrexc.specs.Choice.{RoundsSuffice}

-- NBNEXT is 1 or 2
some : (b : Bool) → 1 ≤ cond b 2 1
some true = omega arith
some false = omega arith

module _ {Form : Type 0} where
  -- where control goes on, it does so with variables of which P holds
  abbrev On : (Variables Form → Type 0) → Control Form → Type 0
  On P (goes v) = P v
  On P (returns v) = Unit {0}

  on_bind : (P Q : Variables Form → Type 0) (c : Control Form) (k : Variables Form → Control Form) → On P c → ((v : Variables Form) → P v → On Q (k v)) → On Q (c >>= k)
  on_bind P Q (goes v) k h g = g v h
  on_bind P Q (returns v) k h g = tt

  on_cond : (P : Variables Form → Type 0) (b : Bool) (x y : Control Form) → On P x → On P y → On P (cond b x y)
  on_cond P true x y h k = h
  on_cond P false x y h k = k

  bind_same : (P : Variables Form → Type 0) (c : Control Form) (k l : Variables Form → Control Form) → On P c → ((v : Variables Form) → P v → k v ≡ l v) → (c >>= k) ≡ (c >>= l)
  bind_same P (goes v) k l h g = g v h
  bind_same P (returns v) k l h g = refl

  cond_same : (b : Bool) (x y z : Control Form) → (b ≡ true → x ≡ y) → cond b x z ≡ cond b y z
  cond_same true x y z h = h refl
  cond_same false x y z h = refl

  -- the same row and goal as in v; a lower row; a higher one
  pub record Still (v w : Variables Form) : Type 0 where
    pub row : w.HERE ≡ v.HERE
    pub goal : w.ILST ≡ v.ILST

  pub record Lower (v w : Variables Form) : Type 0 where
    pub row : v.HERE < w.HERE
    pub goal : w.ILST ≡ v.ILST

  pub record Higher (v w : Variables Form) : Type 0 where
    pub row : w.HERE < v.HERE
    pub goal : w.ILST ≡ v.ILST

  lower : (v w : Variables Form) → Still v w → (c : Control Form) → On (Lower w) c → On (Lower v) c
  lower v w h (goes x) k = let e = h.row in let g = k.row in record { row = omega arith; goal = k.goal ∙ h.goal }
  lower v w h (returns x) k = tt

  higher : (v w : Variables Form) → Still v w → (c : Control Form) → On (Higher w) c → On (Higher v) c
  higher v w h (goes x) k = let e = h.row in let g = k.row in record { row = omega arith; goal = k.goal ∙ h.goal }
  higher v w h (returns x) k = tt

module _ {Form : Type 0} (r : Routines Form) where
  calls : (J1 N1 N2 : ℕ) (v : Variables Form) → On (Still v) (call_or_return r J1 N1 N2 v)
  unfolding call_or_return call
  calls J1 N1 N2 v = on_cond (Still v) (eqb (r.dlaexc v.T J1 N1 N2).INFO 0) _ _ (record { row = refl; goal = refl }) tt

  -- ---- label 10

  module _ (N : ℕ) where
    below-lower : (v : Variables Form) → On (Lower v) (below r N v)
    unfolding below breaks to_row
    below-lower v =
        let b = leb (v.HERE + v.NBF + 1) N && NE r v.T (v.HERE + v.NBF + 1) (v.HERE + v.NBF) in
        let next : ℕ = cond b 2 1 in
        let k = some b in
        on_bind (Still v) (Lower v) (call_or_return r v.HERE v.NBF next v) (λ w. goes (breaks r (to_row (w.HERE + next) w))) (calls _ _ _ v)
        (λ w h. let e = h.row in record { row = omega arith; goal = h.goal })

    past_lower : (v : Variables Form) → On (Lower v) (below3_past2 r N v)
    unfolding below3_past2 call to_row
    past_lower v =
        let next : ℕ = cond (r.is_zero v.T (v.HERE + 2) (v.HERE + 1)) 1 2 in
        on_cond (Lower v) (eqb next 2) _ _
        (on_bind (Still v) (Lower v) (call_or_return r v.HERE 1 next v) (λ w. goes (to_row (w.HERE + 2) w)) (calls _ _ _ v) (λ w h. let e = h.row in record { row = omega arith; goal = h.goal }))
        (record { row = omega arith; goal = refl })

    apart-lower : (v : Variables Form) → On (Lower v) (below3 r N v)
    unfolding below3 call to_row
    apart-lower v =
        let next : ℕ = cond (leb (v.HERE + 3) N && NE r v.T (v.HERE + 3) (v.HERE + 2)) 2 1 in
        on_bind (Still v) (Lower v) (call_or_return r (v.HERE + 1) 1 next v)
        (λ w. cond (eqb next 1) (let x = call r w.HERE 1 next w in goes (to_row (x.HERE + 1) x)) (below3_past2 r N w)) (calls _ _ _ v)
        (λ w h. let e = h.row in on_cond (Lower v) (eqb next 1) _ _ (record { row = omega arith; goal = h.goal }) (lower v w h (below3_past2 r N w) (past_lower w)))

    round-lower : (v : Variables Form) → On (Lower v) (cond (eqb v.NBF 1 || eqb v.NBF 2) (below r N v) (below3 r N v))
    round-lower v = on_cond (Lower v) (eqb v.NBF 1 || eqb v.NBF 2) _ _ (below-lower v) (apart-lower v)

    -- one time more changes nothing
    more-down : (k : ℕ) (v : Variables Form) → 1 ≤ k → v.ILST ≤ v.HERE + k → label10 r N (suc k) v ≡ label10 r N k v
    unfolding label10
    more-down zero v l g = absurd (omega arith)
    more-down (suc k) v l g =
        bind_same (Lower v) (cond (eqb v.NBF 1 || eqb v.NBF 2) (below r N v) (below3 r N v)) _ _ (round-lower v)
        (λ w h. cond_same (ltb w.HERE w.ILST) _ _ (goes w)
        (λ e. let o = ltb-true w.HERE w.ILST e in let a = h.row in let b = h.goal in more-down k w (omega arith) (omega arith)))

    enough_down : (k d : ℕ) (v : Variables Form) → 1 ≤ k → v.ILST ≤ v.HERE + k → label10 r N (k + d) v ≡ label10 r N k v
    enough_down k zero v l g = rw (add-zero k)
    enough_down k (suc d) v l g = rw (add-suc k d) (more-down (k + d) v (omega arith) (omega arith) ∙ enough_down k d v l g)

  -- ---- label 20

  above_higher : (v : Variables Form) → 1 ≤ v.HERE → On (Higher v) (above r v)
  unfolding above breaks to_row
  above_higher v l =
      let b = leb 3 v.HERE && NE r v.T (v.HERE - 1) (v.HERE - 2) in
      let next : ℕ = cond b 2 1 in
      let k = some b in
      on_bind (Still v) (Higher v) (call_or_return r (v.HERE - next) next v.NBF v) (λ w. goes (breaks r (to_row (w.HERE - next) w))) (calls _ _ _ v)
      (λ w h. let e = h.row in record { row = omega arith; goal = h.goal })

  past_higher : (v : Variables Form) → 1 ≤ v.HERE → On (Higher v) (above3_past2 r v)
  unfolding above3_past2 call to_row
  past_higher v l =
      let next : ℕ = cond (r.is_zero v.T v.HERE (v.HERE - 1)) 1 2 in
      on_cond (Higher v) (eqb next 2) _ _
      (on_bind (Still v) (Higher v) (call_or_return r (v.HERE - 1) 2 1 v) (λ w. goes (to_row (w.HERE - 2) w)) (calls _ _ _ v) (λ w h. let e = h.row in record { row = omega arith; goal = h.goal }))
      (record { row = omega arith; goal = refl })

  apart_higher : (v : Variables Form) → 1 ≤ v.HERE → On (Higher v) (above3 r v)
  unfolding above3 call to_row
  apart_higher v l =
      let next : ℕ = cond (leb 3 v.HERE && NE r v.T (v.HERE - 1) (v.HERE - 2)) 2 1 in
      on_bind (Still v) (Higher v) (call_or_return r (v.HERE - next) next 1 v)
      (λ w. cond (eqb next 1) (let x = call r w.HERE next 1 w in goes (to_row (x.HERE - 1) x)) (above3_past2 r w)) (calls _ _ _ v)
      (λ w h. let e = h.row in on_cond (Higher v) (eqb next 1) _ _ (record { row = omega arith; goal = h.goal }) (higher v w h (above3_past2 r w) (past_higher w (omega arith))))

  round_higher : (v : Variables Form) → 1 ≤ v.HERE → On (Higher v) (cond (eqb v.NBF 1 || eqb v.NBF 2) (above r v) (above3 r v))
  round_higher v l = on_cond (Higher v) (eqb v.NBF 1 || eqb v.NBF 2) _ _ (above_higher v l) (apart_higher v l)

  more_up : (k : ℕ) (v : Variables Form) → 1 ≤ k → 1 ≤ v.HERE → v.HERE ≤ v.ILST + k → label20 r (suc k) v ≡ label20 r k v
  unfolding label20
  more_up zero v l p g = absurd (omega arith)
  more_up (suc k) v l p g =
      bind_same (Higher v) (cond (eqb v.NBF 1 || eqb v.NBF 2) (above r v) (above3 r v)) _ _ (round_higher v p)
      (λ w h. cond_same (ltb w.ILST w.HERE) _ _ (goes w)
      (λ e. let o = ltb-true w.ILST w.HERE e in let a = h.row in let b = h.goal in more_up k w (omega arith) (omega arith) (omega arith)))

  enough_up : (k d : ℕ) (v : Variables Form) → 1 ≤ k → 1 ≤ v.HERE → v.HERE ≤ v.ILST + k → label20 r (k + d) v ≡ label20 r k v
  enough_up k zero v l p g = rw (add-zero k)
  enough_up k (suc d) v l p g = rw (add-suc k d) (more_up (k + d) v (omega arith) p (omega arith) ∙ enough_up k d v l p g)

  -- ---- the whole

  module _ (N : ℕ) (T : Form) where
    first_in : (ROW : ℕ) → 1 ≤ ROW → ROW ≤ N → (1 ≤ first_of r N T ROW) × (first_of r N T ROW ≤ N)
    unfolding first_of
    first_in ROW l h = go (ltb 1 ROW) (NE r T ROW (ROW - 1)) refl
      where
        go : (a b : Bool) → ltb 1 ROW ≡ a → (1 ≤ cond (a && b) (ROW - 1) ROW) × (cond (a && b) (ROW - 1) ROW ≤ N)
        go true true e = let k = ltb-true 1 ROW e in (omega arith, omega arith)
        go true false e = (l, h)
        go false b e = (l, h)

    updated_le : (NBF NBL ILST : ℕ) → updated NBF NBL ILST ≤ ILST + 1
    unfolding updated
    updated_le NBF NBL ILST = go (eqb NBF 2 && eqb NBL 1) (eqb NBF 1 && eqb NBL 2)
      where
        go : (a b : Bool) → cond b (cond a (ILST - 1) ILST + 1) (cond a (ILST - 1) ILST) ≤ ILST + 1
        go true true = omega arith
        go true false = omega arith
        go false true = omega arith
        go false false = omega arith

    enough : (d IFST ILST : ℕ) → 1 ≤ IFST → IFST ≤ N → 1 ≤ ILST → ILST ≤ N → dtrexc_by r N (N + d) T IFST ILST ≡ dtrexc_by r N N T IFST ILST
    unfolding dtrexc_by
    enough d IFST ILST a b e g =
        let x = first_of r N T IFST in
        let y = first_of r N T ILST in
        let z = updated (size_of r N T x) (size_of r N T y) y in
        let p = first_in IFST a b in
        let q = first_in ILST e g in
        let u = updated_le (size_of r N T x) (size_of r N T y) y in
        rw (
          enough_down N N d (record { T = T; ILST = z; HERE = x; NBF = size_of r N T x; INFO = 0; calls = [] }) (omega arith) (omega arith),
          enough_up N d (record { T = T; ILST = y; HERE = x; NBF = size_of r N T x; INFO = 0; calls = [] }) (omega arith) p.0 (omega arith),
        )

pub rounds_suffice : RoundsSuffice
unfolding dtrexc
rounds_suffice Form r N k T IFST ILST a b e g h =
    let q : k ≡ N + (k - N) = omega arith in
    ap (λ (x : ℕ). dtrexc_by r N x T IFST ILST) q ∙ enough r N T (k - N) IFST ILST a b e g
