-- dtrexc, over any form and whatever DLAEXC does to it, does what is next at each place, up to the first call that fails. Assumes nothing.
use Prim.Native.Nat.{ℕ, zero, suc, ◌+◌, ◌-◌, ◌≤◌, ◌<◌}
use native.Mathlib.Decide.{dec_lt, ℕ_discrete}
use native.Mathlib.Omega.{arith}
use mathlib.Core.Path.{◌≡◌, refl, sym, ap, ◌∙◌}
use mathlib.Core.Logic.{inl, inr}
use mathlib.Core.Bool.{Bool, true, false, not, ◌&&◌, ◌||◌, cond}
use mathlib.Core.List.{List, [], ◌∷◌, ◌++◌, map, append-nil, append_assoc}
use lib.Dec.{eqb, ltb, leb}
use borrow.Author.Tests.{eqb-false, ltb-true, leb-true, lt-ltb, le-ltb, eq-eqb, ne_eqb}
use Rattle.model.specs.Move.{Exchange, goal_down}
use Rattle.laws_dtrexc.specs.Dtrexc.{Routines, Call, Variables, Control, goes, returns, ◌>>=◌, Returned, ilst_here, to_row, NE, call, call_or_return, breaks, below, below3_past2, below3, label10, above, above3_past2, above3, label20, returned, updated, first_of, size_of, dtrexc_by, dtrexc}
use Rattle.laws_dtrexc.specs.Choice.{as_call}
use Rattle.laws_dtrexc.specs.Zeros.{Zeros, first_by, size_by, above_by, Place, between, past_one, past_two, half_past, takes, ended, rows, lower, upper, splits, next, start, reached, left}
use Rattle.laws_dtrexc.proofs.Seen.{guard, guard_above, ltb_next}
use Rattle.laws_dtrexc.proofs.Kept.{kind}
use Rattle.laws_dtrexc.proofs.Next
use Rattle.laws_dtrexc.proofs.Next.{Settled, settled_three, settled_split, settled_size, split_in, size_cases, above_cases}
use Rattle.laws_dtrexc.proofs.Follow.{Follows, Good, follows_as, ends, ends_more, ends_as}

module _ {Form : Type 0} (r : Routines Form) (n : ℕ) where
  abbrev pub tests : Form → Zeros
  tests T j = r.is_zero T (j + 2) (j + 1)

  abbrev pub leaves : Form → Exchange → Form
  leaves T e = (r.dlaexc T (e.row + 1) e.n1 e.n2).T

  abbrev pub fails : Form → Exchange → ℕ
  fails T e = (r.dlaexc T (e.row + 1) e.n1 e.n2).INFO

  abbrev pub Theirs : Place → Form → List Exchange → Type 0
  Theirs p T es = Follows n tests leaves fails p T es

  -- its variables, with our rows
  abbrev vars : Form → ℕ → ℕ → ℕ → ℕ → List Call → Variables Form
  vars T goal h b i cs = record { T = T; ILST = goal + 1; HERE = h + 1; NBF = b; INFO = i; calls = cs }

  -- after the calls cs, and what came on follows from the place p and the form T on
  pub record Runs (p : Place) (T : Form) (cs : List Call) (c : Control Form) : Type 0 where
    pub es : List Exchange
    pub calls : (returned c).calls ≡ cs ++ map as_call es
    pub form : (returned c).T ≡ left r T (map as_call es)
    pub follows : Theirs p T es
    pub landed : Good n tests leaves fails T es → (returned c).ILST ≡ ends n tests leaves fails p T es + 1

  more : (p q : Place) (T : Form) (cs : List Call) (e : Exchange) (c : Control Form) → next n p (tests T) ≡ takes e q → Runs q (leaves T e) (cs ++ (as_call e ∷ [])) c → Runs p T cs c
  unfolding left
  more p q T cs e c h k =
      record {
        es = e ∷ k.es;
        calls = k.calls ∙ append_assoc cs (as_call e ∷ []) (map as_call k.es);
        form = k.form;
        follows = (q, h, λ _. k.follows);
        landed = λ g. k.landed g.1 ∙ ap (λ (x : ℕ). x + 1) (sym (ends_more n tests leaves fails p q T e k.es h));
      }

  over : (p : Place) (v : Variables Form) → v.HERE ≡ p.here + 1 → next n p (tests v.T) ≡ ended → Runs p v.T v.calls (goes v)
  unfolding left returned reached
  over p v e h = record { es = []; calls = sym (append-nil v.calls); form = refl; follows = h; landed = λ _. e }

  runs_as : (p q : Place) (T : Form) (cs : List Call) (c : Control Form) → p.here ≡ q.here → next n p (tests T) ≡ next n q (tests T) → Runs q T cs c → Runs p T cs c
  runs_as p q T cs c i e k =
      record {
        es = k.es;
        calls = k.calls;
        form = k.form;
        follows = follows_as n tests leaves fails p q T k.es e k.follows;
        landed = λ g. k.landed g ∙ ap (λ (x : ℕ). x + 1) (sym (ends_as n tests leaves fails p q T k.es i e k.follows));
      }

  -- a call that is not asked how it went
  called : (e : Exchange) (J1 : ℕ) → J1 ≡ e.row + 1 → (T : Form) (goal h b i : ℕ) (cs : List Call) → call r J1 e.n1 e.n2 (vars T goal h b i cs) ≡ vars (leaves T e) goal h b (fails T e) (cs ++ (as_call e ∷ []))
  unfolding call
  called e J1 q T goal h b i cs = rw q

  -- and one that is
  calling : (p q : Place) (e : Exchange) (J1 : ℕ) → J1 ≡ e.row + 1 → (T : Form) (goal h b i : ℕ) (cs : List Call) (F K : Variables Form → Control Form) → next n p (tests T) ≡ takes e q
      → Runs q (leaves T e) (cs ++ (as_call e ∷ [])) (F (vars (leaves T e) goal h b (fails T e) (cs ++ (as_call e ∷ []))) >>= K) → Runs p T cs ((call_or_return r J1 e.n1 e.n2 (vars T goal h b i cs) >>= F) >>= K)
  unfolding call_or_return left returned ilst_here
  calling p q e J1 x T goal h b i cs F K y k = rw (called e J1 x T goal h b i cs) (go (eqb (fails T e) 0) refl)
    where
      w : Variables Form
      w = vars (leaves T e) goal h b (fails T e) (cs ++ (as_call e ∷ []))

      go : (b : Bool) → eqb (fails T e) 0 ≡ b → Runs p T cs ((cond b (goes w) (returns (ilst_here w)) >>= F) >>= K)
      go true z = more p q T cs e (F w >>= K) y k
      go false z = record { es = e ∷ []; calls = refl; form = refl; follows = (q, y, λ g. absurd (eqb-false (fails T e) 0 z g)); landed = λ g. absurd (eqb-false (fails T e) 0 z g.0) }

  -- ---- its tests are those of the zeros

  zero-at : (T : Form) (I J j : ℕ) → I ≡ j + 2 → J ≡ j + 1 → r.is_zero T I J ≡ tests T j
  zero-at T I J j p q = rw (p, q)

  size-of : (T : Form) (I J j : ℕ) → I ≡ j + 2 → J ≡ j + 1 → cond (leb I n && NE r T I J) 2 1 ≡ size_by n (tests T) j
  unfolding size_by
  size-of T I J j p q =
      let e : I ≡ suc (j + 1) = omega arith in
      rw (zero-at T I J j p q) (ap (λ (k : ℕ). cond (leb k n && not (tests T j)) 2 1) e)

  above_of : (T : Form) (p : ℕ) → cond (leb 3 (p + 1) && NE r T (p + 1 - 1) (p + 1 - 2)) 2 1 ≡ above_by (tests T) p
  unfolding above_by
  above_of T p =
      ap (λ (b : Bool). cond b 2 1)
      (guard _ _ _ _ (guard_above 2 p) (λ h. let l = leb-true 2 p h in ap not (zero-at T (p + 1 - 1) (p + 1 - 2) (p - 2) (omega arith) (omega arith))))

  -- HERE = ROW, and the test whether a 2 by 2 block breaks
  breaks-at : (T : Form) (goal h b i : ℕ) (cs : List Call) (ROW row : ℕ) → ROW ≡ row + 1 → breaks r (to_row ROW (vars T goal h b i cs)) ≡ vars T goal row (splits (tests T) row b) i cs
  unfolding breaks to_row splits
  breaks-at T goal h b i cs ROW row e = rw (e, zero-at T (row + 1 + 1) (row + 1) row (omega arith) refl)

  row_at : (T : Form) (goal h b i : ℕ) (cs : List Call) (ROW row : ℕ) → ROW ≡ row + 1 → to_row ROW (vars T goal h b i cs) ≡ vars T goal row b i cs
  unfolding to_row
  row_at T goal h b i cs ROW row e = rw e

  -- the block above has room there
  fits-above : (Z : Zeros) (h : ℕ) → 0 < h → above_by Z h ≤ h
  fits-above Z h l = elim (above_cases Z h) [ inl e ↦ omega (arith, e.0, e.1) | inr e ↦ omega arith ]

  module _ (goal : ℕ) (K : Variables Form → Control Form) where
    -- ---- label 10

    -- whatever comes after a time round that ends in a row further down
    abbrev Down : ℕ → Type 0
    Down h =
        (T : Form) (x b i : ℕ) (cs : List Call) → 1 ≤ b → b ≤ 3 → Settled (tests T) x b → h < x → Runs (lower goal x b between) T cs (K (vars T goal x b i cs))

    module _ (h b : ℕ) (low : 1 ≤ b) (high : b ≤ 3) where
      whole-down : (T : Form) (i : ℕ) (cs : List Call) → Settled (tests T) h b → ltb h goal ≡ true → eqb b 3 ≡ false → Down h → Runs (lower goal h b between) T cs (below r n (vars T goal h b i cs) >>= K)
      unfolding below
      whole-down T i cs s l e c =
          let k = size_by n (tests T) (h + b) in
          let d = rows h b k in
          let U = leaves T d in
          let p = split_in (tests U) (h + k) b low high in
          rw (size-of T (h + 1 + b + 1) (h + 1 + b) (h + b) (omega arith) (omega arith))
          (calling (lower goal h b between) (lower goal (h + k) b between) d (h + 1) refl T goal h b i cs (λ w. goes (breaks r (to_row (w.HERE + k) w))) K
          (Next.down-whole n (tests T) goal h b s l e k refl)
          (runs_as _ (lower goal (h + k) (splits (tests U) (h + k) b) between) U _ _ refl (Next.down-split n (tests U) goal (h + k) b)
          (rw (breaks-at U goal h b (fails T d) (cs ++ (as_call d ∷ [])) (h + 1 + k) (h + k) (omega arith))
          (c U (h + k) (splits (tests U) (h + k) b) (fails T d) _ p.0 p.1 (settled_split (tests U) (h + k) b) (omega (arith, Next.some_size n (tests T) (h + b)))))))

      past_down : (T : Form) (i : ℕ) (cs : List Call) → eqb b 3 ≡ true → Down h → Runs (lower goal h b past_two) T cs (below3_past2 r n (vars T goal h b i cs) >>= K)
      unfolding below3_past2
      past_down T i cs e c = go (tests T (h + 1)) refl
        where
          one : Exchange
          one = rows h 1 1

          two : Exchange
          two = rows (h + 1) 1 1

          both : Exchange
          both = rows h 1 2

          go : (q : Bool) → tests T (h + 1) ≡ q → Runs (lower goal h b past_two) T cs (below3_past2 r n (vars T goal h b i cs) >>= K)
          go true q =
              let U = leaves T one in
              let ds = cs ++ (as_call one ∷ []) in
              let W = leaves U two in
              rw (q, called one (h + 1) refl T goal h b i cs, called two (h + 1 + 1) refl U goal h b (fails T one) ds, row_at W goal h b (fails U two) (ds ++ (as_call two ∷ [])) (h + 1 + 2) (h + 2) (omega arith))
              (more _ (lower goal h b half_past) T cs one _ (Next.down_half n (tests T) goal h b q)
              (more _ (lower goal (h + 2) b between) U ds two _ (Next.down_rest n (tests U) goal h b) (c W (h + 2) b _ _ low high (settled_three _ (h + 2) b e) (omega arith))))
          go false q =
              let U = leaves T both in
              let ds = cs ++ (as_call both ∷ []) in
              rw q
              (calling _ (lower goal (h + 2) b between) both (h + 1) refl T goal h b i cs (λ w. goes (to_row (w.HERE + 2) w)) K (Next.down-two n (tests T) goal h b q)
              (rw (row_at U goal h b (fails T both) ds (h + 1 + 2) (h + 2) (omega arith)) (c U (h + 2) b _ _ low high (settled_three _ (h + 2) b e) (omega arith))))

      apart-down : (T : Form) (i : ℕ) (cs : List Call) → Settled (tests T) h b → ltb h goal ≡ true → eqb b 3 ≡ true → Down h → Runs (lower goal h b between) T cs (below3 r n (vars T goal h b i cs) >>= K)
      unfolding below3
      apart-down T i cs s l e c =
          let one = rows (h + 1) 1 1 in
          let two = rows (h + 1) 1 2 in
          let then = rows h 1 1 in
          let U = leaves T one in
          let ds = cs ++ (as_call one ∷ []) in
          let W = leaves U then in
          rw (size-of T (h + 1 + 3) (h + 1 + 2) (h + 2) (omega arith) (omega arith))
          (elim (size_cases n (tests T) (h + 2)) [
            | inl q ↦ rw q.0
                (calling _ (lower goal h b past_two) two (h + 1 + 1) refl T goal h b i cs (below3_past2 r n) K (Next.down-apart n (tests T) goal h b s l e 2 q.0) (past_down (leaves T two) _ _ e c))
            | inr q ↦ rw q
                (calling _ (lower goal h b past_one) one (h + 1 + 1) refl T goal h b i cs (λ w. let x = call r w.HERE 1 1 w in goes (to_row (x.HERE + 1) x)) K (Next.down-apart n (tests T) goal h b s l e 1 q)
                (rw (called then (h + 1) refl U goal h b (fails T one) ds, row_at W goal h b (fails U then) (ds ++ (as_call then ∷ [])) (h + 1 + 1) (h + 1) (omega arith))
                (more _ (lower goal (h + 1) b between) U ds then _ (Next.down-one n (tests U) goal h b) (c W (h + 1) b _ _ low high (settled_three _ (h + 1) b e) (omega arith)))))
          ])

      once-down : (T : Form) (i : ℕ) (cs : List Call) → Settled (tests T) h b → ltb h goal ≡ true → Down h
          → Runs (lower goal h b between) T cs (cond (eqb b 1 || eqb b 2) (below r n (vars T goal h b i cs)) (below3 r n (vars T goal h b i cs)) >>= K)
      once-down T i cs s l c = elim (kind b low high) [ inl e ↦ rw e.1 (apart-down T i cs s l e.0 c) | inr e ↦ rw e.1 (whole-down T i cs s l e.0 c) ]

    -- ---- label 20

    -- whatever comes after a time round that ends in a row further up
    abbrev Up : ℕ → Type 0
    Up h =
        (T : Form) (x b i : ℕ) (cs : List Call) → 1 ≤ b → b ≤ 3 → Settled (tests T) x b → x < h → Runs (upper goal x b between) T cs (K (vars T goal x b i cs))

    module _ (h b : ℕ) (low : 1 ≤ b) (high : b ≤ 3) where
      whole_up_lem : (T : Form) (i : ℕ) (cs : List Call) → Settled (tests T) h b → ltb goal h ≡ true → eqb b 3 ≡ false → Up h → Runs (upper goal h b between) T cs (above r (vars T goal h b i cs) >>= K)
      unfolding above
      whole_up_lem T i cs s l e c =
          let k = above_by (tests T) h in
          let d = rows (h - k) k b in
          let U = leaves T d in
          let p = split_in (tests U) (h - k) b low high in
          let a = ltb-true goal h l in
          let f = fits-above (tests T) h (omega arith) in
          let g = Next.some-above (tests T) h in
          rw (above_of T h)
          (calling (upper goal h b between) (upper goal (h - k) b between) d (h + 1 - k) (omega arith) T goal h b i cs (λ w. goes (breaks r (to_row (w.HERE - k) w))) K
          (Next.up_whole_lem n (tests T) goal h b s l e k refl)
          (runs_as _ (upper goal (h - k) (splits (tests U) (h - k) b) between) U _ _ refl (Next.up_split n (tests U) goal (h - k) b)
          (rw (breaks-at U goal h b (fails T d) (cs ++ (as_call d ∷ [])) (h + 1 - k) (h - k) (omega arith))
          (c U (h - k) (splits (tests U) (h - k) b) (fails T d) _ p.0 p.1 (settled_split (tests U) (h - k) b) (omega arith)))))

      past_up : (T : Form) (i : ℕ) (cs : List Call) → eqb b 3 ≡ true → 2 ≤ h → Up h → Runs (upper goal h b past_two) T cs (above3_past2 r (vars T goal h b i cs) >>= K)
      unfolding above3_past2
      past_up T i cs e a c = go (tests T (h - 1)) refl
        where
          one : Exchange
          one = rows h 1 1

          two : Exchange
          two = rows (h - 1) 1 1

          both : Exchange
          both = rows (h - 1) 2 1

          go : (q : Bool) → tests T (h - 1) ≡ q → Runs (upper goal h b past_two) T cs (above3_past2 r (vars T goal h b i cs) >>= K)
          go true q =
              let U = leaves T one in
              let ds = cs ++ (as_call one ∷ []) in
              let W = leaves U two in
              rw (
                zero-at T (h + 1) (h + 1 - 1) (h - 1) (omega arith) (omega arith),
                q,
                called one (h + 1) refl T goal h b i cs,
                called two (h + 1 - 1) (omega arith) U goal h b (fails T one) ds,
                row_at W goal h b (fails U two) (ds ++ (as_call two ∷ [])) (h + 1 - 2) (h - 2) (omega arith),
              )
              (more _ (upper goal h b half_past) T cs one _ (Next.up_half n (tests T) goal h b q)
              (more _ (upper goal (h - 2) b between) U ds two _ (Next.up_rest n (tests U) goal h b) (c W (h - 2) b _ _ low high (settled_three _ (h - 2) b e) (omega arith))))
          go false q =
              let U = leaves T both in
              let ds = cs ++ (as_call both ∷ []) in
              rw (zero-at T (h + 1) (h + 1 - 1) (h - 1) (omega arith) (omega arith), q)
              (calling _ (upper goal (h - 2) b between) both (h + 1 - 1) (omega arith) T goal h b i cs (λ w. goes (to_row (w.HERE - 2) w)) K (Next.up_two n (tests T) goal h b q)
              (rw (row_at U goal h b (fails T both) ds (h + 1 - 2) (h - 2) (omega arith)) (c U (h - 2) b _ _ low high (settled_three _ (h - 2) b e) (omega arith))))

      apart_up_lem : (T : Form) (i : ℕ) (cs : List Call) → Settled (tests T) h b → ltb goal h ≡ true → eqb b 3 ≡ true → Up h → Runs (upper goal h b between) T cs (above3 r (vars T goal h b i cs) >>= K)
      unfolding above3
      apart_up_lem T i cs s l e c =
          let one = rows (h - 1) 1 1 in
          let two = rows (h - 2) 2 1 in
          let then = rows h 1 1 in
          let U = leaves T one in
          let ds = cs ++ (as_call one ∷ []) in
          let W = leaves U then in
          let a = ltb-true goal h l in
          rw (above_of T h)
          (elim (above_cases (tests T) h) [
            | inl q ↦ let f = q.1 in rw q.0
                (calling _ (upper goal h b past_two) two (h + 1 - 2) (omega arith) T goal h b i cs (above3_past2 r) K (Next.up_apart_lem n (tests T) goal h b s l e 2 q.0) (past_up (leaves T two) _ _ e f c))
            | inr q ↦ rw q
                (calling _ (upper goal h b past_one) one (h + 1 - 1) (omega arith) T goal h b i cs (λ w. let x = call r w.HERE 1 1 w in goes (to_row (x.HERE - 1) x)) K (Next.up_apart_lem n (tests T) goal h b s l e 1 q)
                (rw (called then (h + 1) refl U goal h b (fails T one) ds, row_at W goal h b (fails U then) (ds ++ (as_call then ∷ [])) (h + 1 - 1) (h - 1) (omega arith))
                (more _ (upper goal (h - 1) b between) U ds then _ (Next.up_one n (tests U) goal h b) (c W (h - 1) b _ _ low high (settled_three _ (h - 1) b e) (omega arith)))))
          ])

      once_up : (T : Form) (i : ℕ) (cs : List Call) → Settled (tests T) h b → ltb goal h ≡ true → Up h
          → Runs (upper goal h b between) T cs (cond (eqb b 1 || eqb b 2) (above r (vars T goal h b i cs)) (above3 r (vars T goal h b i cs)) >>= K)
      once_up T i cs s l c = elim (kind b low high) [ inl e ↦ rw e.1 (apart_up_lem T i cs s l e.0 c) | inr e ↦ rw e.1 (whole_up_lem T i cs s l e.0 c) ]

  -- ---- the loops

  -- after a time round: to the label, or there
  after_down : (k goal : ℕ) (T : Form) (h b i : ℕ) (cs : List Call) → (ltb h goal ≡ true → Runs (lower goal h b between) T cs (label10 r n k (vars T goal h b i cs)))
      → Runs (lower goal h b between) T cs (cond (ltb (h + 1) (goal + 1)) (label10 r n k (vars T goal h b i cs)) (goes (vars T goal h b i cs)))
  after_down k goal T h b i cs again = rw (ltb_next h goal) (go (ltb h goal) refl)
    where
      go : (x : Bool) → ltb h goal ≡ x → Runs (lower goal h b between) T cs (cond x (label10 r n k (vars T goal h b i cs)) (goes (vars T goal h b i cs)))
      go true e = again e
      go false e = over _ (vars T goal h b i cs) refl (Next.down_there n (tests T) goal h b e)

  down_loop : (k goal : ℕ) (T : Form) (h b i : ℕ) (cs : List Call) → 1 ≤ b → b ≤ 3 → Settled (tests T) h b → goal ≤ h + k → ltb h goal ≡ true → Runs (lower goal h b between) T cs (label10 r n k (vars T goal h b i cs))
  unfolding label10
  down_loop zero goal T h b i cs low high s g l = let a = ltb-true h goal l in absurd (omega arith)
  down_loop (suc k) goal T h b i cs low high s g l =
      once-down goal (λ w. cond (ltb w.HERE w.ILST) (label10 r n k w) (goes w)) h b low high T i cs s l
      (λ U x c j ds low' high' s' q. after_down k goal U x c j ds (λ e. down_loop k goal U x c j ds low' high' s' (omega arith) e))

  after_up : (k goal : ℕ) (T : Form) (h b i : ℕ) (cs : List Call) → (ltb goal h ≡ true → Runs (upper goal h b between) T cs (label20 r k (vars T goal h b i cs)))
      → Runs (upper goal h b between) T cs (cond (ltb (goal + 1) (h + 1)) (label20 r k (vars T goal h b i cs)) (goes (vars T goal h b i cs)))
  after_up k goal T h b i cs again = rw (ltb_next goal h) (go (ltb goal h) refl)
    where
      go : (x : Bool) → ltb goal h ≡ x → Runs (upper goal h b between) T cs (cond x (label20 r k (vars T goal h b i cs)) (goes (vars T goal h b i cs)))
      go true e = again e
      go false e = over _ (vars T goal h b i cs) refl (Next.up_there n (tests T) goal h b e)

  up_loop : (k goal : ℕ) (T : Form) (h b i : ℕ) (cs : List Call) → 1 ≤ b → b ≤ 3 → Settled (tests T) h b → h ≤ goal + k → ltb goal h ≡ true → Runs (upper goal h b between) T cs (label20 r k (vars T goal h b i cs))
  unfolding label20
  up_loop zero goal T h b i cs low high s g l = let a = ltb-true goal h l in absurd (omega arith)
  up_loop (suc k) goal T h b i cs low high s g l =
      once_up goal (λ w. cond (ltb w.ILST w.HERE) (label20 r k w) (goes w)) h b low high T i cs s l
      (λ U x c j ds low' high' s' q. after_up k goal U x c j ds (λ e. up_loop k goal U x c j ds low' high' s' (omega arith) e))

  -- ---- the whole

  pub record Chosen (p : Place) (T : Form) (v : Returned Form) : Type 0 where
    pub es : List Exchange
    pub calls : v.calls ≡ map as_call es
    pub form : v.T ≡ left r T (map as_call es)
    pub follows : Theirs p T es
    pub landed : Good n tests leaves fails T es → v.ILST ≡ ends n tests leaves fails p T es + 1

  chosen : (p : Place) (T : Form) (c : Control Form) → Runs p T [] c → Chosen p T (returned c)
  chosen p T c k = record { es = k.es; calls = k.calls; form = k.form; follows = k.follows; landed = k.landed }

  stays : (p : Place) (T : Form) (ILST : ℕ) → ILST ≡ p.here + 1 → next n p (tests T) ≡ ended → Chosen p T (record { T = T; ILST = ILST; INFO = 0; calls = [] })
  unfolding left reached
  stays p T ILST e h = record { es = []; calls = refl; form = refl; follows = h; landed = λ _. e }

  module _ (T : Form) where
    -- IFST and ILST, back at the first row of the block
    first-of : (p : ℕ) → first_of r n T (p + 1) ≡ first_by (tests T) p + 1
    unfolding first_of first_by
    first-of p =
        ap (λ (b : Bool). cond b (p + 1 - 1) (p + 1))
        (guard (ltb 1 (p + 1)) (ltb 0 p) _ _ (guard_above 1 p) (λ h. let l = ltb-true 0 p h in ap not (zero-at T (p + 1) (p + 1 - 1) (p - 1) (omega arith) (omega arith))))
        ∙ back (ltb 0 p) (tests T (p - 1)) (ltb-true 0 p)
      where
        back : (b c : Bool) → (b ≡ true → 0 < p) → cond (b && not c) (p + 1 - 1) (p + 1) ≡ cond (b && not c) (p - 1) p + 1
        back true false h = let l = h refl in omega arith
        back true true h = refl
        back false c h = refl

    -- NBF and NBL
    block_of : (p : ℕ) → size_of r n T (p + 1) ≡ size_by n (tests T) p
    unfolding size_of size_by
    block_of p = rw (zero-at T (p + 1 + 1) (p + 1) p (omega arith) refl)

    -- going down, ILST is updated to the goal
    goal-of : (a b : ℕ) → a < b → updated (size_by n (tests T) a) (size_by n (tests T) b) (b + 1) ≡ goal_down (size_by n (tests T) a) (size_by n (tests T) b) b + 1
    unfolding updated goal_down
    goal-of a b l =
        elim (size_cases n (tests T) a) [
          | inl x ↦ elim (size_cases n (tests T) b) [ inl y ↦ rw (x.0, y.0) | inr y ↦ rw (x.0, y) (omega arith) ]
          | inr x ↦ elim (size_cases n (tests T) b) [ inl y ↦ rw (x, y.0) | inr y ↦ rw (x, y) ]
        ]

    -- dtrexc, once it knows the two first rows, and where it begins then
    runs : ℕ → ℕ → Returned Form
    runs a b =
        let NBF = size_by n (tests T) a in
        cond (eqb (a + 1) (b + 1)) (record { T = T; ILST = b + 1; INFO = 0; calls = [] })
        (cond (ltb (a + 1) (b + 1)) (returned (label10 r n n (record { T = T; ILST = updated NBF (size_by n (tests T) b) (b + 1); HERE = a + 1; NBF = NBF; INFO = 0; calls = [] })))
        (returned (label20 r n (vars T b a NBF 0 []))))

    begins : ℕ → ℕ → Place
    begins a b =
        let nbf = size_by n (tests T) a in
        cond (ltb a b) (lower (goal_down nbf (size_by n (tests T) b) b) a nbf between) (upper b a nbf between)

    dtrexc-runs : (from to : ℕ) → leb n 1 ≡ false → dtrexc r n T (from + 1) (to + 1) ≡ runs (first_by (tests T) from) (first_by (tests T) to)
    unfolding dtrexc dtrexc_by runs
    dtrexc-runs from to e = rw (e, first-of from, first-of to, block_of (first_by (tests T) from), block_of (first_by (tests T) to))

    -- nowhere to go
    there : (a b ILST : ℕ) → a ≡ b → ILST ≡ a + 1 → Chosen (begins a b) T (record { T = T; ILST = ILST; INFO = 0; calls = [] })
    unfolding begins
    there a b ILST e l = rw (le-ltb a b (omega arith)) (stays (upper b a (size_by n (tests T) a) between) T ILST l (Next.up_there n (tests T) b a (size_by n (tests T) a) (le-ltb b a (omega arith))))

    size-high : (a : ℕ) → size_by n (tests T) a ≤ 3
    size-high a = let s = (Next.size_in n (tests T) a).1 in omega arith

    goes_down : (a b goal : ℕ) → updated (size_by n (tests T) a) (size_by n (tests T) b) (b + 1) ≡ goal + 1 → a < goal → goal ≤ n
        → Chosen (lower goal a (size_by n (tests T) a) between) T (returned (label10 r n n (record { T = T; ILST = updated (size_by n (tests T) a) (size_by n (tests T) b) (b + 1); HERE = a + 1; NBF = size_by n (tests T) a; INFO = 0; calls = [] })))
    goes_down a b goal e l g =
        rw e (chosen _ T _ (down_loop n goal T a (size_by n (tests T) a) 0 [] (Next.some_size n (tests T) a) (size-high a) (settled_size n (tests T) a) (omega arith) (lt-ltb a goal l)))

    goes_up : (a b : ℕ) → b < a → a < n → Chosen (upper b a (size_by n (tests T) a) between) T (returned (label20 r n (vars T b a (size_by n (tests T) a) 0 [])))
    goes_up a b l g = chosen _ T _ (up_loop n b T a (size_by n (tests T) a) 0 [] (Next.some_size n (tests T) a) (size-high a) (settled_size n (tests T) a) (omega arith) (lt-ltb b a l))

    runs_follow : (a to : ℕ) → a < n → to < n → Chosen (begins a (first_by (tests T) to)) T (runs a (first_by (tests T) to))
    unfolding begins runs
    runs_follow a to l k =
        let b = first_by (tests T) to in
        elim (ℕ_discrete a b) [
          | yes x ↦ rw (eq-eqb (a + 1) (b + 1) (omega arith)) (there a b (b + 1) x (omega arith))
          | no x ↦ rw (ne_eqb (a + 1) (b + 1) (omega arith), ltb_next a b)
              (elim (dec_lt a b) [
                | yes y ↦ let g = Next.goal_in n (tests T) a to k y in
                    let u = g.0 in
                    let v = g.1 in
                    rw (lt-ltb a b y) (goes_down a b _ (goal-of a b y) u (omega arith))
                | no y ↦ rw (le-ltb a b (omega arith)) (goes_up a b (omega arith) l)
              ])
        ]

    -- a form of one row
    single : (from to : ℕ) → from < n → to < n → leb n 1 ≡ true → Chosen (begins (first_by (tests T) from) (first_by (tests T) to)) T (dtrexc r n T (from + 1) (to + 1))
    unfolding dtrexc dtrexc_by
    single from to l k e =
        let o = leb-true n 1 e in
        let p = Next.first_in n (tests T) from l in
        let q = Next.first_in n (tests T) to k in
        rw e (there (first_by (tests T) from) (first_by (tests T) to) (to + 1) (omega arith) (omega arith))

    pub dtrexc_follows : (from to : ℕ) → from < n → to < n → Chosen (start n from to (tests T)) T (dtrexc r n T (from + 1) (to + 1))
    unfolding start begins
    dtrexc_follows from to l k = go (leb n 1) refl
      where
        go : (c : Bool) → leb n 1 ≡ c → Chosen (begins (first_by (tests T) from) (first_by (tests T) to)) T (dtrexc r n T (from + 1) (to + 1))
        go true e = single from to l k e
        go false e = rw (dtrexc-runs from to e) (runs_follow (first_by (tests T) from) to (Next.first_in n (tests T) from l) k)
