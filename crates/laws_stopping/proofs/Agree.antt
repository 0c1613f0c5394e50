-- How dtrexc and a move that stops stand to each other on the way: nothing has declined and they are the same, or the last exchange has declined, both have ended, and are the same. Over any exchange of which two single rows never decline. Assumes nothing.
use Prim.Native.Nat.{ℕ, ◌+◌, ◌≤◌}
use native.Mathlib.Nat.{add-sub_cancel}
use native.Mathlib.Omega.{arith}
use mathlib.Core.Path.{◌≡◌, refl, sym, ap, ◌∙◌}
use mathlib.Core.Logic.{◌⊎◌, inl, inr}
use mathlib.Core.Bool.{Bool, true, false, not, ◌&&◌, cond}
use mathlib.Core.List.{List, [], ◌∷◌, ◌++◌, map-append}
use lib.Dec.{eqb}
use lib.Ieee.{Float, Format}
use borrow.Author.Tests.{eqb-true, eqb-false}
use Rattle.model.specs.Form.{zero_below}
use Rattle.model.specs.Swaps.{Change, unchanged, and_then, declined_of}
use Rattle.laws.proofs.Runs.{declined_then}
use Rattle.model.specs.Move.{Exchange, Moving, arrived, landed_whole}
use Rattle.model.specs.Stopping.{Kind, Going, onward, trying}
use Rattle.laws_dtrexc.specs.Dtrexc.{Variables, Control, goes, returns, ◌>>=◌, ilst_here, to_row, call, call_or_return, breaks}
use Rattle.laws_dtrexc.proofs.Seen
use Rattle.laws_dtrexc.proofs.Seen.{seen}
use Rattle.laws_stopping.specs.Made.{make_by, made_by}
use Rattle.laws_stopping.specs.Follows.{exchanged_by, routines}

-- ---- sizes

abbrev pub OneTwo : ℕ → Type 0
OneTwo k = (k ≡ 1) ⊎ (k ≡ 2)

pub record Sized (e : Exchange) : Type 0 where
  pub first : OneTwo e.n1
  pub second : OneTwo e.n2

pub one : OneTwo 1
one = inl refl

pub two : OneTwo 2
two = inr refl

abbrev pub AllSized : List Exchange → Type 0
AllSized [] = Unit {0}
AllSized (e ∷ es) = Sized e × AllSized es

pub sized_more : (es : List Exchange) (e : Exchange) → AllSized es → Sized e → AllSized (es ++ (e ∷ []))
sized_more [] e h s = (s, tt)
sized_more (d ∷ es) e h s = (h.0, sized_more es e h.1 s)

-- a block that goes whole
pub whole-size : (k : ℕ) → 1 ≤ k → k ≤ 3 → eqb k 3 ≡ false → OneTwo k
whole-size k low high e = go (eqb k 1) refl
  where
    go : (b : Bool) → eqb k 1 ≡ b → OneTwo k
    go true q = inl (eqb-true k 1 q)
    go false q = inr (omega (arith, eqb-false k 1 q, eqb-false k 3 e))

pub made-append : (k : Kind) (c : Change) (xs ys : List Exchange) → made_by k c (xs ++ ys) ≡ made_by k (made_by k c xs) ys
unfolding made_by
made-append k c [] ys = refl
made-append k c (x ∷ xs) ys = made-append k (and_then c (make_by k x)) xs ys

-- an exchange with which the move stops, and of which two single rows never decline
module _ (x : ℕ → ℕ → ℕ → List Float → Change) (f : Format) (ld n : ℕ) (t : List Float) where
  abbrev pub kind : Kind
  kind = record { exchange = x; stops = true }

  -- ---- a move of a block of the form t, on its way

  -- nothing has declined
  pub record On (m : Moving) : Type 0 where
    pub low : 1 ≤ m.nbf
    pub high : m.nbf ≤ 3
    pub done : m.change ≡ made_by kind (unchanged t) m.exchanges
    pub quiet : declined_of m.change ≡ 0
    pub sized : AllSized m.exchanges

  -- and the block is in row h
  pub record At (h : ℕ) (m : Moving) : Type 0 where
    pub on : On m
    pub here : m.here ≡ h

  -- the last has declined, and no other
  pub record Off (m : Moving) : Type 0 where
    pub before : List Exchange
    pub last : Exchange
    pub exchanges : m.exchanges ≡ before ++ (last ∷ [])
    pub done : m.change ≡ and_then (made_by kind (unchanged t) before) (make_by kind last)
    pub quiet : declined_of (made_by kind (unchanged t) before) ≡ 0
    pub failed : eqb (declined_of (make_by kind last (made_by kind (unchanged t) before).form)) 0 ≡ false
    pub earlier : AllSized before
    pub sized : Sized last

  -- either way the list of exchanges is what was done
  pub off_done : (m : Moving) → Off m → m.change ≡ made_by kind (unchanged t) m.exchanges
  unfolding made_by
  off_done m o = o.done ∙ sym (made-append kind (unchanged t) o.before (o.last ∷ [])) ∙ ap (made_by kind (unchanged t)) (sym o.exchanges)

  pub off_sized : (m : Moving) → Off m → AllSized m.exchanges
  off_sized m o = rw o.exchanges (sized_more o.before o.last o.earlier o.sized)

  -- ---- beside dtrexc

  abbrev pub State : (Moving → Type 0) → ℕ → Control (List Float) → Bool → Moving → Type 0
  State P goal c false m = (c ≡ goes (seen 0 goal m)) × P m
  State P goal c true m = (c ≡ returns (ilst_here (seen (declined_of m.change) goal m))) × Off m

  abbrev pub Agrees : (Moving → Type 0) → ℕ → Control (List Float) → Going → Type 0
  Agrees P goal c g = State P goal c g.stopped g.moving

  -- what comes next, unless they have ended
  pub bind : (P Q : Moving → Type 0) (goal : ℕ) (c : Control (List Float)) (g : Going) (F : Variables (List Float) → Control (List Float)) (G : Moving → Going) → Agrees P goal c g
      → ((m : Moving) → P m → Agrees Q goal (F (seen 0 goal m)) (G m)) → Agrees Q goal (c >>= F) (onward g G)
  unfolding onward
  bind P Q goal c g F G a h = go g.stopped refl a
    where
      go : (b : Bool) → g.stopped ≡ b → State P goal c b g.moving → Agrees Q goal (c >>= F) (onward g G)
      go false e s = rw (e, s.0) (h g.moving s.1)
      go true e s = rw (e, s.0) (refl, s.1)

  -- ---- one exchange more

  abbrev onto : ℕ → ℕ → ℕ → Moving → Moving
  onto j n1 n2 m = record { here = m.here; nbf = m.nbf; change = and_then m.change (x j n1 n2); exchanges = m.exchanges ++ (record { row = j; n1 = n1; n2 = n2 } ∷ []) }

  module _ (goal at j n1 n2 h : ℕ) (m : Moving) (place : at ≡ j + 1) (s : Sized (record { row = j; n1 = n1; n2 = n2 })) (a : At h m) where
    d : ℕ
    d = declined_of (x j n1 n2 m.change.form)

    called : call (routines kind f ld) at n1 n2 (seen 0 goal m) ≡ seen d goal (onto j n1 n2 m)
    unfolding call exchanged_by and_then d
    called = rw (place, add-sub_cancel j 1, map-append)

    counted : declined_of (onto j n1 n2 m).change ≡ d
    unfolding d
    counted = let q = a.on.quiet in let e = declined_then m.change (x j n1 n2) in omega arith

    listed : (onto j n1 n2 m).change ≡ and_then (made_by kind (unchanged t) m.exchanges) (x j n1 n2)
    listed = ap (λ (c : Change). and_then c (x j n1 n2)) a.on.done

    further : d ≡ 0 → At h (onto j n1 n2 m)
    unfolding made_by
    further q =
        record {
          on =
              record {
                low = a.on.low;
                high = a.on.high;
                done = listed ∙ sym (made-append kind (unchanged t) m.exchanges (record { row = j; n1 = n1; n2 = n2 } ∷ []));
                quiet = counted ∙ q;
                sized = sized_more m.exchanges _ a.on.sized s;
              };
          here = a.here;
        }

    over : eqb d 0 ≡ false → Off (onto j n1 n2 m)
    unfolding d
    over q =
        record {
          before = m.exchanges;
          last = record { row = j; n1 = n1; n2 = n2 };
          exchanges = refl;
          done = listed;
          quiet = sym (ap (λ (c : Change). declined_of c) a.on.done) ∙ a.on.quiet;
          failed = rw (← a.on.done) q;
          earlier = a.on.sized;
          sized = s;
        }

    -- a call that is asked how it went
    pub tries : Agrees (At h) goal (call_or_return (routines kind f ld) at n1 n2 (seen 0 goal m)) (trying kind j n1 n2 m)
    unfolding call_or_return trying d
    tries = rw called (go (eqb d 0) refl)
      where
        go : (b : Bool) → eqb d 0 ≡ b → State (At h) goal (cond b (goes (seen d goal (onto j n1 n2 m))) (returns (ilst_here (seen d goal (onto j n1 n2 m))))) (not b) (onto j n1 n2 m)
        go true e = let q = eqb-true d 0 e in (ap (λ (i : ℕ). goes (seen i goal (onto j n1 n2 m))) q, further q)
        go false e = (ap (λ (i : ℕ). returns (ilst_here (seen i goal (onto j n1 n2 m)))) (sym counted), over e)

    -- and one that is not
    calls : declined_of (x j n1 n2 m.change.form) ≡ 0 → Agrees (At h) goal (goes (call (routines kind f ld) at n1 n2 (seen 0 goal m))) (trying kind j n1 n2 m)
    unfolding trying d
    calls q = rw (called, q) (refl, further q)

  pub single : ((j : ℕ) (u : List Float) → declined_of (x j 1 1 u) ≡ 0) → (goal at j h : ℕ) (m : Moving) → at ≡ j + 1 → At h m → Agrees (At h) goal (goes (call (routines kind f ld) at 1 1 (seen 0 goal m))) (trying kind j 1 1 m)
  single calm goal at j h m e a = calls goal at j 1 1 h m e (record { first = one; second = one }) a (calm j m.change.form)

  -- ---- a new row

  pub row_at : (goal ROW row : ℕ) (m : Moving) → ROW ≡ row + 1 → On m → Agrees On goal (goes (to_row ROW (seen 0 goal m))) (record { stopped = false; moving = arrived row m })
  unfolding arrived
  row_at goal ROW row m e o = (ap goes (Seen.row_at f ld n goal ROW row m e), record { low = o.low; high = o.high; done = o.done; quiet = o.quiet; sized = o.sized })

  pub breaks-at : (goal ROW row : ℕ) (m : Moving) → ROW ≡ row + 1 → On m → Agrees On goal (goes (breaks (routines kind f ld) (to_row ROW (seen 0 goal m)))) (record { stopped = false; moving = landed_whole f ld row m })
  unfolding breaks landed_whole
  breaks-at goal ROW row m e o = (ap goes (Seen.breaks-at f ld n goal ROW row m e), go (eqb m.nbf 2 && zero_below f ld m.change.form row))
    where
      go : (b : Bool) → On (record { here = row; nbf = cond b 3 m.nbf; change = m.change; exchanges = m.exchanges })
      go true = record { low = omega arith; high = omega arith; done = o.done; quiet = o.quiet; sized = o.sized }
      go false = record { low = o.low; high = o.high; done = o.done; quiet = o.quiet; sized = o.sized }
