-- A reflection's numbers while they are changed, the first of them before those behind it. Assumes nothing.
use mathlib.Core.Path.{◌≡◌, refl, sym, ap, ◌∙◌}
use mathlib.Core.List.{List, ◌++◌, append-nil}
use Prim.Native.Nat.{ℕ, zero, suc, ◌+◌, ◌≤◌}
use native.Mathlib.Omega.{arith}
use lib.ListN.{length, set, take, drop, length-set}
use lib.Seq.{drop-drop}
use lib.Ieee.{Float, binary64, nan, sub, mul}
use borrow.Rule.Slice.PartMut.{put_mid}
use Rattle.std.proofs.lemmas.List.{drop_all, get_or-set_other, get_or-drop, drop-set-add, take-set-le, take-append-drop}
use Rattle.model.specs.Form.{at}
use Rattle.swaps.specs.Reflects.{less_of}

-- those from the m-th behind the first on are still x's
less_beyond : (m p : ℕ) (k : Float) (v x : List Float) (i : ℕ) → m ≤ i → at (less_of m p k v x) (p + 1 + i) ≡ at x (p + 1 + i)
less_beyond zero p k v x i h = get_or-set_other x p (p + 1 + i) _ nan (omega arith)
less_beyond (suc m) p k v x i h = get_or-set_other _ (p + 1 + m) (p + 1 + i) _ nan (omega arith) ∙ less_beyond m p k v x i (omega arith)

-- the next of them changed, in the part behind the first
pub less_more : (m p : ℕ) (k : Float) (v x tail : List Float) → tail ≡ drop (p + 1) (less_of m p k v x)
    → set tail m (sub binary64 (at tail m) (mul binary64 k (at v m))) ≡ drop (p + 1) (less_of (m + 1) p k v x)
less_more m p k v x tail e =
    let whole = less_of m p k v x in
    let next : suc m ≡ m + 1 = omega arith in
    let there : at tail m ≡ at x (p + 1 + m) = ap (λ (r : List Float). at r m) e ∙ get_or-drop (p + 1) whole m nan ∙ less_beyond m p k v x m (omega arith) in
    ap (λ (a : Float). set tail m (sub binary64 a (mul binary64 k (at v m)))) there
    ∙ ap (λ (r : List Float). set r m (sub binary64 (at x (p + 1 + m)) (mul binary64 k (at v m)))) e
    ∙ sym (drop-set-add (p + 1) whole m _)
    ∙ ap (λ (i : ℕ). drop (p + 1) (less_of i p k v x)) next

less_before : (m p : ℕ) (k : Float) (v x : List Float) → take (p + 1) (less_of m p k v x) ≡ take (p + 1) (set x p (sub binary64 (at x p) k))
less_before zero p k v x = refl
less_before (suc m) p k v x = take-set-le (p + 1) _ (p + 1 + m) _ (omega arith) ∙ less_before m p k v x

-- with all of those behind the first put back
pub less_whole : (m p n : ℕ) (k : Float) (v x tail : List Float) → length x ≤ p + 1 + n → tail ≡ drop (p + 1) (less_of m p k v x)
    → put_mid (p + 1) n (set x p (sub binary64 (at x p) k)) tail ≡ less_of m p k v x
less_whole m p n k v x tail h e =
    let base = set x p (sub binary64 (at x p) k) in
    let whole = less_of m p k v x in
    ap (λ (r : List Float). take (p + 1) base ++ (tail ++ r)) (drop-drop n (p + 1) base ∙ drop_all _ base (omega (arith, length-set x p (sub binary64 (at x p) k))))
    ∙ ap (λ (r : List Float). take (p + 1) base ++ r) (append-nil tail ∙ e)
    ∙ ap (λ (r : List Float). r ++ drop (p + 1) whole) (sym (less_before m p k v x))
    ∙ take-append-drop (p + 1) whole
