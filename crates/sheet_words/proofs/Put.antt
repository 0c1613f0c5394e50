-- One list after another is put where both are, one after the other. Assumes nothing.
use mathlib.Core.Path.{◌≡◌, sym, ap, ◌∙◌, subst}
use mathlib.Core.List.{List, [], ◌++◌, append-nil, append_assoc}
use Prim.Native.Nat.{ℕ, ◌+◌, ◌≤◌}
use native.Mathlib.Nat.{add-zero, zero-add}
use native.Mathlib.Omega.{arith}
use lib.ListN.{length, take, drop, set, length-append, take-append-drop}
use lib.Seq.{length-take-le, take_at, drop_at, drop-drop, drop-set-lt}
use Rattle.sheet_words.specs.Put.{Put}

-- the same list by another name
pub as_list : (a b x y : List ℕ) (p r : ℕ) → x ≡ y → Put a p x b r → Put a p y b r
as_list a b x y p r e h = subst (λ (l : List ℕ). Put a p l b r) e h

-- nothing
pub put-none : (a : List ℕ) (p : ℕ) → Put a p [] a p
put-none a p =
    let e : p + 0 ≡ p = add-zero p in
    (sym e, sym (rw (e, append-nil (take p a)) (take-append-drop p a)))

module _ (a b c x y : List ℕ) (p q r : ℕ) (f : Put a p x b q) (g : Put b q y c r) (h : q ≤ length a) where
  front : length (take p a ++ x) ≡ q
  front = rw (length-append (take p a) x, length-take-le p a (omega (arith, f.0))) (sym f.0)

  kept : take q b ≡ take p a ++ x
  kept = rw f.1 (take_at (take p a ++ x) (drop (p + length x) a) q front)

  rest : drop (q + length y) b ≡ drop (p + length (x ++ y)) a
  rest =
      let e : p + length x + length y ≡ p + length (x ++ y) = omega (arith, length-append x y) in
      sym (drop-drop (length y) q b)
      ∙ ap (λ (l : List ℕ). drop (length y) l) (rw f.1 (drop_at (take p a ++ x) (drop (p + length x) a) q front))
      ∙ drop-drop (length y) (p + length x) a
      ∙ ap (λ (k : ℕ). drop k a) e

  -- one list, and another right after it
  pub put_then : Put a p (x ++ y) c r
  put_then =
      (omega (arith, f.0, g.0, length-append x y), rw (g.1, kept, rest, append_assoc (take p a) x y))

-- ---- from the start on

-- what stands after an element stays
pub rest_stays : (a b : List ℕ) (i v : ℕ) → drop i b ≡ drop i a → drop (i + 1) (set b i v) ≡ drop (i + 1) a
rest_stays a b i v e =
    drop-set-lt (i + 1) b i v (omega arith) ∙ sym (drop-drop 1 i b) ∙ ap (λ (l : List ℕ). drop 1 l) e ∙ drop-drop 1 i a

-- the first n are the list, and the others are as they were
pub put-start : (a b x : List ℕ) (n : ℕ) → n ≤ length b → take n b ≡ x → drop n b ≡ drop n a → Put a 0 x b n
put-start a b x n h e f =
    let l : n ≡ length x = sym (length-take-le n b h) ∙ ap length e in
    (l ∙ sym (zero-add (length x)), sym (take-append-drop n b) ∙ rw (e, f, l, zero-add (length x)))
