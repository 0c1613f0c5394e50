-- Parts of a list that were lent, worked on and put back. Assumes nothing.
use mathlib.Core.Path.{◌≡◌, refl, sym, ap, ◌∙◌}
use mathlib.Core.List.{List, ◌∷◌, ◌++◌}
use Prim.Native.Nat.{ℕ, zero, suc, ◌+◌, ◌-◌, ◌≤◌, ◌<◌}
use native.Mathlib.Nat.{add-sub_cancel_left}
use native.Mathlib.Omega.{arith}
use lib.ListN.{length, take, drop, set, length-map}
use lib.Seq.{drop-drop, drop-cons, take-suc-set}
use lib.Ieee.{Float, binary64, nan, neg, mul}
use Rattle.std.proofs.Common.{map, append_assoc}
use Rattle.std.proofs.lemmas.List.{drop-set-lt, drop-set-add, take-set-le, set-append_right, take-append-drop, take_at, drop_at, length-append, length-take-le, length-drop, length-set}
use Rattle.model.specs.Form.{at}
use Rattle.model.specs.Vectors.{Start, on_part, negated_run, scaled_runs}

pub put_back : (g : List Float → List Float) (s k : ℕ) (v y : List Float) → y ≡ g (take (s + k - s) (drop s v)) → take s v ++ (y ++ drop (s + k - s) (drop s v)) ≡ on_part s k g v
unfolding on_part
put_back g s k v y e = rw (e, add-sub_cancel_left s k, drop-drop k s v)

-- v with the k numbers ys from place p on
abbrev with_part : ℕ → ℕ → List Float → List Float → List Float
with_part p k ys v = take p v ++ (ys ++ drop (p + k) v)

-- the first of them written before the others
first : (p k : ℕ) (a : Float) (ys v : List Float) → p < length v → with_part (suc p) k ys (set v p a) ≡ with_part p (suc k) (a ∷ ys) v
first p k a ys v h =
    let e : suc p + k ≡ p + suc k = omega arith in
    let l : p < suc p + k = omega arith in
    rw (take-suc-set v p a h, drop-set-lt (suc p + k) v p a l, append_assoc, e)

-- a number further on written before them
before : (p k r : ℕ) (b : Float) (ys v : List Float) → length ys ≡ k → p ≤ length v → p + k ≤ r → with_part p k ys (set v r b) ≡ set (with_part p k ys v) r b
before p k r b ys v n h l =
    let e : r ≡ p + k + (r - p - k) = omega arith in
    let d : drop (p + k) (set v r b) ≡ set (drop (p + k) v) (r - p - k) b = ap (λ (i : ℕ). drop (p + k) (set v i b)) e ∙ drop-set-add (p + k) v (r - p - k) b in
    rw (take-set-le p v r b (omega arith), d, set-append_right (take p v) (ys ++ drop (p + k) v) p r b (length-take-le p v h) (omega arith), set-append_right ys (drop (p + k) v) k (r - p) b n (omega arith))

length_with : (p k : ℕ) (ys v : List Float) → length ys ≡ k → p + k ≤ length v → length (with_part p k ys v) ≡ length v
length_with p k ys v n h = rw (length-append, length-append, length-take-le p v (omega arith), n, length-drop) (omega arith)

-- ---- a run of numbers, the i-th first, at once
negated : (t : List Float) (p k i : ℕ) (v : List Float) → p + i + k ≤ length t → p + i + k ≤ length v → negated_run t p k i v ≡ with_part (p + i) k (map neg (take k (drop (p + i) t))) v
unfolding negated_run
negated t p zero i v h l = let e : p + i + 0 ≡ p + i = omega arith in rw e (sym (take-append-drop (p + i) v))
negated t p (suc k) i v h l =
    let e : p + (i + 1) ≡ suc (p + i) = omega arith in
    let a = neg (at t (p + i)) in
    let m = length-set v (p + i) a in
    let rest = negated t p k (i + 1) (set v (p + i) a) (omega arith) (omega (arith, m)) in
    (rw e at rest)
    ∙ first (p + i) k a (map neg (take k (drop (suc (p + i)) t))) v (omega arith)
    ∙ rw (drop-cons t (p + i) nan (omega arith)) refl

scaled : (ld : ℕ) (t : List Float) (s : Start) (p k i : ℕ) (v : List Float) → k ≤ ld → p + i + ld + k ≤ length t → p + i + ld + k ≤ length v
    → scaled_runs binary64 ld t s p k i v ≡ with_part (p + i + ld) k (map (mul binary64 (neg s.lower)) (take k (drop (p + i + ld) t))) (with_part (p + i) k (map (mul binary64 (neg s.upper)) (take k (drop (p + i) t))) v)
unfolding scaled_runs
scaled ld t s p zero i v h l m =
    let q = p + i in
    let e : q + 0 ≡ q = omega arith in
    let d : q + ld + 0 ≡ q + ld = omega arith in
    rw (d, e, take-append-drop q v) (sym (take-append-drop (q + ld) v))
scaled ld t s p (suc k) i v h l m =
    let q = p + i in
    let a = mul binary64 (neg s.upper) (at t q) in
    let b = mul binary64 (neg s.lower) (at t (q + ld)) in
    let up = map (mul binary64 (neg s.upper)) (take k (drop (suc q) t)) in
    let low = map (mul binary64 (neg s.lower)) (take k (drop (suc (q + ld)) t)) in
    let e : p + (i + 1) ≡ suc q = omega arith in
    let d : suc q + ld ≡ suc (q + ld) = omega arith in
    let la = length-set v q a in
    let lb = length-set (set v q a) (q + ld) b in
    let rest = scaled ld t s p k (i + 1) (set (set v q a) (q + ld) b) (omega arith) (omega arith) (omega (arith, la, lb)) in
    let n : length up ≡ k = length-map (take k (drop (suc q) t)) (mul binary64 (neg s.upper)) ∙ length-take-le k (drop (suc q) t) (rw length-drop (omega arith)) in
    let w = with_part (suc q) k up (set v q a) in
    let lw : length w ≡ length v = length_with (suc q) k up (set v q a) n (omega (arith, la)) ∙ la in
    (rw (e, d) at rest)
    ∙ ap (with_part (suc (q + ld)) k low) (before (suc q) k (q + ld) b up (set v q a) n (omega (arith, la)) (omega arith))
    ∙ first (q + ld) k b low w (omega (arith, lw))
    ∙ ap (with_part (q + ld) (suc k) (b ∷ low)) (first q k a up v (omega arith))
    ∙ rw (drop-cons t q nan (omega arith), drop-cons t (q + ld) nan (omega arith)) refl

-- ---- the same parts as the code fills them, from the part of t that it cuts
worked : (g : List Float → List Float) (p k : ℕ) (ys v : List Float) → length ys ≡ k → p ≤ length v → on_part p k g (with_part p k ys v) ≡ take p v ++ (g ys ++ drop (p + k) v)
unfolding on_part
worked g p k ys v n h =
    let m = length-take-le p v h in
    rw (take_at (take p v) (ys ++ drop (p + k) v) p m, drop_at (take p v) (ys ++ drop (p + k) v) p m, take_at ys (drop (p + k) v) k n, ← drop-drop k p (with_part p k ys v), drop_at (take p v) (ys ++ drop (p + k) v) p m, drop_at ys (drop (p + k) v) k n) refl

pub negated_back : (g : List Float → List Float) (t v y : List Float) (p k : ℕ) → p + k ≤ length t → p + k ≤ length v → y ≡ g (map neg (take (p + k - p) (drop p t)))
    → take p v ++ (y ++ drop (p + k - p) (drop p v)) ≡ on_part p k g (negated_run t p k 0 v)
negated_back g t v y p k h l e =
    let z : p + 0 ≡ p = omega arith in
    let a : p + 0 + k ≤ length t = omega arith in
    let b : p + 0 + k ≤ length v = omega arith in
    let run = negated t p k 0 v a b in
    let n : length (map neg (take k (drop p t))) ≡ k = length-map (take k (drop p t)) neg ∙ length-take-le k (drop p t) (rw length-drop (omega arith)) in
    rw (e, add-sub_cancel_left p k, drop-drop k p v)
    (sym (worked g p k (map neg (take k (drop p t))) v n (omega arith)) ∙ ap (on_part p k g) (sym (rw z at run)))

pub scaled_back : (ld : ℕ) (t v y z : List Float) (s : Start) (p r k : ℕ) → r ≡ p + ld → k ≤ ld → r + k ≤ length t → r + k ≤ length v
    → y ≡ map (mul binary64 (neg s.upper)) (take (p + k - p) (drop p t)) → z ≡ map (mul binary64 (neg s.lower)) (take (r + k - r) (drop r t))
    → (let w = take p v ++ (y ++ drop (p + k - p) (drop p v)) in take r w ++ (z ++ drop (r + k - r) (drop r w))) ≡ scaled_runs binary64 ld t s p k 0 v
scaled_back ld t v y z s p r k q h l m d e =
    let o : p + 0 ≡ p = omega arith in
    let a : p + 0 + ld + k ≤ length t = omega arith in
    let b : p + 0 + ld + k ≤ length v = omega arith in
    let runs = scaled ld t s p k 0 v h a b in
    let w = take p v ++ (y ++ drop (p + k - p) (drop p v)) in
    rw (drop-drop (r + k - r) r w, drop-drop (p + k - p) p v, d, e, add-sub_cancel_left p k, add-sub_cancel_left r k, q) (sym (rw o at runs))
