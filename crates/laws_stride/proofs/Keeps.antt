-- What two lists have alike they have alike after steps block after block, and after steps on a part that is taken out and put back. Assumes nothing.
use mathlib.Core.Path.{◌≡◌, refl}
use Prim.Native.Nat.{ℕ, zero, suc, ◌+◌, ◌*◌, ◌≤◌, ◌<◌}
use native.Mathlib.Omega.{arith}
use mathlib.Core.List.{List, ◌++◌}
use lib.ListN.{set, take, drop, take-append-drop}
use lib.Seq.{get_or-take, get_or-drop, take-set-le, take-set-lt, drop-set-lt, drop-set-add, drop-drop}
use lib.Ieee.{Float, Format}
use Rattle.model.specs.Form.{at, zero_below}
use Rattle.model.specs.Vectors.{blocks_down, on_part}
use Rattle.laws_stride.proofs.Tests.{branch}
use Rattle.laws_stride.proofs.Rowwise.{ReadsAs, Rowwise, zero_same, Paired, cell, same_at, set_at}

-- what holds of two lists holds of them after g and h
abbrev pub Keeps : (List Float → List Float → Type 0) → (List Float → List Float) → (List Float → List Float) → Type 0
Keeps P g h = (x y : List Float) → P x y → P (g x) (h y)

-- ---- block after block: what the steps for a block keep is kept

module _ (f : Format) (ld md n : ℕ) {a b : List Float} (r : ReadsAs ld md n a b) (P : List Float → List Float → Type 0) (one two one' two' : ℕ → List Float → List Float) where
  pub blocks : (m : ℕ) → m ≤ n → ((i : ℕ) → i < m → Keeps P (one i) (one' i)) → ((i : ℕ) → i + 1 < m → Keeps P (two i) (two' i))
      → Keeps P (blocks_down f ld a one two m) (blocks_down f md b one' two' m)
  unfolding blocks_down
  blocks zero l g h x y s = s
  blocks (suc zero) l g h x y s = g 0 (omega arith) x y s
  blocks (suc (suc j)) l g h x y s =
      branch P (zero_below f ld a j) (zero_same f j (omega arith) r)
      (λ _. blocks (suc j) (omega arith) (λ i k. g i (omega arith)) (λ i k. h i (omega arith)) _ _ (g (j + 1) (omega arith) x y s))
      (λ _. blocks j (omega arith) (λ i k. g i (omega arith)) (λ i k. h i (omega arith)) _ _ (h j (omega arith) x y s))

-- ---- a part of k numbers from place p on, taken out and put back

-- x is that part of u, and the rest of u is that of v
pub record In (p k : ℕ) (v x u : List Float) : Type 0 where
  pub is : x ≡ take k (drop p u)
  pub head : take p u ≡ take p v
  pub tail : drop (p + k) u ≡ drop (p + k) v

in_at : {p k i : ℕ} {v x u : List Float} → In p k v x u → i < k → at x i ≡ at u (p + i)
in_at s h = rw (s.is, get_or-take, get_or-drop)

in_set : {p k i : ℕ} {v x u : List Float} (e : Float) → In p k v x u → i < k → In p k v (set x i e) (set u (p + i) e)
in_set {p} {k} {i} {v} {x} {u} e s h =
    let l : p ≤ p + i = omega arith in
    let g : p + i < p + k = omega arith in
    record { is = rw (s.is, drop-set-add, take-set-lt); head = rw take-set-le s.head; tail = rw drop-set-lt s.tail }

in_back : {p k : ℕ} {v x u : List Float} → In p k v x u → take p v ++ (x ++ drop (p + k) v) ≡ u
in_back {p} {k} {v} {x} {u} s = rw (← s.head, ← s.tail, s.is, ← drop-drop k p u, take-append-drop, take-append-drop)

-- x and y are parts, from p and from q on, of two lists in the relation R
pub record Twin (R : List Float → List Float → Type 0) (p k q l : ℕ) (v w x y : List Float) : Type 0 where
  pub u : List Float
  pub z : List Float
  pub left : In p k v x u
  pub right : In q l w y z
  pub both : R u z

-- of two parts, the m numbers from d and from e on are read alike and set alike
pub record Column (m d e : ℕ) (P : List Float → List Float → Type 0) : Type 0 where
  pub read : {p q : ℕ} {x y : List Float} (i : ℕ) → i < m → p ≡ d + i → q ≡ e + i → P x y → at x p ≡ at y q
  pub write : {p q : ℕ} {x y : List Float} {s t : Float} (i : ℕ) → i < m → p ≡ d + i → q ≡ e + i → s ≡ t → P x y → P (set x p s) (set y q t)

-- the first m numbers of column c, in parts of k and l numbers from column j on, are those from d and from e on
pub record Placed (ld md n j k l m d e c : ℕ) : Type 0 where
  pub first : d + m ≤ k
  pub second : e + m ≤ l
  pub rows : m ≤ n
  pub below : c < n
  pub left : ld * j + d ≡ ld * c
  pub right : md * j + e ≡ md * c

-- they are read and set alike
pub column : {R : List Float → List Float → Type 0} (ld md n j k l m d e c : ℕ) (v w : List Float) → Rowwise ld md n R → Placed ld md n j k l m d e c
    → Column m d e (Twin R (ld * j) k (md * j) l v w)
column ld md n j k l m d e c v w r f =
    record {
      read = λ {p} {q} i h g g' s. let a : p < k = omega arith in let b : q < l = omega arith in rw (in_at s.left a, in_at s.right b) (same_at (r.reads s.both) (here p q i h g g'));
      write = λ {p} {q} {s} {t} i h g g' z b.
          record {
            u = set b.u (ld * j + p) s;
            z = set b.z (md * j + q) t;
            left = in_set s b.left (omega arith);
            right = in_set t b.right (omega arith);
            both = set_at r (here p q i h g g') z b.both;
          };
    }
  where
    here : (p q i : ℕ) → i < m → p ≡ d + i → q ≡ e + i → Paired ld md n (ld * j + p) (md * j + q)
    here p q i h g g' = cell i c (omega arith)

pub on_part_lem : (R : List Float → List Float → Type 0) (p k q l : ℕ) (v w : List Float) (g h : List Float → List Float)
    → Keeps (Twin R p k q l v w) g h
    → R v w → R (on_part p k g v) (on_part q l h w)
unfolding on_part
on_part_lem R p k q l v w g h step s = rw (in_back t.left, in_back t.right) t.both
  where
    t : Twin R p k q l v w (g (take k (drop p v))) (h (take l (drop q w)))
    t =
        step _ _
        record {
          u = v;
          z = w;
          left = record { is = refl; head = refl; tail = refl };
          right = record { is = refl; head = refl; tail = refl };
          both = s;
        }
