-- The small Sylvester solve: lasy2, two by two against two by two. A matrix is the list of its rows. Definitions only. Assumes nothing.
use Rattle.std.specs.Prelude.{ℕ, zero, suc, ◌+◌, ◌-◌, Bool, ◌||◌, cond, List, [], ◌∷◌, get_or, set, Float}
use Rattle.std.specs.Float.{nan, Format}
use Rattle.std.specs.Float.Ieee.{neg, sub, mul, div, lt, le}
use Rattle.model.specs.Arith.{zero_of, one_of, eight_of, eighth_of, eps_of, min_positive_of, abs, recip, fmax}

-- ---- rows and numbers

abbrev pub num : List Float → ℕ → Float
num r j = get_or r j nan

abbrev pub row : List (List Float) → ℕ → List Float
row t i = get_or t i []

abbrev pub cell : List (List Float) → ℕ → ℕ → Float
cell t i j = num (row t i) j

abbrev pub four : {A : Type 0} → A → A → A → A → List A
four x y z w = x ∷ y ∷ z ∷ w ∷ []

-- two numbers, two rows and two columns exchanged; with itself, nothing changes
unfoldable pub swap_places : List Float → ℕ → ℕ → List Float
swap_places r i j = set (set r i (num r j)) j (num r i)

unfoldable pub swap_rows : List (List Float) → ℕ → ℕ → List (List Float)
swap_rows t i j = set (set t i (row t j)) j (row t i)

unfoldable pub swap_cols : List (List Float) → ℕ → ℕ → List (List Float)
swap_cols t i j = four (swap_places (row t 0) i j) (swap_places (row t 1) i j) (swap_places (row t 2) i j) (swap_places (row t 3) i j)

-- the largest of m and three magnitudes
unfoldable pub largest : Float → Float → Float → Float → Float
largest m x y z = fmax (fmax (fmax m (abs x)) (abs y)) (abs z)

-- ---- the system

unfoldable pub smlnum : Format → Float
smlnum f = div f (min_positive_of f) (eps_of f)

-- the least pivot
unfoldable pub smin_of : Format → List (List Float) → List (List Float) → Float
smin_of f tl tr =
    fmax (mul f (eps_of f) (largest (fmax (largest (abs (cell tr 0 0)) (cell tr 0 1) (cell tr 1 0) (cell tr 1 1)) (abs (cell tl 0 0))) (cell tl 0 1) (cell tl 1 0) (cell tl 1 1))) (smlnum f)

-- the system of tl * x - x * tr, for x column after column
unfoldable pub t16_of : Format → List (List Float) → List (List Float) → List (List Float)
t16_of f tl tr =
    four
    (four (sub f (cell tl 0 0) (cell tr 0 0)) (cell tl 0 1) (neg (cell tr 1 0)) (zero_of f))
    (four (cell tl 1 0) (sub f (cell tl 1 1) (cell tr 0 0)) (zero_of f) (neg (cell tr 1 0)))
    (four (neg (cell tr 0 1)) (zero_of f) (sub f (cell tl 0 0) (cell tr 1 1)) (cell tl 0 1))
    (four (zero_of f) (neg (cell tr 0 1)) (cell tl 1 0) (sub f (cell tl 1 1) (cell tr 1 1)))

-- column after column
unfoldable pub btmp_of : List (List Float) → List Float
btmp_of b = four (cell b 0 0) (cell b 1 0) (cell b 0 1) (cell b 1 1)

-- ---- the pivot

pub record Pivot : Type 0 where
  pub xmax : Float
  pub row : ℕ
  pub col : ℕ

-- the number x at (i, j) where its magnitude is at least the largest so far: so the last of equal ones, and never a NaN
unfoldable pub better : Float → ℕ → ℕ → Pivot → Pivot
better x i j best = cond (le best.xmax (abs x)) (record { xmax = abs x; row = i; col = j }) best

-- k numbers of row ip, from column jp on
unfoldable pub pivot_in_row : List (List Float) → ℕ → ℕ → ℕ → Pivot → Pivot
pivot_in_row t ip zero jp best = best
pivot_in_row t ip (suc k) jp best = pivot_in_row t ip k (jp + 1) (better (cell t ip jp) ip jp best)

-- k rows from row ip on, each from column i on
unfoldable pub pivot_from : List (List Float) → ℕ → ℕ → ℕ → Pivot → Pivot
pivot_from t i zero ip best = best
pivot_from t i (suc k) ip best = pivot_from t i k (ip + 1) (pivot_in_row t ip (4 - i) i best)

-- the largest magnitude at or below and right of (i, i); (i, i) where nothing is found
unfoldable pub pivot : Format → List (List Float) → ℕ → Pivot
pivot f t i = pivot_from t i (4 - i) i (record { xmax = zero_of f; row = i; col = i })

-- ---- one step of the elimination

-- a diagonal number below smin in magnitude becomes smin
unfoldable pub raised : List (List Float) → ℕ → Float → List (List Float)
raised t i smin = cond (lt (abs (cell t i i)) smin) (set t i (set (row t i) i smin)) t

-- m times row p taken off row r, k places from place j on
unfoldable pub less_from : Format → List Float → Float → ℕ → ℕ → List Float → List Float
less_from f p m zero j r = r
less_from f p m (suc k) j r = less_from f p m k (j + 1) (set r j (sub f (num r j) (mul f m (num p j))))

-- row r with the multiple of row p taken off that clears place i, where the multiplier then stands
unfoldable pub reduced_row : Format → List Float → ℕ → List Float → List Float
reduced_row f p i r = less_from f p (div f (num r i) (num p i)) (4 - (i + 1)) (i + 1) (set r i (div f (num r i) (num p i)))

-- k rows from row j on
unfoldable pub eliminate_from : Format → ℕ → ℕ → ℕ → List (List Float) → List (List Float)
eliminate_from f i zero j t = t
eliminate_from f i (suc k) j t = eliminate_from f i k (j + 1) (set t j (reduced_row f (row t i) i (row t j)))

unfoldable pub eliminate : Format → ℕ → List (List Float) → List (List Float)
eliminate f i t = eliminate_from f i (4 - (i + 1)) (i + 1) t

-- the pivot brought to (i, i), and column i cleared below it
unfoldable pub reduced : Format → ℕ → Pivot → Float → List (List Float) → List (List Float)
reduced f i p smin t = eliminate f i (raised (swap_cols (swap_rows t p.row i) p.col i) i smin)

-- the right-hand side, by the multipliers that stand in column i of t, k rows from row j on
unfoldable pub rhs_from : Format → List (List Float) → ℕ → ℕ → ℕ → List Float → List Float
rhs_from f t i zero j b = b
rhs_from f t i (suc k) j b = rhs_from f t i k (j + 1) (set b j (sub f (num b j) (mul f (cell t j i) (num b i))))

unfoldable pub reduced_rhs : Format → List (List Float) → ℕ → Pivot → List Float → List Float
reduced_rhs f t i p b = rhs_from f t i (4 - (i + 1)) (i + 1) (swap_places b p.row i)

-- ---- the scaled right-hand side

pub record Solution : Type 0 where
  pub x : List Float
  pub scale : Float

-- b is so large that it has to be scaled down before it is divided by t
unfoldable pub exceeds : Format → Float → Float → Bool
exceeds f t b = lt (abs t) (mul f (mul f (eight_of f) (smlnum f)) (abs b))

unfoldable pub too_large : Format → List (List Float) → List Float → Bool
too_large f t b = exceeds f (cell t 0 0) (num b 0) || (exceeds f (cell t 1 1) (num b 1) || (exceeds f (cell t 2 2) (num b 2) || exceeds f (cell t 3 3) (num b 3)))

unfoldable pub scaled_by : Format → List Float → Float → List Float
scaled_by f b k = four (mul f (num b 0) k) (mul f (num b 1) k) (mul f (num b 2) k) (mul f (num b 3) k)

-- with its scale, 1 where no row is too large
unfoldable pub scaled_rhs : Format → List (List Float) → List Float → Solution
scaled_rhs f t b =
    let scale = div f (eighth_of f) (largest (abs (num b 0)) (num b 1) (num b 2) (num b 3)) in
    cond (too_large f t b) (record { x = scaled_by f b scale; scale = scale }) (record { x = b; scale = one_of f })

-- ---- back substitution

-- s, less the products by temp of k numbers of row r from place j on with those of x
unfoldable pub entry_from : Format → List Float → List Float → Float → ℕ → ℕ → Float → Float
entry_from f r x temp zero j s = s
entry_from f r x temp (suc k) j s = entry_from f r x temp k (j + 1) (sub f s (mul f (mul f temp (num r j)) (num x j)))

-- x with its number at place k, from those behind it
unfoldable pub entry_at : Format → List (List Float) → List Float → ℕ → List Float → List Float
entry_at f t b k x = let temp = recip f (cell t k k) in set x k (entry_from f (row t k) x temp (4 - (k + 1)) (k + 1) (mul f (num b k) temp))

-- from the last row up
unfoldable pub back : Format → List (List Float) → List Float → List Float
back f t b = entry_at f t b 0 (entry_at f t b 1 (entry_at f t b 2 (entry_at f t b 3 (four (zero_of f) (zero_of f) (zero_of f) (zero_of f)))))

-- ---- the whole

-- the triangular system t with the right-hand side b
unfoldable pub triangular : Format → List (List Float) → List Float → Solution
triangular f t b = let s = scaled_rhs f t b in record { x = back f t s.x; scale = s.scale }

-- the system t, b of four rows, with the order of the columns undone
unfoldable pub solved : Format → Float → List (List Float) → List Float → Solution
solved f smin t b =
    let p0 = pivot f t 0 in
    let t1 = reduced f 0 p0 smin t in
    let p1 = pivot f t1 1 in
    let t2 = reduced f 1 p1 smin t1 in
    let p2 = pivot f t2 2 in
    let t3 = reduced f 2 p2 smin t2 in
    let s = triangular f (raised t3 3 smin) (reduced_rhs f t3 2 p2 (reduced_rhs f t2 1 p1 (reduced_rhs f t1 0 p0 b))) in
    record { x = swap_places (swap_places (swap_places s.x 2 p2.col) 1 p1.col) 0 p0.col; scale = s.scale }

pub record Sylvester : Type 0 where
  pub x00 : Float
  pub x10 : Float
  pub x01 : Float
  pub x11 : Float
  pub scale : Float

-- x and scale with tl * x - x * tr = scale * b
unfoldable pub lasy2 : Format → List (List Float) → List (List Float) → List (List Float) → Sylvester
lasy2 f tl tr b =
    let s = solved f (smin_of f tl tr) (t16_of f tl tr) (btmp_of b) in
    record { x00 = num s.x 0; x10 = num s.x 1; x01 = num s.x 2; x11 = num s.x 3; scale = s.scale }
