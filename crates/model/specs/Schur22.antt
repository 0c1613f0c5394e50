-- Standardising a 2-block: lahqr_schur22. Definitions only. Assumes nothing.
use Rattle.std.specs.Prelude.{ℕ, zero, suc, Bool, not, ◌&&◌, ◌||◌, cond, Float}
use Rattle.std.specs.Float.{Format}
use Rattle.std.specs.Float.Ieee.{unlike, neg, add, sub, mul, div, lt, le, eq, ne}
use Rattle.model.specs.Root.{sqrt}
use Rattle.model.specs.Arith.{zero_of, one_of, half_of, four_of, eps_of, min_positive_of, abs, abs2, recip, mul_pow2, fmax, fmin}

-- ---- what it gives

-- a real pair, or a complex pair: both diagonal numbers and the imaginary size
pub data Eigenvalues : Type 0 where
  real : Float → Float → Eigenvalues
  complex : Float → Float → Float → Eigenvalues

-- document 01's number and values of such a pair: 0, and the real and the imaginary part of each
pub record Values : Type 0 where
  pub answer : ℕ
  pub re1 : Float
  pub im1 : Float
  pub re2 : Float
  pub im2 : Float

unfoldable pub values_of : Format → Eigenvalues → Values
values_of f (real a d) = record { answer = 0; re1 = a; im1 = zero_of f; re2 = d; im2 = zero_of f }
values_of f (complex a d m) = record { answer = 0; re1 = a; im1 = m; re2 = d; im2 = neg m }

-- the four numbers, with the rotation that made them
pub record Block : Type 0 where
  pub a : Float
  pub b : Float
  pub c : Float
  pub d : Float
  pub cs : Float
  pub sn : Float

pub record Standardised : Type 0 where
  pub block : Block
  pub eigenvalues : Eigenvalues

-- ---- signs, and the number z that decides

-- (b > 0) != (c > 0)
unfoldable pub unlike_signs : Format → Float → Float → Bool
unlike_signs f b c = unlike (lt (zero_of f) b) (lt (zero_of f) c)

-- the smaller magnitude, negative where the signs are unlike
unfoldable pub bcmin_of : Format → Float → Float → Float
bcmin_of f b c = cond (unlike_signs f b c) (neg (fmin (abs b) (abs c))) (fmin (abs b) (abs c))

unfoldable pub z_of : Format → Float → Float → Float → Float → Float
z_of f p scale bcmax bcmin = add f (mul f (div f p scale) p) (mul f (div f bcmax scale) bcmin)

-- ---- z is at least 4 eps: two real numbers

-- p plus the root of scale times the root of z, taken with p's sign
unfoldable pub shift_of : Format → Float → Float → Float → Float
shift_of f p scale z = let t = mul f (sqrt f scale) (sqrt f z) in cond (lt p (zero_of f)) (add f p (neg t)) (add f p t)

unfoldable pub apart : Format → Float → Float → Float → Float → Float → Float → Block
apart f b c d z bcmax bcmin =
    let tau = sqrt f (add f (abs2 f c) (abs2 f z)) in
    record { a = add f d z; b = sub f b c; c = zero_of f; d = sub f d (mul f (div f bcmax z) bcmin); cs = div f z tau; sn = div f c tau }

-- ---- else: complex, or real and close; the diagonal is made equal

unfoldable pub safmn2 : Format → Float
safmn2 f = sqrt f (div f (min_positive_of f) (eps_of f))

unfoldable pub safmx2 : Format → Float
safmx2 f = recip f (safmn2 f)

pub record Scaled : Type 0 where
  pub sigma : Float
  pub temp : Float

-- the larger of the two magnitudes
unfoldable pub scale_of : Scaled → Float
scale_of s = fmax (abs s.temp) (abs s.sigma)

unfoldable pub bound_met : Format → Float → Bool
bound_met f scale = le (safmx2 f) scale || le scale (safmn2 f)

-- one round: down where the upper bound is met, up where only the lower is
unfoldable pub rescale : Format → Float → Scaled → Scaled
rescale f scale s =
    cond (le (safmx2 f) scale) (record { sigma = mul f s.sigma (safmn2 f); temp = mul f s.temp (safmn2 f) })
    (record { sigma = mul f s.sigma (safmx2 f); temp = mul f s.temp (safmx2 f) })

-- at most k rounds, left as soon as neither bound is met
unfoldable pub rescaled : Format → ℕ → Scaled → Scaled
rescaled f zero s = s
rescaled f (suc k) s = cond (bound_met f (scale_of s)) (rescaled f k (rescale f (scale_of s) s)) s

unfoldable pub cs_of : Format → Float → Float → Float
cs_of f sigma tau = sqrt f (mul_pow2 f (add f (one_of f) (div f (abs sigma) tau)) (half_of f))

unfoldable pub sn_of : Format → Float → Float → Float → Float → Float
sn_of f sigma p tau cs = let s = div f (neg p) (mul f tau cs) in cond (lt sigma (zero_of f)) (neg s) s

-- the block turned by cs and sn, both diagonal numbers then their mean
unfoldable pub turned : Format → Float → Float → Float → Float → Float → Float → Block
turned f a b c d cs sn =
    let aa = add f (mul f a cs) (mul f b sn) in
    let bb = add f (mul f (neg a) sn) (mul f b cs) in
    let cc = add f (mul f c cs) (mul f d sn) in
    let dd = add f (mul f (neg c) sn) (mul f d cs) in
    let mean = mul_pow2 f (add f (add f (mul f aa cs) (mul f cc sn)) (add f (mul f (neg bb) sn) (mul f dd cs))) (half_of f) in
    record { a = mean; b = add f (mul f bb cs) (mul f dd sn); c = add f (mul f (neg aa) sn) (mul f cc cs); d = mean; cs = cs; sn = sn }

-- neither is zero, and their signs are alike
unfoldable pub splits : Format → Float → Float → Bool
splits f b c = ne c (zero_of f) && (ne b (zero_of f) && not (unlike_signs f b c))

-- the root of |b| times the root of |c|, with the sign of c
unfoldable pub p_of : Format → Float → Float → Float → Float
p_of f c sab sac = cond (lt (zero_of f) c) (mul f sab sac) (mul f (neg sab) sac)

-- a block of equal diagonal numbers that splits: c becomes zero
unfoldable pub split : Format → Block → Block
split f x =
    let sab = sqrt f (abs x.b) in
    let sac = sqrt f (abs x.c) in
    let p = p_of f x.c sab sac in
    let tau = recip f (sqrt f (abs (add f x.b x.c))) in
    let cs1 = mul f sab tau in
    let sn1 = mul f sac tau in
    record {
      a = add f x.a p;
      b = sub f x.b x.c;
      c = zero_of f;
      d = sub f x.d p;
      cs = sub f (mul f x.cs cs1) (mul f x.sn sn1);
      sn = add f (mul f x.cs sn1) (mul f x.sn cs1);
    }

unfoldable pub split_if : Format → Block → Block
split_if f x = cond (splits f x.b x.c) (split f x) x

unfoldable pub close : Format → Float → Float → Float → Float → Block
close f a b c d =
    let s = rescaled f 20 (record { sigma = add f b c; temp = sub f a d }) in
    let tau = sqrt f (add f (abs2 f s.sigma) (abs2 f s.temp)) in
    let cs = cs_of f s.sigma tau in
    split_if f (turned f a b c d cs (sn_of f s.sigma (mul_pow2 f s.temp (half_of f)) tau cs))

-- ---- the whole

-- b and c not zero
unfoldable pub full : Format → Float → Float → Float → Float → Block
full f a b c d =
    let p = mul f (sub f a d) (half_of f) in
    let bcmax = fmax (abs b) (abs c) in
    let bcmin = bcmin_of f b c in
    let scale = fmax (abs p) bcmax in
    let z = z_of f p scale bcmax bcmin in
    cond (le (mul f (four_of f) (eps_of f)) z) (apart f b c d (shift_of f p scale z) bcmax bcmin) (close f a b c d)

-- equal diagonal numbers, and beside them unlike signs
unfoldable pub is_standard : Format → Float → Float → Float → Float → Bool
is_standard f a b c d = eq a d && unlike_signs f b c

unfoldable pub standard : Format → Float → Float → Float → Float → Block
standard f a b c d =
    cond (eq c (zero_of f)) (record { a = a; b = b; c = c; d = d; cs = one_of f; sn = zero_of f })
    (cond (eq b (zero_of f)) (record { a = d; b = neg c; c = zero_of f; d = a; cs = zero_of f; sn = one_of f })
    (cond (is_standard f a b c d) (record { a = a; b = b; c = c; d = d; cs = one_of f; sn = zero_of f }) (full f a b c d)))

-- complex when c is still not zero
unfoldable pub eigenvalues_of : Format → Block → Eigenvalues
eigenvalues_of f x =
    cond (ne x.c (zero_of f)) (complex x.a x.d (mul f (sqrt f (abs x.b)) (sqrt f (abs x.c)))) (real x.a x.d)

unfoldable pub lahqr_schur22 : Format → Float → Float → Float → Float → Standardised
lahqr_schur22 f a b c d = record { block = standard f a b c d; eigenvalues = eigenvalues_of f (standard f a b c d) }
