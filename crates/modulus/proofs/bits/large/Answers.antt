-- `modulus::bits::large` meets its contract: the sum is cut, brought to 108 digits, and half its root is found. Assumes nothing.
use mathlib.Core.Path.{◌≡◌}
use Prim.Native.Nat.{ℕ, ◌+◌, ◌*◌}
use native.Mathlib.Omega.{arith}
use lib.Ieee.{binary64}
use Rattle.laws.specs.RootNearest.{square}
use Rattle.laws.specs.HalfDigits.{HalfDigits}
use Rattle.laws.specs.Cut.{Cut, NearestHalf}
use Rattle.laws.proofs.Cut.{cut_sum, cut_digits}
use Rattle.modulus.specs.Modulus.{wide, four_sums, Sum, Fitted}
use Rattle.modulus.proofs.Fit.{sum_fits, fit_cut}
use Rattle.modulus.proofs.bits.large.Goals as goal

-- the sum of the doubled numbers' squares is a cut
sum_cut : (x y : ℕ) {d high low rest : ℕ} (k : ℕ) → Sum (x * 2) (y * 2) d high low rest → Cut (four_sums x y k d) (k + d) (wide high low) rest
sum_cut x y {d} k s =
    let a : x * 2 * (x * 2) ≡ square (2 * x) = omega arith in
    let b : y * 2 * (y * 2) ≡ square (2 * y) = omega arith in
    rw (s.is, s.left, a, b) (cut_sum x y k d)

digits : (x y : ℕ) {d high low rest h l r power c : ℕ} → Sum (x * 2) (y * 2) d high low rest → Fitted high low rest h l r power → NearestHalf (wide h l) r 0 c → (k : ℕ) → HalfDigits binary64 (four_sums x y k d) (k + d + power) c
digits x y {d} {high} {low} {rest} {h} {l} {r} {power} {c} s f q k =
    cut_digits binary64 (four_sums x y k d) (k + d + power) (wide h l) r c (fit_cut (four_sums x y k d) (k + d) (sum_cut x y k s) f) q (omega (arith, f.least)) (omega (arith, f.most, f.short))

pub fitted-power-requires : goal.fitted-power-requires
fitted-power-requires c = let p = c.requires in sum_fits p.0 p.1 p.2 p.3 c.sum_of_squares.ensures

pub returns : goal.returns
returns c = (digits c.args.x c.args.y c.sum_of_squares.ensures c.fitted-power.ensures c.nearest_half.ensures, c.fitted-power.ensures.once)
