-- An exchange of a single row, with one row or with two, never declines. Assumes nothing.
use Prim.Native.Nat.{ℕ, ◌+◌}
use mathlib.Core.Path.{◌≡◌, refl}
use mathlib.Core.Bool.{Bool, true, false, cond}
use mathlib.Core.List.{List}
use lib.Ieee.{Float, Format}
use Rattle.model.specs.Form.{zero_below}
use Rattle.model.specs.Swaps.{Change, declines_in, declined_of, and_then, swap11, swap12, swap21, swap_of, standardise}
use Rattle.model.specs.Exchange.{standardise_if, exchange_whole, exchange_by, exchange}

either : (b : Bool) (x y : Change) → declined_of x ≡ 0 → declined_of y ≡ 0 → declined_of (cond b x y) ≡ 0
either true x y h k = h
either false x y h k = k

module _ (f : Format) (ld n j : ℕ) (t : List Float) where
  pub quiet_11 : declined_of (exchange f ld n j 1 1 t) ≡ 0
  unfolding exchange exchange_by exchange_whole standardise_if swap_of swap11 and_then declines_in
  quiet_11 = refl

  pub quiet_12 : declined_of (exchange f ld n j 1 2 t) ≡ 0
  unfolding exchange exchange_by exchange_whole standardise_if standardise swap_of swap11 swap12 and_then declines_in
  quiet_12 = either (zero_below f ld t (j + 1)) _ _ refl refl

  pub quiet_21 : declined_of (exchange f ld n j 2 1 t) ≡ 0
  unfolding exchange exchange_by exchange_whole standardise_if standardise swap_of swap11 swap21 and_then declines_in
  quiet_21 = either (zero_below f ld t j) _ _ refl refl
