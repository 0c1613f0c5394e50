-- `root::sqrt::sqrt` meets its contract: the special cases by the two tests on zero, and the positive finite numbers by their patterns. Assumes nothing.
use mathlib.Core.Path.{sym, ap, ◌∙◌, subst}
use lib.Dec.{T}
use mathlib.Core.Bool.{Bool, true, false}
use mathlib.Core.Path.{◌≡◌}
use lib.Ieee.{binary64, div, of_bits}
use lib.Ieee.Bits.{of_bits-to_bits}
use Rattle.model.specs.Root.{sqrt}
use Rattle.laws.proofs.RootCases.{sqrt-below, sqrt_itself, sqrt-infinite, above_bits}
use Rattle.root.proofs.sqrt.sqrt.Goals as goal

passed : {b : Bool} → b ≡ true → T b
passed e = subst T (sym e) tt

failed : {b : Bool} → b ≡ false → T b → ⊥
failed e t = subst T e t

pub invariant_of-root_bits : goal.invariant_of-root_bits
unfolding of_bits
invariant_of-root_bits c =
    record { some = above_bits binary64 _ (passed c.well_formed.0.1) (passed c.if-x.true); finite = c.if-bits-lt-INFINITE.true }

pub returns-then-bits-lt-INFINITE : goal.returns-then-bits-lt-INFINITE
returns-then-bits-lt-INFINITE c = c.root_bits.ensures.0 ∙ ap (sqrt binary64) (of_bits-to_bits binary64 _ (passed c.well_formed.0.1))

pub returns-then-x : goal.returns-then-x
unfolding of_bits
returns-then-x c = sym (sqrt-infinite binary64 _ (passed c.well_formed.0.1) (passed c.if-x.true) c.if-bits-lt-INFINITE.false)

pub returns-then-x-2 : goal.returns-then-x-2
unfolding div of_bits
returns-then-x-2 c = sym (sqrt-below binary64 c.args.x (passed c.if-x-2.true))

pub returns : goal.returns
unfolding of_bits
returns c = sym (sqrt_itself binary64 _ (failed c.if-x-2.false) (failed c.if-x.false))
