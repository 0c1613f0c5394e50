-- What the test of digits says of them: between the odd squares beside twice k, k is nearest. Assumes nothing.
use mathlib.Core.Path.{◌≡◌, sym, ◌∙◌, subst}
use Prim.Native.Nat.{ℕ, ◌+◌, ◌-◌, ◌*◌}
use native.Mathlib.Nat.{mul-one, le_of_lt}
use native.Mathlib.Omega.{arith}
use mathlib.Core.Bool.{Bool, true, ◌&&◌}
use lib.Dec.{T, ltb, ltb→lt}
use lib.Ieee.Fits.{and_l, and_r}
use Rattle.laws.specs.Cut.{NearestHalf}

-- what `between` tells
abbrev Between : ℕ → ℕ → Bool
Between n k = ltb ((2 * k - 1) * (2 * k - 1)) n && ltb n ((2 * k + 1) * (2 * k + 1))

-- strictly between the odd squares there is no tie
strictly : (n rest k : ℕ) → T (Between n k) → NearestHalf n rest 0 k
strictly n rest k t =
    let a = ltb→lt ((2 * k - 1) * (2 * k - 1)) n (and_l (ltb ((2 * k - 1) * (2 * k - 1)) n) (ltb n ((2 * k + 1) * (2 * k + 1))) t) in
    let b = ltb→lt n ((2 * k + 1) * (2 * k + 1)) (and_r (ltb ((2 * k - 1) * (2 * k - 1)) n) (ltb n ((2 * k + 1) * (2 * k + 1))) t) in
    record { from = rw mul-one (le_of_lt a); to = rw mul-one (le_of_lt b); even_from = λ e z. absurd (let g = rw mul-one at e in omega (arith, a, g)); even_to = λ e. absurd (let g = rw mul-one at e in omega (arith, b, g)) }

-- the same of the test that was taken
pub tested : {n k : ℕ} {b : Bool} (rest : ℕ) → b ≡ Between n k → b ≡ true → NearestHalf n rest 0 k
tested {n} {k} rest e t = strictly n rest k (subst T (sym t ∙ e) tt)
