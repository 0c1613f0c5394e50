-- The lines of a call on a form and two buffers, by those of sizes, which are told first. Assumes nothing.
use mathlib.Core.Path.{◌≡◌, refl, sym, ◌∙◌}
use mathlib.Core.Bool.{Bool, true, false, not, ◌||◌, cond}
use mathlib.Core.List.{List}
use Prim.Native.Nat.{ℕ}
use lib.Dec.{eqb}
use lib.ListN.{length}
use lib.Ieee.{Float, binary64}
use Rattle.model.specs.Values.{Parts, values_line}
use Rattle.form.specs.Lines.{further_line, size_line, shape_line}
use Rattle.form.proofs.Accepted.{further_first}

-- one or both of two lengths are wrong
abbrev wrong : ℕ → ℕ → ℕ → Bool
wrong n a b = not (eqb a n) || not (eqb b n)

joined : (a b : Bool) (rest : ℕ) → cond (a || b) 4 rest ≡ cond a 4 (cond b 4 rest)
joined true b rest = refl
joined false b rest = refl

two_buffers : (ld n : ℕ) (t : List Float) (s : Parts) → further_line ld n t (wrong n (length s.re) (length s.im)) ≡ values_line binary64 ld n t s
unfolding further_line values_line
two_buffers ld n t s = rw (joined (not (eqb (length s.re) n)) (not (eqb (length s.im) n)))

pub values_first : (ld n : ℕ) (t : List Float) (s : Parts)
    → values_line binary64 ld n t s ≡ cond (eqb (size_line ld n t) 0) (cond (wrong n (length s.re) (length s.im)) 4 (shape_line ld n t)) (size_line ld n t)
values_first ld n t s = sym (two_buffers ld n t s) ∙ further_first ld n t (wrong n (length s.re) (length s.im))
