-- Names and their calls: what the definitions say, step by step. Assumes nothing.
use Rattle.std.proofs.Common.{◌≡◌, ℕ, ◌≤◌, Bool, true, false, eqb, List, [], ◌∷◌, length, refl, arith}
use Rattle.replay_text.specs.Names.{name_end}

pub name_bound : (s : List ℕ) → name_end s ≤ length s
unfolding name_end
name_bound [] = omega arith
name_bound (b ∷ bs) = by (name_bound bs) (eqb b 32) refl
  where
    by : name_end bs ≤ length bs → (t : Bool) → eqb b 32 ≡ t → name_end (b ∷ bs) ≤ length (b ∷ bs)
    by rest true e = rw e (omega arith)
    by rest false e = rw e (omega arith)
