-- The claim that of document 01's lines the first in 01's order is told, in whatever order a call names them. Definitions only: proofs/InOrder.antt proves it. Assumes nothing.
use Rattle.std.specs.Prelude.{ℕ, ◌≡◌, Bool, cond, [], ◌∷◌}
use Rattle.model.specs.Lines.{Line, first_of}

abbrev line : ℕ → Bool → Line
line number applies = record { number = number; applies = applies }

-- all thirteen, named in another order: the first that applies, or 0
abbrev pub InOrder : Type 0
InOrder =
    (b1 b12 b2 b17 b3 b4 b5 b6 b7 b8 b9 b10 b11 : Bool)
    → first_of (line 17 b17 ∷ line 12 b12 ∷ line 11 b11 ∷ line 10 b10 ∷ line 9 b9 ∷ line 8 b8 ∷ line 7 b7 ∷ line 6 b6 ∷ line 5 b5 ∷ line 4 b4 ∷ line 3 b3 ∷ line 2 b2 ∷ line 1 b1 ∷ [])
    ≡ cond b1 1 (cond b12 12 (cond b2 2 (cond b17 17 (cond b3 3 (cond b4 4 (cond b5 5 (cond b6 6 (cond b7 7 (cond b8 8 (cond b9 9 (cond b10 10 (cond b11 11 0))))))))))))
