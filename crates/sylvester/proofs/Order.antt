-- What is left of back substitution, from the last place up, and of exchanging two columns, row after row; a list of four by its numbers. Assumes nothing.
use Rattle.std.proofs.Common.{◌≡◌, ℕ, suc, ◌+◌, ◌-◌, ◌<◌, List, [], ◌∷◌, length, get_or, set, refl, ◌∙◌, arith}
use Rattle.std.specs.Float.{nan, binary64}
use Rattle.std.specs.Prelude.{zero, Float}
use Rattle.model.specs.Lasy2.{row, swap_places, swap_cols, entry_at}

-- x with its numbers at the k first places, from those behind them
unfoldable pub up_from : List (List Float) → List Float → ℕ → List Float → List Float
up_from t b zero x = x
up_from t b (suc k) x = up_from t b k (entry_at binary64 t b k x)

pub up_next : (t : List (List Float)) (b : List Float) (k : ℕ) (x y : List Float) → 0 < k → y ≡ entry_at binary64 t b (k - 1) x → up_from t b (k - 1) y ≡ up_from t b k x
unfolding up_from
up_next t b zero x y h e = absurd (omega arith)
up_next t b (suc k) x y h e = let s : suc k - 1 ≡ k = omega arith in rw (e, s)

pub up_none : (t : List (List Float)) (b : List Float) (k : ℕ) (x : List Float) → k ≡ 0 → up_from t b k x ≡ x
unfolding up_from
up_none t b k x h = rw h

-- t with the places i and j of k rows exchanged, from row r on
unfoldable pub cols_from : ℕ → ℕ → ℕ → ℕ → List (List Float) → List (List Float)
cols_from i j zero r t = t
cols_from i j (suc k) r t = cols_from i j k (r + 1) (set t r (swap_places (row t r) i j))

whole : (i j : ℕ) (t : List (List Float)) → length t ≡ 4 → cols_from i j 4 0 t ≡ swap_cols t i j
unfolding cols_from swap_cols
whole i j (a ∷ b ∷ c ∷ d ∷ []) h = refl
whole i j _ h = absurd (omega arith)

pub cols_done : (i j left r : ℕ) (t u : List (List Float)) → left ≡ 0 → length u ≡ 4 → cols_from i j left r t ≡ cols_from i j 4 0 u → t ≡ swap_cols u i j
unfolding cols_from
cols_done i j zero r t u z h e = e ∙ whole i j u h
cols_done i j (suc left) r t u z h e = absurd (omega arith)

pub four_is : (x : List Float) (a b c d : Float) → length x ≡ 4 → get_or x 0 nan ≡ a → get_or x 1 nan ≡ b → get_or x 2 nan ≡ c → get_or x 3 nan ≡ d → x ≡ a ∷ b ∷ c ∷ d ∷ []
four_is (p ∷ q ∷ r ∷ s ∷ []) a b c d l e f g h = rw (← e, ← f, ← g, ← h)
four_is _ a b c d l e f g h = absurd (omega arith)
