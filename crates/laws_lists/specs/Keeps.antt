-- The claims: what holds of every call on a form holds of a list of moves at once. Rows from n on stay, two strides give the same, what it leaves can be sent to any call again, and form and results are the same with a factor and without. Definitions only: proofs/Keeps.antt proves them. Assumes nothing.
-- Nothing is asked of the call: they hold of a list that is turned away, and of refused pairs.
use Rattle.std.specs.Prelude.{ℕ, ◌≡◌, List, length, Float}
use Rattle.std.specs.Float.{Format}
use Rattle.model.specs.Form.{line4, form_line}
use Rattle.model.specs.Lists.{Listed, list_call}
use Rattle.laws_stride.specs.Beyond.{BeyondStays}
use Rattle.laws_stride.specs.Strides.{Allowed, SameRows, SameFactor}
use Rattle.laws_shape.specs.Numbers.{InFormat}
use Rattle.laws_shape.specs.Chains.{CanBeSent}

-- ---- rows from n on

pub record ListBeyond : Type 0 where
  pub form : (f : Format) (ld n : ℕ) (t u : List Float) (ms rs : List ℕ) → BeyondStays ld n t (list_call f ld n t u ms rs).form
  pub factor : (f : Format) (ld n : ℕ) (t u : List Float) (ms rs : List ℕ) → BeyondStays ld n u (list_call f ld n t u ms rs).factor

-- ---- two strides

pub record SameListed (ld md n : ℕ) (r s : Listed) : Type 0 where
  pub answer : r.answer ≡ s.answer
  pub form : SameRows ld md n r.form s.form
  pub factor : SameFactor ld md n r.factor s.factor
  pub results : r.results ≡ s.results

abbrev pub ListStrides : Type 0
ListStrides =
    (f : Format) (ld md n : ℕ) (a b u v : List Float) (ms rs : List ℕ) → Allowed ld md n → SameRows ld md n a b → SameFactor ld md n u v
    → SameListed ld md n (list_call f ld n a u ms rs) (list_call f md n b v ms rs)

-- ---- sent back

pub record ListSentBack : Type 0 where
  -- from any accepted form
  pub form : (f : Format) (ld n : ℕ) (t u : List Float) (ms rs : List ℕ) → form_line f ld n t ≡ 0 → CanBeSent f ld n (list_call f ld n t u ms rs).form
  -- the buffers beside it come back as long as they were lent
  pub factor : (f : Format) (ld n : ℕ) (t u : List Float) (ms rs : List ℕ) → length (list_call f ld n t u ms rs).factor ≡ length u
  pub results : (f : Format) (ld n : ℕ) (t u : List Float) (ms rs : List ℕ) → length (list_call f ld n t u ms rs).results ≡ length rs
  -- and numbers of the format stay such
  pub form_numbers : (f : Format) (ld n : ℕ) (t u : List Float) (ms rs : List ℕ) → InFormat f t → InFormat f (list_call f ld n t u ms rs).form
  pub factor_numbers : (f : Format) (ld n : ℕ) (t u : List Float) (ms rs : List ℕ) → InFormat f u → InFormat f (list_call f ld n t u ms rs).factor

-- ---- with a factor and without

pub record SameButFactor (r s : Listed) : Type 0 where
  pub answer : r.answer ≡ s.answer
  pub form : r.form ≡ s.form
  pub results : r.results ≡ s.results

-- of two factors that line 4 turns away both or neither: so one may be of the full length, and the other none
abbrev pub ListSameWithout : Type 0
ListSameWithout =
    (f : Format) (ld n : ℕ) (t u v : List Float) (ms rs : List ℕ) → line4 ld n u ≡ line4 ld n v → SameButFactor (list_call f ld n t u ms rs) (list_call f ld n t v ms rs)
