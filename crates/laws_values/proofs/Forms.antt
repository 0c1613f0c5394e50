-- The claims on whole calls: by induction over the rows that are left where whole buffers are alike, and row by row where the real parts may differ. Assumes nothing.
use mathlib.Core.Path.{◌≡◌, refl, sym, ◌∙◌}
use mathlib.Core.Bool.{Bool, true, false, cond}
use mathlib.Core.List.{List}
use mathlib.Core.Logic.{◌⊎◌, inl, inr}
use Prim.Native.Nat.{ℕ, zero, suc, ◌+◌, ◌<◌}
use native.Mathlib.Omega.{arith}
use lib.Dec.{eqb}
use lib.Ieee.{Float, Format}
use Rattle.model.specs.Form.{at, entry, nonzero_below, two_block}
use Rattle.model.specs.Schur22.{complex, values_of}
use Rattle.model.specs.Values.{imag_size_at, as_it_stands, standardised_first, read_at, Parts, BlockValues, one_value, two_values, values_from, values_line, values_read, block_values, standardised_values}
use Rattle.laws_values.specs.Rows.{OneBlock}
use Rattle.laws_values.specs.Blocks.{UnlikeZeros}
use Rattle.laws_values.specs.Forms.{AllStandard, AllLevel, ReadingsOfForms}
use Rattle.laws_values.proofs.Blocks.{readings_of_blocks}
use Rattle.laws_values.proofs.Rows.{rows_read, a-two}

abbrev given : ℕ → Parts → BlockValues
given k p = record { answer = k; parts = p }

-- two calls that differ in what is read alone
same_answer : (b : Bool) (line : ℕ) (s x y : Parts) → (cond b (given 0 x) (given line s)).answer ≡ (cond b (given 0 y) (given line s)).answer
same_answer true line s x y = refl
same_answer false line s x y = refl

same_part : (b : Bool) (line : ℕ) (s x y : Parts) → x.im ≡ y.im → (cond b (given 0 x) (given line s)).parts.im ≡ (cond b (given 0 y) (given line s)).parts.im
same_part true line s x y e = e
same_part false line s x y e = refl

-- two ways on, of which the first is taken only where the test passes: what is looked at is the same after either
either : {A : Type 0} (g : Parts → A) (b : Bool) (x x' y y' : Parts) → (b ≡ true → g x ≡ g x') → g y ≡ g y' → g (cond b x y) ≡ g (cond b x' y')
either g true x x' y y' u v = u refl
either g false x x' y y' u v = v

module _ (f : Format) (ld n : ℕ) (t : List Float) (all : AllStandard f ld n t) where
  new_pair : (j : ℕ) → two_block f ld n t j ≡ true → read_at (standardised_first f) ld t j ≡ complex (entry ld t j j) (entry ld t (j + 1) (j + 1)) (imag_size_at f ld t j)
  new_pair j b = readings_of_blocks.of_standard f _ _ _ _ (all j b)

  old_pair : (j : ℕ) → read_at (as_it_stands f) ld t j ≡ complex (entry ld t j j) (entry ld t j j) (imag_size_at f ld t j)
  unfolding as_it_stands
  old_pair j = refl

  -- ---- the imaginary parts

  two-im : (j : ℕ) (s p : Parts) → two_block f ld n t j ≡ true → s.im ≡ p.im → (two_values f (standardised_first f) ld t j s).im ≡ (two_values f (as_it_stands f) ld t j p).im
  unfolding two_values values_of
  two-im j s p b e = rw (new_pair j b, old_pair j, e)

  one-im : (j : ℕ) (s p : Parts) → s.im ≡ p.im → (one_value f ld t j s).im ≡ (one_value f ld t j p).im
  unfolding one_value
  one-im j s p e = rw e

  all-im : (k j : ℕ) (s p : Parts) → j + k ≡ n → s.im ≡ p.im → (values_from f (standardised_first f) ld t k j s).im ≡ (values_from f (as_it_stands f) ld t k j p).im
  unfolding values_from
  all-im zero j s p h e = e
  all-im (suc zero) j s p h e = one-im j s p e
  all-im (suc (suc k)) j s p h e =
      either (λ (q : Parts). q.im) (nonzero_below f ld t j) _ _ _ _
      (λ z. all-im k (j + 2) (two_values f (standardised_first f) ld t j s) (two_values f (as_it_stands f) ld t j p) (omega arith) (two-im j s p (a-two f ld n t j (omega arith) z) e))
      (all-im (suc k) (j + 1) (one_value f ld t j s) (one_value f ld t j p) (omega arith) (one-im j s p e))

  -- ---- all of it, where the diagonal numbers have the same bits

  module _ (level : AllLevel f ld n t) where
    two-same : (j : ℕ) (s : Parts) → two_block f ld n t j ≡ true → two_values f (standardised_first f) ld t j s ≡ two_values f (as_it_stands f) ld t j s
    unfolding two_values
    two-same j s b = rw (readings_of_blocks.same f _ _ _ _ (all j b) (level j b))

    all_same : (k j : ℕ) (s : Parts) → j + k ≡ n → values_from f (standardised_first f) ld t k j s ≡ values_from f (as_it_stands f) ld t k j s
    unfolding values_from
    all_same zero j s h = refl
    all_same (suc zero) j s h = refl
    all_same (suc (suc k)) j s h =
        either (λ (q : Parts). q) (nonzero_below f ld t j) _ _ _ _
        (λ z. rw (two-same j s (a-two f ld n t j (omega arith) z)) (all_same k (j + 2) (two_values f (as_it_stands f) ld t j s) (omega arith)))
        (all_same (suc k) (j + 1) (one_value f ld t j s) (omega arith))

  -- ---- the real parts, row by row

  module _ (s : Parts) (accepted : values_line f ld n t s ≡ 0) where
    first-row : (i : ℕ) → i < n → ((j : ℕ) → j + 1 ≡ i → two_block f ld n t j ≡ false) → at (block_values f ld n t s).parts.re i ≡ entry ld t i i
    unfolding values_of as_it_stands
    first-row i h above = go (two_block f ld n t i) refl
      where
        go : (b : Bool) → two_block f ld n t i ≡ b → at (block_values f ld n t s).parts.re i ≡ entry ld t i i
        go true b = ((rows_read f (as_it_stands f) ld n t s accepted).two i b).re1
        go false b = (rows_read f (as_it_stands f) ld n t s accepted).one_real i h (record { below = b; above = above })

    second-row : (j : ℕ) → two_block f ld n t j ≡ true → at (block_values f ld n t s).parts.re (j + 1) ≡ entry ld t j j
    unfolding values_of as_it_stands
    second-row j b = ((rows_read f (as_it_stands f) ld n t s accepted).two j b).re2

    -- of a copy, the row above begins a 2-block or does not
    new_first : (i : ℕ) → two_block f ld n t i ≡ true → at (standardised_values f ld n t s).parts.re i ≡ entry ld t i i
    unfolding values_of
    new_first i b = rw (new_pair i b) at ((rows_read f (standardised_first f) ld n t s accepted).two i b).re1

    new_second : (j : ℕ) → two_block f ld n t j ≡ true → at (standardised_values f ld n t s).parts.re (j + 1) ≡ entry ld t (j + 1) (j + 1)
    unfolding values_of
    new_second j b = rw (new_pair j b) at ((rows_read f (standardised_first f) ld n t s accepted).two j b).re2

    own_row : (i : ℕ) → i < n → at (standardised_values f ld n t s).parts.re i ≡ entry ld t i i
    own_row i h = go (two_block f ld n t i) refl i refl
      where
        one : OneBlock f ld n t i → at (standardised_values f ld n t s).parts.re i ≡ entry ld t i i
        one = (rows_read f (standardised_first f) ld n t s accepted).one_real i h

        below_it : two_block f ld n t i ≡ false → (j : ℕ) → i ≡ j + 1 → (b : Bool) → two_block f ld n t j ≡ b → at (standardised_values f ld n t s).parts.re i ≡ entry ld t i i
        below_it z j e true b = rw e (new_second j b)
        below_it z j e false b = one (record { below = z; above = λ k g. let same : k ≡ j = omega arith in rw same b })

        go : (b : Bool) → two_block f ld n t i ≡ b → (k : ℕ) → i ≡ k → at (standardised_values f ld n t s).parts.re i ≡ entry ld t i i
        go true b k e = new_first i b
        go false b zero e = one (record { below = b; above = λ j g. absurd (omega (arith, e, g)) })
        go false b (suc j) e = below_it b j (omega arith) (two_block f ld n t j) refl

    same_or_zeros_lem : (j : ℕ) → two_block f ld n t j ≡ true → (entry ld t j j ≡ entry ld t (j + 1) (j + 1)) ⊎ UnlikeZeros f (entry ld t j j) (entry ld t (j + 1) (j + 1))
        → (at (standardised_values f ld n t s).parts.re (j + 1) ≡ at (block_values f ld n t s).parts.re (j + 1)) ⊎ UnlikeZeros f (entry ld t j j) (entry ld t (j + 1) (j + 1))
    same_or_zeros_lem j b (inl e) = inl (new_second j b ∙ sym e ∙ sym (second-row j b))
    same_or_zeros_lem j b (inr z) = inr z

pub readings_of_forms : ReadingsOfForms
unfolding values_read
readings_of_forms =
    record {
      answer = λ f ld n t s. same_answer (eqb (values_line f ld n t s) 0) _ s _ _;
      on_standard = λ f ld n t s all.
          record {
            imaginary = same_part (eqb (values_line f ld n t s) 0) _ s _ _ (all-im f ld n t all n 0 s s (omega arith) refl);
            own = λ i h a. own_row f ld n t all s a i h;
            first = λ i h a above. first-row f ld n t all s a i h above;
            second = λ j a b. second-row f ld n t all s a j b;
            same = λ i h a above. own_row f ld n t all s a i h ∙ sym (first-row f ld n t all s a i h above);
            same_or_zeros = λ j a b p q. same_or_zeros_lem f ld n t all s a j b (readings_of_blocks.equal f _ _ p q (all j b).level);
            all = λ level. rw (all_same f ld n t all level n 0 s (omega arith));
          };
    }
