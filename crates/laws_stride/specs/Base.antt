-- Each call as it was before it took a stride: its lines without line 17, and n from one column to the next. The claim: with the stride n each call is this. Definitions only: the proofs are in proofs/. Assumes nothing.
use Rattle.std.specs.Prelude.{ℕ, ◌*◌, ◌≡◌, cond, List, [], ◌∷◌, eqb, length, take, drop, Float}
use Rattle.std.specs.Float.{Format}
use Rattle.model.specs.Lines.{first_of}
use Rattle.model.specs.Form.{row_count, form_length, factor_length, buffer_length, deep_entry, touching_blocks, position}
use Rattle.model.specs.Exchange.{block_sizes, past_the_end, across_edges, exchange, Exchanged, exchanged, exchange_call}
use Rattle.model.specs.Move.{move, Moved, moved, move_call}
use Rattle.model.specs.Values.{as_it_stands, Parts, BlockValues, values_from, block_values}
use Rattle.model.specs.Vectors.{Vectors, vectors_of, evd_from_real_schur, column_of}

unfoldable pub base_move : Format → ℕ → List Float → List Float → ℕ → ℕ → Moved
unfolding first_of
base_move f n t u from to =
    let line = first_of (row_count n ∷ form_length n n t ∷ factor_length n n u ∷ deep_entry f n n t ∷ touching_blocks f n n t ∷ position n from ∷ position n to ∷ []) in
    cond (eqb line 0) (moved f n n u (move f n n from to t)) (record { answer = line; landed = 0; swaps = 0; declined = 0; form = t; factor = u })

unfoldable pub base_exchange : Format → ℕ → List Float → List Float → ℕ → ℕ → ℕ → Exchanged
unfolding first_of
base_exchange f n t u j n1 n2 =
    let line =
    first_of
    (row_count n
    ∷ form_length n n t
    ∷ factor_length n n u
    ∷ deep_entry f n n t
    ∷ touching_blocks f n n t
    ∷ position n j
    ∷ block_sizes n1 n2
    ∷ past_the_end n j n1 n2
    ∷ across_edges f n n t j n1 n2
    ∷ []) in
    cond (eqb line 0) (exchanged f n n u (exchange f n n j n1 n2 t)) (record { answer = line; swaps = 0; declined = 0; form = t; factor = u })

unfoldable pub base_values : Format → ℕ → List Float → Parts → BlockValues
unfolding first_of
base_values f n t s =
    let line = first_of (row_count n ∷ form_length n n t ∷ buffer_length (length s.re) n ∷ buffer_length (length s.im) n ∷ deep_entry f n n t ∷ touching_blocks f n n t ∷ []) in
    cond (eqb line 0) (record { answer = 0; parts = values_from f (as_it_stands f) n t n 0 s }) (record { answer = line; parts = s })

unfoldable pub base_vectors : Format → ℕ → List Float → List Float → Vectors
unfolding first_of
base_vectors f n t v =
    let line = first_of (row_count n ∷ form_length n n t ∷ buffer_length (length v) (n * n) ∷ deep_entry f n n t ∷ touching_blocks f n n t ∷ []) in
    cond (eqb line 0) (record { answer = 0; v = vectors_of f n n t v }) (record { answer = line; v = v })

unfoldable pub base_column : ℕ → List Float → ℕ → List Float
unfolding first_of
base_column n v col = cond (eqb (first_of (row_count n ∷ buffer_length (length v) (n * n) ∷ position n col ∷ [])) 0) (take n (drop (n * col) v)) []

pub record StrideIsN : Type 0 where
  pub move : (f : Format) (n : ℕ) (t u : List Float) (from to : ℕ) → move_call f n n t u from to ≡ base_move f n t u from to
  pub exchange : (f : Format) (n : ℕ) (t u : List Float) (j n1 n2 : ℕ) → exchange_call f n n t u j n1 n2 ≡ base_exchange f n t u j n1 n2
  pub values : (f : Format) (n : ℕ) (t : List Float) (s : Parts) → block_values f n n t s ≡ base_values f n t s
  pub vectors : (f : Format) (n : ℕ) (t v : List Float) → evd_from_real_schur f n n t v ≡ base_vectors f n t v
  pub column : (n : ℕ) (v : List Float) (col : ℕ) → column_of n n v col ≡ base_column n v col
