-- Proofs that along lines the operations on lists are those of model's Columns. They stand in specs because a trait's law may cite nothing else of its crate. Assumes nothing.
use Rattle.std.specs.Prelude.{◌≡◌, ℕ, zero, suc, ◌+◌, List, Float, refl}
use Rattle.std.proofs.Common.{add_assoc, add-zero}
use Rattle.std.specs.Float.{binary64}
use Rattle.model.specs.Form.{place}
use Rattle.model.specs.Jacobi.{Rotation}
use Rattle.model.specs.Columns.{Reflect3, Reflect4, rotate_at, reflect3_at, reflect4_at, rotate_run, reflect3_run, reflect4_run, on_rows, on_columns}
use Rattle.swaps.specs.Lines.{Lines, change_at, change_run}
use Rattle.swaps.specs.Kernels.{line, rotated, rotates_lines, reflected3, reflects3_lines, reflected4, reflects4_lines}

rotates_run : (r : Rotation) (step k from : ℕ) (p : ℕ → ℕ) (t : List Float) → rotate_run binary64 r step k (p 0 + from) (p 1 + from) t ≡ change_run 2 (rotated r) step k from p t
unfolding rotate_run rotate_at change_run
rotates_run r step zero from p t = refl
rotates_run r step (suc k) from p t =
    rw (add_assoc (p 0) from step, add_assoc (p 1) from step) (rotates_run r step k (from + step) p (change_at 2 (rotated r) (λ m. p m + from) t))

pub rotates_on : (r : Rotation) → Lines 2 (rotated r) (rotates_lines r)
unfolding on_rows on_columns
rotates_on r = record { rows = λ ld j count xs t. simp add-zero at (rotates_run r ld count 0 (λ m. place ld (line xs m) j) t); columns = λ ld count xs t. simp add-zero at (rotates_run r 1 count 0 (λ m. place ld 0 (line xs m)) t) }

reflects3_run : (v : Reflect3) (step k from : ℕ) (p : ℕ → ℕ) (t : List Float)
    → reflect3_run binary64 v step k (p 0 + from) (p 1 + from) (p 2 + from) t ≡ change_run 3 (reflected3 v) step k from p t
unfolding reflect3_run reflect3_at change_run
reflects3_run v step zero from p t = refl
reflects3_run v step (suc k) from p t =
    rw (add_assoc (p 0) from step, add_assoc (p 1) from step, add_assoc (p 2) from step) (reflects3_run v step k (from + step) p (change_at 3 (reflected3 v) (λ m. p m + from) t))

pub reflects3_on : (v : Reflect3) → Lines 3 (reflected3 v) (reflects3_lines v)
unfolding on_rows on_columns
reflects3_on v =
    record { rows = λ ld j count xs t. simp add-zero at (reflects3_run v ld count 0 (λ m. place ld (line xs m) j) t); columns = λ ld count xs t. simp add-zero at (reflects3_run v 1 count 0 (λ m. place ld 0 (line xs m)) t) }

reflects4_run : (v : Reflect4) (step k from : ℕ) (p : ℕ → ℕ) (t : List Float)
    → reflect4_run binary64 v step k (p 0 + from) (p 1 + from) (p 2 + from) (p 3 + from) t ≡ change_run 4 (reflected4 v) step k from p t
unfolding reflect4_run reflect4_at change_run
reflects4_run v step zero from p t = refl
reflects4_run v step (suc k) from p t =
    rw (add_assoc (p 0) from step, add_assoc (p 1) from step, add_assoc (p 2) from step, add_assoc (p 3) from step) (reflects4_run v step k (from + step) p (change_at 4 (reflected4 v) (λ m. p m + from) t))

pub reflects4_on : (v : Reflect4) → Lines 4 (reflected4 v) (reflects4_lines v)
unfolding on_rows on_columns
reflects4_on v =
    record { rows = λ ld j count xs t. simp add-zero at (reflects4_run v ld count 0 (λ m. place ld (line xs m) j) t); columns = λ ld count xs t. simp add-zero at (reflects4_run v 1 count 0 (λ m. place ld 0 (line xs m)) t) }
