-- `sheet::main` meets its contract. Assumes nothing.
use mathlib.Core.Path.{sym}
use lib.Seq.{length-take-le}
use Rattle.sheet_text.proofs.Whole.{inside}
use Rattle.sheet.proofs.main.Goals as goal

pub slice_bounds-out-end : goal.slice_bounds-out-end
slice_bounds-out-end c = let s = c.sheet in inside _ _ _ _ (rw c.unwrap-k.ensures at s.ensures.call) s.auto.out

pub slice_bounds-write_all-end : goal.slice_bounds-write_all-end
slice_bounds-write_all-end c =
    let s = c.sheet in
    sym (length-take-le _ _ (inside _ _ _ _ (rw c.unwrap-k.ensures at s.ensures.call) s.auto.out))
