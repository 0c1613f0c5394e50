-- What a method that prints on a page does. Definitions only. Assumes nothing.
use Rattle.std.specs.Prelude.{ℕ, ◌≡◌, ◌≤◌, List, length}
use Rattle.sheet_words.specs.Put.{Put}
use Rattle.sheet_words.specs.declared.print.Page.{Page}

-- the list then stands after what was printed, in the same buffer
pub record Puts (before : Page) (list : List ℕ) (after : Page) : Type 0 where
  pub buffer : after.out.ghost_name ≡ before.out.ghost_name
  pub room : length after.out.now ≡ length before.out.now
  pub inside : after.at ≤ length before.out.now
  pub put : Put before.out.now before.at list after.out.now after.at
