-- What the report says: each row's name and numbers. Definitions only. Assumes nothing.
use Rattle.std.specs.Prelude.{ℕ, List, Option, Some, None}
use Rattle.model.specs.Ascii.{ascii}
use Rattle.replay_text.specs.Names.{name_of}
use Rattle.replay_text.specs.Counts.{of, total}
use Rattle.replay_text.specs.declared.name.Call.{Call}
use Rattle.replay_text.specs.declared.count.Count.{Count}
use Rattle.replay_text.specs.declared.count.Tally.{Tally}

-- a call's name, or that of the sums
abbrev pub title : Option Call → List ℕ
title (Some call) = name_of call
title None = ascii "all                         "

-- a call's numbers, or the sums over them
abbrev pub number : Option Call → Tally → Count
number (Some call) t = of call t
number None t = total t
