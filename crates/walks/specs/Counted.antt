-- Counts added up. Definitions only. Assumes nothing.
use Rattle.std.specs.Prelude.{◌+◌}
use Rattle.walks.specs.declared.counts.Counts.{Counts}

-- the counts of one after the other
abbrev pub both : Counts → Counts → Counts
both a b = record { swaps = a.swaps + b.swaps; declined = a.declined + b.declined }
