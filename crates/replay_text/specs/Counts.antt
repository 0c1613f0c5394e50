-- The lines run of each call, and those that differ, by outcome. Definitions only. Assumes nothing.
use Rattle.std.specs.Prelude.{ℕ, ◌+◌, ◌%◌, ◌^◌, slice_index_or, slice_set, fold, replicate}
use Rattle.replay_text.specs.Names.{row}
use Rattle.replay_text.specs.declared.name.Call.{Call}
use Rattle.replay_text.specs.declared.outcome.Outcome.{Outcome}
use Rattle.replay_text.specs.declared.count.Count.{Count}
use Rattle.replay_text.specs.declared.count.Tally.{Tally}

-- one more, in 64 bits
abbrev pub counted : ℕ → ℕ
counted n = (n + 1) % 2 ^ 64

abbrev pub nothing : Count
nothing = record { run = 0; differ = 0 }

-- before the first line
abbrev pub none : Tally
none = record { calls = replicate 32 nothing; refused = 0 }

-- a call's count
abbrev pub of : Call → Tally → Count
of call t = slice_index_or t.calls (row call) nothing

-- no line of a call
abbrev pub refused : Tally → Tally
refused t = record { calls = t.calls; refused = counted t.refused }

-- a line is run, and differs or not; or it is no line of a call
unfoldable pub tallied : Call → Outcome → Tally → Tally
tallied call Outcome.Same t =
    let c = of call t in record { calls = slice_set t.calls (row call) (record { run = counted c.run; differ = c.differ }); refused = t.refused }
tallied call Outcome.Differs t =
    let c = of call t in record { calls = slice_set t.calls (row call) (record { run = counted c.run; differ = counted c.differ }); refused = t.refused }
tallied call Outcome.Malformed t = refused t

-- two counts together, in 64 bits
abbrev pub plus : Count → Count → Count
plus a b = record { run = (a.run + b.run) % 2 ^ 64; differ = (a.differ + b.differ) % 2 ^ 64 }

-- over all calls
abbrev pub total : Tally → Count
total t = fold plus nothing t.calls
