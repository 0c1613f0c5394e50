-- What a line does to the counts, and what bytes of input do: the whole of a run but for reading and writing. Definitions only. Assumes nothing.
use Rattle.std.specs.Prelude.{ℕ, ◌+◌, ◌-◌, ◌≡◌, cond, List, [], ◌∷◌, ◌++◌, eqb, length, take, drop, Option, Some, None, option_and_then}
use Rattle.replay_text.specs.Text.{Read, words_of}
use Rattle.replay_text.specs.Names.{name_end, call_named}
use Rattle.replay_text.specs.Counts as Counts
use Rattle.replay_text.specs.declared.name.Call.{Call}
use Rattle.replay_text.specs.declared.count.Tally.{Tally}
use Rattle.replay_text.specs.declared.outcome.Outcome.{Outcome}
use Rattle.replay.specs.Table.{shown}

-- ---- a line

-- the call that a line names, and what its words show of it: the first is the line's index; what has none is no line
unfoldable pub shown_by : Option Call → Read → Option (Call × Outcome)
shown_by (Some call) r =
    option_and_then (λ n. cond (eqb n 0) None (Some (call, shown call (take (n - 1) (drop 1 r.out))))) r.found
shown_by None r = None

-- how many bytes of a line are told: its name and its index where it differs
unfoldable pub told : ℕ → Outcome → Option ℕ
told end Outcome.Same = None
told end Outcome.Differs = Some (end + 17)
told end Outcome.Malformed = None

-- what the room for a line's words holds, and the counts
pub record Desk : Type 0 where
  pub words : List ℕ
  pub tally : Tally

-- a line is run: what is told of it, and the desk after it
pub record Replayed : Type 0 where
  pub told : Option ℕ
  pub desk : Desk

-- a line of a call is counted by what it shows
unfoldable pub showing : ℕ → Option (Call × Outcome) → List ℕ → Tally → Replayed
unfolding told
showing end (Some p) words t = record { told = told end p.1; desk = record { words = words; tally = Counts.tallied p.0 p.1 t } }
showing end None words t = record { told = None; desk = record { words = words; tally = Counts.refused t } }

-- the name finds the call, the words are read, the call is made and its outcome counted
unfoldable pub replayed : List ℕ → Desk → Replayed
unfolding showing shown_by
replayed line d =
    let end = name_end line in
    let r = words_of line end d.words in
    showing end (shown_by (call_named (take end line)) r) r.out d.tally

-- ---- the input

-- no line of a call
unfoldable pub refused : Desk → Desk
refused d = record { words = d.words; tally = Counts.refused d.tally }

-- the bytes of the line that is not ended, and the desk
pub record State : Type 0 where
  pub line : List ℕ
  pub desk : Desk

-- the line is run; one that fills its room of 600,000 bytes is no line of a call
unfoldable pub run : State → Desk
unfolding replayed refused
run s = cond (eqb (length s.line) 600000) (refused s.desk) (replayed s.line s.desk).desk

-- the line ends: the next is empty
unfoldable pub ended : State → State
unfolding run
ended s = record { line = []; desk = run s }

-- one byte of input: a newline ends the line, any other is added while there is room
unfoldable pub taken : ℕ → State → State
unfolding ended
taken b s = cond (eqb b 10) (ended s) (cond (eqb (length s.line) 600000) s (record { line = s.line ++ b ∷ []; desk = s.desk }))

-- byte after byte
unfoldable pub taken_all : List ℕ → State → State
unfolding taken
taken_all [] s = s
taken_all (b ∷ bs) s = taken_all bs (taken b s)

-- some input takes one state to the other
pub record Leads (s t : State) : Type 0 where
  pub input : List ℕ
  pub is : t ≡ taken_all input s

-- at the input's end, a line that is not ended is no line of a call
unfoldable pub closed : State → Tally
closed s = cond (eqb (length s.line) 0) s.desk.tally (Counts.refused s.desk.tally)
