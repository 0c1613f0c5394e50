-- The numbers that document 01's list gives its lines, and the number that a call answers. Definitions only. Assumes nothing.
use Rattle.std.specs.Prelude.{ℕ, Result, Ok, Err}
use Rattle.refusal.specs.declared.Refusal.{Refusal}
use Rattle.refusal.specs.declared.Refusal.TheVariants.{Text, RowCount, FormLength, BufferLength, DeepEntry, TouchingBlocks, Position, BlockSizes, RowsBeyond, AcrossBlock, TailLength, MoveList, Stride}

abbrev pub line : Refusal → ℕ
line Text = 1
line RowCount = 2
line FormLength = 3
line BufferLength = 4
line DeepEntry = 5
line TouchingBlocks = 6
line Position = 7
line BlockSizes = 8
line RowsBeyond = 9
line AcrossBlock = 10
line TailLength = 11
line MoveList = 12
line Stride = 17

-- what a call answers in C: 0, or the number of the line that turned it away
abbrev pub answer : {A : Type 0} → Result A Refusal → ℕ
answer (Ok a) = 0
answer (Err r) = line r
