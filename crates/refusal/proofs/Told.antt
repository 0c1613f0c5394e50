-- No line has the number 0. Assumes nothing.
use mathlib.Core.Path.{◌≡◌, refl}
use mathlib.Core.Bool.{false}
use lib.Dec.{eqb}
use Rattle.refusal.specs.Line.{line}
use Rattle.refusal.specs.declared.Refusal.{Refusal}
use Rattle.refusal.specs.declared.Refusal.TheVariants.{Text, RowCount, FormLength, BufferLength, DeepEntry, TouchingBlocks, Position, BlockSizes, RowsBeyond, AcrossBlock, TailLength, MoveList, Stride}

pub told : (r : Refusal) → eqb (line r) 0 ≡ false
told Text = refl
told RowCount = refl
told FormLength = refl
told BufferLength = refl
told DeepEntry = refl
told TouchingBlocks = refl
told Position = refl
told BlockSizes = refl
told RowsBeyond = refl
told AcrossBlock = refl
told TailLength = refl
told MoveList = refl
told Stride = refl
