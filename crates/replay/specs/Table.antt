-- What a line of each call shows. Definitions only. Assumes nothing.
use Rattle.std.specs.Prelude.{ℕ, List}
use Rattle.replay_text.specs.declared.name.Call.{Call}
use Rattle.replay_text.specs.declared.name.Call.TheVariants.{Abs, Abs1, Abs2, Recip, MulPow2, Fmax, Fmin, Sqrt, Hypot, NormL2, Rotg, Adjoint, Apply, MakeHouseholderInPlace, LahqrSchur22, Lasy2, SchurSwap, ReorderSchur, BlockValues, EvdFromRealSchur, Column, SchurSwapLd, ReorderSchurLd, BlockValuesLd, EvdFromRealSchurLd, ColumnLd, StandardisedValues, StandardisedValuesLd, ReorderSchurStopping, ReorderSchurStoppingLd, ReorderSchurList, ReorderSchurListLd}
use Rattle.replay_text.specs.declared.outcome.Outcome.{Outcome}
use Rattle.replay_forms.specs.Lines as Forms
use Rattle.replay_lists.specs.Lines as Lists
use Rattle.replay_calls.specs.Lines as Lines

abbrev pub shown : Call → List ℕ → Outcome
shown Abs = Lines.abs
shown Abs1 = Lines.abs1
shown Abs2 = Lines.abs2
shown Recip = Lines.recip
shown MulPow2 = Lines.mul_pow2
shown Fmax = Lines.fmax
shown Fmin = Lines.fmin
shown Sqrt = Lines.sqrt
shown Hypot = Lines.hypot
shown NormL2 = Lines.norm_l2
shown Rotg = Lines.rotg
shown Adjoint = Lines.adjoint
shown Apply = Lines.apply
shown MakeHouseholderInPlace = Lines.make_householder_in_place
shown LahqrSchur22 = Lines.lahqr_schur22
shown Lasy2 = Lines.lasy2
shown SchurSwap = Forms.schur_swap 0
shown ReorderSchur = Forms.reorder_schur 0
shown BlockValues = Forms.block_values 0
shown EvdFromRealSchur = Forms.evd_from_real_schur 0
shown Column = Forms.column 0
shown SchurSwapLd = Forms.schur_swap 1
shown ReorderSchurLd = Forms.reorder_schur 1
shown BlockValuesLd = Forms.block_values 1
shown EvdFromRealSchurLd = Forms.evd_from_real_schur 1
shown ColumnLd = Forms.column 1
shown StandardisedValues = Forms.standardised_values 0
shown StandardisedValuesLd = Forms.standardised_values 1
shown ReorderSchurStopping = Forms.reorder_schur_stopping 0
shown ReorderSchurStoppingLd = Forms.reorder_schur_stopping 1
shown ReorderSchurList = Lists.reorder_schur_list 0
shown ReorderSchurListLd = Lists.reorder_schur_list 1
