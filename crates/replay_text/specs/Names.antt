-- The calls' names, and the call that a line names. Definitions only. Assumes nothing.
use Rattle.std.specs.Prelude.{ℕ, suc, cond, List, [], ◌∷◌, ◌++◌, length, drop, replicate, ◌==◌, nat_lt, Option, Some, None, find, option_and_then, bytes_eq}
use Rattle.model.specs.Ascii.{ascii}
use Rattle.replay_text.specs.declared.name.Call.{Call}
use Rattle.replay_text.specs.declared.name.Call.TheVariants.{Abs, Abs1, Abs2, Recip, MulPow2, Fmax, Fmin, Sqrt, Hypot, NormL2, Rotg, Adjoint, Apply, MakeHouseholderInPlace, LahqrSchur22, Lasy2, SchurSwap, ReorderSchur, BlockValues, EvdFromRealSchur, Column, SchurSwapLd, ReorderSchurLd, BlockValuesLd, EvdFromRealSchurLd, ColumnLd, StandardisedValues, StandardisedValuesLd, ReorderSchurStopping, ReorderSchurStoppingLd, ReorderSchurList, ReorderSchurListLd}

abbrev pub name_of : Call → List ℕ
name_of Abs = ascii "abs                         "
name_of Abs1 = ascii "abs1                        "
name_of Abs2 = ascii "abs2                        "
name_of Recip = ascii "recip                       "
name_of MulPow2 = ascii "mul_pow2                    "
name_of Fmax = ascii "fmax                        "
name_of Fmin = ascii "fmin                        "
name_of Sqrt = ascii "sqrt                        "
name_of Hypot = ascii "hypot                       "
name_of NormL2 = ascii "norm_l2                     "
name_of Rotg = ascii "rotg                        "
name_of Adjoint = ascii "adjoint                     "
name_of Apply = ascii "apply                       "
name_of MakeHouseholderInPlace = ascii "make_householder_in_place   "
name_of LahqrSchur22 = ascii "lahqr_schur22               "
name_of Lasy2 = ascii "lasy2                       "
name_of SchurSwap = ascii "schur_swap                  "
name_of ReorderSchur = ascii "reorder_schur               "
name_of BlockValues = ascii "block_values                "
name_of EvdFromRealSchur = ascii "evd_from_real_schur         "
name_of Column = ascii "column                      "
name_of SchurSwapLd = ascii "schur_swap_ld               "
name_of ReorderSchurLd = ascii "reorder_schur_ld            "
name_of BlockValuesLd = ascii "block_values_ld             "
name_of EvdFromRealSchurLd = ascii "evd_from_real_schur_ld      "
name_of ColumnLd = ascii "column_ld                   "
name_of StandardisedValues = ascii "standardised_values         "
name_of StandardisedValuesLd = ascii "standardised_values_ld      "
name_of ReorderSchurStopping = ascii "reorder_schur_stopping      "
name_of ReorderSchurStoppingLd = ascii "reorder_schur_stopping_ld   "
name_of ReorderSchurList = ascii "reorder_schur_list          "
name_of ReorderSchurListLd = ascii "reorder_schur_list_ld       "

-- all calls, in the order of the report
abbrev pub all : List Call
all =
    Abs
    ∷ Abs1
    ∷ Abs2
    ∷ Recip
    ∷ MulPow2
    ∷ Fmax
    ∷ Fmin
    ∷ Sqrt
    ∷ Hypot
    ∷ NormL2
    ∷ Rotg
    ∷ Adjoint
    ∷ Apply
    ∷ MakeHouseholderInPlace
    ∷ LahqrSchur22
    ∷ Lasy2
    ∷ SchurSwap
    ∷ ReorderSchur
    ∷ BlockValues
    ∷ EvdFromRealSchur
    ∷ Column
    ∷ SchurSwapLd
    ∷ ReorderSchurLd
    ∷ BlockValuesLd
    ∷ EvdFromRealSchurLd
    ∷ ColumnLd
    ∷ StandardisedValues
    ∷ StandardisedValuesLd
    ∷ ReorderSchurStopping
    ∷ ReorderSchurStoppingLd
    ∷ ReorderSchurList
    ∷ ReorderSchurListLd
    ∷ []

abbrev pub row : Call → ℕ
row Abs = 0
row Abs1 = 1
row Abs2 = 2
row Recip = 3
row MulPow2 = 4
row Fmax = 5
row Fmin = 6
row Sqrt = 7
row Hypot = 8
row NormL2 = 9
row Rotg = 10
row Adjoint = 11
row Apply = 12
row MakeHouseholderInPlace = 13
row LahqrSchur22 = 14
row Lasy2 = 15
row SchurSwap = 16
row ReorderSchur = 17
row BlockValues = 18
row EvdFromRealSchur = 19
row Column = 20
row SchurSwapLd = 21
row ReorderSchurLd = 22
row BlockValuesLd = 23
row EvdFromRealSchurLd = 24
row ColumnLd = 25
row StandardisedValues = 26
row StandardisedValuesLd = 27
row ReorderSchurStopping = 28
row ReorderSchurStoppingLd = 29
row ReorderSchurList = 30
row ReorderSchurListLd = 31

-- the first call that has the name
unfoldable pub call_of : List ℕ → Option Call
call_of name = find (λ call. bytes_eq name (name_of call)) all

-- how many bytes of a line stand before the first space
unfoldable pub name_end : List ℕ → ℕ
name_end [] = 0
name_end (b ∷ bs) = cond (b == 32) 0 (suc (name_end bs))

-- a name with spaces after it, 28 bytes in all; a longer one is none
unfoldable pub padded : List ℕ → Option (List ℕ)
padded name = cond (nat_lt 28 (length name)) None (Some (name ++ drop (length name) (replicate 28 32)))

-- the call of the name that a line begins with
unfoldable pub call_named : List ℕ → Option Call
unfolding call_of padded
call_named name = option_and_then call_of (padded name)
