-- The control makes the recorded calls. Assumes nothing.
use mathlib.Core.Path.{refl}
use Rattle.laws_dtrexc.specs.Dtrexc.{call, ilst_here, to_row, call_or_return, breaks, below, below3_past2, below3, label10, above, above3_past2, above3, label20, returned, updated, first_of, size_of, dtrexc_by, dtrexc}
use Rattle.laws_dtrexc.specs.Recorded.{zero_in, info_in, next_in, same_calls, agrees, all, runs, RecordedRuns}

pub recorded_runs : RecordedRuns
unfolding call ilst_here to_row call_or_return breaks below below3_past2 below3 label10 above above3_past2 above3 label20 returned updated first_of size_of dtrexc_by dtrexc zero_in info_in next_in same_calls agrees all runs
recorded_runs = refl
