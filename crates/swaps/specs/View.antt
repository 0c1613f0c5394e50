-- The crate's structs and arrays as the records of model. Definitions only. Assumes nothing.
use Rattle.std.specs.Prelude.{List, [], get_or, Float}
use Rattle.model.specs.Form.{at}
use Rattle.model.specs.Columns as Columns
use Rattle.model.specs.Swaps as Swaps
use Rattle.model.specs.Stopping as Stopping
use Rattle.swaps.specs.declared.kernels.Reflectors.{Reflectors}
use Rattle.swaps.specs.declared.window.Window.{Window}

-- an array of three numbers, and of four
abbrev pub triple : List Float → Columns.Triple
triple x = record { x0 = at x 0; x1 = at x 1; x2 = at x 2 }

abbrev pub quad : List Float → Columns.Quad
quad x = record { x0 = at x 0; x1 = at x 1; x2 = at x 2; x3 = at x 3 }

abbrev pub reflection3 : Reflectors 2 1 → Columns.Reflect3
reflection3 r = record { tau1 = r.first.tau; v11 = at r.first.v 0; v12 = at r.first.v 1; tau2 = r.second.tau; v21 = at r.second.v 0 }

abbrev pub reflection4 : Reflectors 3 2 → Columns.Reflect4
reflection4 r = record { tau1 = r.first.tau; v11 = at r.first.v 0; v12 = at r.first.v 1; v13 = at r.first.v 2; tau2 = r.second.tau; v21 = at r.second.v 0; v22 = at r.second.v 1 }

abbrev pub columns3 : List (List Float) → Stopping.Window3
columns3 w = record { c0 = triple (get_or w 0 []); c1 = triple (get_or w 1 []); c2 = triple (get_or w 2 []) }

abbrev pub columns4 : List (List Float) → Swaps.Window
columns4 w = record { c0 = quad (get_or w 0 []); c1 = quad (get_or w 1 []); c2 = quad (get_or w 2 []); c3 = quad (get_or w 3 []) }

abbrev pub window3 : Window 3 → Stopping.Window3
window3 w = columns3 w.columns

abbrev pub window4 : Window 4 → Swaps.Window
window4 w = columns4 w.columns
