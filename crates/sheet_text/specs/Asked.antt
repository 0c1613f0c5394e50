-- The move that a request asks for. Definitions only. Assumes nothing.
use Rattle.std.specs.Float.{binary64}
use Rattle.model.specs.Move.{Moved, move_call}
use Rattle.model.specs.Text.{Request, numbers}

abbrev pub asked : Request → Moved
asked r = move_call binary64 r.n r.n (numbers r.form) (numbers r.factor) r.from r.to
