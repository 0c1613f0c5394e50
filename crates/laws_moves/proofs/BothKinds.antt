-- On triangular forms the move that stops is 01's: what proofs/Move.antt says of a call, at the first move of a list. Assumes nothing.
use mathlib.Core.Path.{ap, ◌∙◌}
use mathlib.Core.Bool.{true}
use Rattle.model.specs.Stopping.{Stopped}
use Rattle.laws_moves.specs.Lists.{Move, count_from}
use Rattle.laws_moves.specs.Kinds.{StoppingOnTriangular}
use Rattle.laws_moves.proofs.Move.{called}
use Rattle.laws_moves.proofs.Lists.{begins}

pub stopping_on_triangular : StoppingOnTriangular
stopping_on_triangular f ld n t u from to h =
    let m : Move = record { stops = true; from = from; to = to; factor = u } in
    let c = called f ld n m t t (count_from n 0) (begins f ld n t h) in
    (c.kinds, ap (λ (s : Stopped). s.declined) c.kinds ∙ c.none)
