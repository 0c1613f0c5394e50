-- `replay_lists::places::places` meets its contract. Assumes nothing.
use Rattle.std.proofs.Common.{◌∙◌, arith, rules}
use Rattle.std.proofs.lemmas.List.{map-id}
use Rattle.replay_lists.proofs.places.places.Goals as goal

pub returns : goal.returns
returns c = record { cases = (c.fill.ensures (λ w. w) (λ x y h. search rules) ∙ map-id _, omega arith) }
