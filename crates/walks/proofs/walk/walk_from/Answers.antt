-- `walks::walk::walk_from` meets its contract. Assumes nothing.
use mathlib.Core.Path.{◌∙◌}
use Rattle.std.proofs.Common.{rules}
use Rattle.walks.proofs.Ways.{stays-is, goes_down, goes_up}
use Rattle.walks.proofs.walk.walk_from.Goals as goal

pub returns-in-Equal : goal.returns-in-Equal
returns-in-Equal g c = stays-is _ _ _ _ _ _ c.at-block.ensures.0 c.default.ensures (search rules)

pub returns-in-Less : goal.returns-in-Less
returns-in-Less g c = goes_down _ _ _ _ _ _ c.at-block.ensures.0 c.default.ensures (search rules) (c.rows.ensures ∙ c.at-block.ensures.1) c.size_at.ensures.0 c.goal_down-goal.ensures.0 c.walk_down.ensures

pub returns-in-Greater : goal.returns-in-Greater
returns-in-Greater g c = goes_up _ _ _ _ _ _ c.at-block.ensures.0 c.default.ensures (search rules) c.walk_up.ensures
