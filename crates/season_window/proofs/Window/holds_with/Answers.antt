-- `holds_with` meets its contract: two windows hold together where the part that they share can hold.
use mathlib.Core.Path.{ap, ◌∙◌}
use Rattle.season_window.proofs.DecisionLaws.{common_can_hold}
use Rattle.season_window.specs.Window.{can_hold}
use Rattle.season_window.proofs.Window.holds_with.Goals as goal

pub returns : goal.returns
returns c = c.can_hold.ensures ∙ ap can_hold c.common.ensures ∙ common_can_hold _ _
