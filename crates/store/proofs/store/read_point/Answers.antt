-- `read_point` meets its contract: a made number has room.
use mathlib.Core.Path.{◌∙◌, sym}
use Rattle.control_point.proofs.PointLaws.{is_made_room}
use Rattle.store.proofs.store.read_point.Goals as goal

pub point_at-requires : goal.point_at-requires
point_at-requires c = is_made_room _ _ ((sym c.is_made.ensures ∙ c.if-is_made.true))
