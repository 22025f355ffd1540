-- `put_lent_point` meets its contract: four sides and two coordinates stored are the point's.
use mathlib.Core.Path.{◌∙◌, ap}
use lib.ListN.{length}
use Rattle.control_point.specs.Sides.{Sides, lent_sides}
use Rattle.lent_points.specs.Lent.{coordinates_with, points_from, lent_points}
use Rattle.lent_points.proofs.LentLaws.{from_point, length_with}
use Rattle.lent_points.proofs.LentPoints.put_lent_point.Goals as goal

pub returns : goal.returns
unfolding lent_points
returns c =
    let a = c.args in
    let before = a.self.now in
    let after = c.put_coordinates.new.self in
    let stored = c.put_coordinates.ensures in (
      (rw stored.sides c.put_point.ensures.0, ap length stored.coordinates ∙ length_with before.coordinates c.requires.1.1 a.n c.requires.0 _ _),
      ap (points_from (lent_sides after.sides)) stored.coordinates
          ∙ ap (λ (sides : Sides). points_from sides (coordinates_with before.coordinates a.n a.point.s a.point.t)) (ap lent_sides stored.sides ∙ c.put_point.ensures.1)
          ∙ from_point (lent_sides before.sides) before.coordinates a.n c.requires.1.1 c.requires.0 a.point,
    )
