-- `place` meets its contract: each store is one of the definition's, in its order.
use mathlib.Core.Path.{◌≡◌, refl, ◌∙◌, ap}
use lib.Ieee.{binary64, mul, sub}
use Rattle.float64.specs.Literals.{one_literal}
use Rattle.control_point.specs.Direction.{flip_of}
use Rattle.control_point.specs.Sides.{lent_sides, sides_with}
use Rattle.control_point.specs.declared.t_mesh_control_point.Side.TheVariants.{Opening}
use Rattle.control_point.specs.declared.t_mesh_direction.TmeshDirection.{TmeshDirection}
use Rattle.lent_points.specs.Lent.{Points, points_with, points_with_side, points_linked, lent_points}
use Rattle.lent_points.specs.declared.LentPoints.{LentPoints}
use Rattle.lent_points.proofs.LentLaws.{lent_side}
use Rattle.insertion.specs.Lent.{points_placed}
use Rattle.placing.proofs.place.Goals as goal

pub returns : goal.returns
unfolding points_placed
returns c =
    let a = c.args in
    let old = a.points.now in
    let near : LentPoints = record { sides = c.put_side.new.self; coordinates = old.coordinates } in
    let both : LentPoints = record { sides = c.put_side-2.new.self; coordinates = old.coordinates } in
    -- the points with the link cut, and with p made
    let cut = points_with_side (points_with_side (lent_points old) a.con a.direction Opening) a.other (flip_of a.direction) Opening in
    let cut_is : lent_points both ≡ cut =
    lent_side near both a.other (flip_of a.direction) Opening refl
    (c.put_side-2.ensures.1 ∙ ap (λ (d : TmeshDirection). sides_with (lent_sides near.sides) a.other d Opening) c.flip.ensures)
    ∙ ap (λ (points : Points). points_with_side points a.other (flip_of a.direction) Opening) (lent_side old near a.con a.direction Opening refl c.put_side.ensures.1) in
    let parted_is =
    c.put_lent_point.ensures.1
    ∙ ap (λ (points : Points). points_with points a.p c.point_in_line.result) cut_is
    ∙ ap (points_with cut a.p) c.point_in_line.ensures in (
      c.link-2.ensures.0,
      c.link-2.ensures.1
          ∙ ap (λ (points : Points). points_linked points a.p a.other a.direction (mul binary64 a.interval (sub binary64 one_literal a.ratio)))
          (c.link.ensures.1 ∙ ap (λ (points : Points). points_linked points a.con a.p a.direction (mul binary64 a.interval a.ratio)) parted_is),
    )
