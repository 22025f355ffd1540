-- `link` meets its contract: two facing sides and the other's coordinates stored are the linked points.
use mathlib.Core.Path.{◌≡◌, ◌∙◌, ap}
use lib.Ieee.{Float}
use lib.ListN.{length}
use Rattle.control_point.specs.Direction.{flip_of}
use Rattle.control_point.specs.Point.{moved_across, moved_upwards}
use Rattle.control_point.specs.declared.t_mesh_control_point.Side.TheVariants.{Link}
use Rattle.control_point.specs.declared.t_mesh_direction.TmeshDirection.{TmeshDirection}
use Rattle.control_point.specs.Sides.{Sides, lent_sides, sides_with}
use Rattle.lent_points.specs.Lent.{across_at, upwards_at, coordinates_with, points_from, lent_points}
use Rattle.lent_points.proofs.LentLaws.{from_linked, length_with}
use Rattle.lent_points.proofs.LentPoints.link.Goals as goal

pub returns : goal.returns
unfolding lent_points
returns c =
    let a = c.args in
    let pre = c.requires in
    let before = lent_sides a.self.now.sides in
    let coordinates = a.self.now.coordinates in
    let after = c.put_coordinates.new.self in
    let stored = c.put_coordinates.ensures in
    let linked = sides_with (sides_with before a.first a.direction (Link a.other a.interval)) a.other (flip_of a.direction) (Link a.first a.interval) in
    let sides_are : lent_sides after.sides ≡ linked =
    ap lent_sides stored.sides
    ∙ c.put_side-2.ensures.1
    ∙ ap (λ (d : TmeshDirection). sides_with (lent_sides c.put_side.new.self) a.other d (Link a.first a.interval)) c.flip.ensures
    ∙ ap (λ (sides : Sides). sides_with sides a.other (flip_of a.direction) (Link a.first a.interval)) c.put_side.ensures.1 in
    let s = moved_across (across_at coordinates a.first) a.direction a.interval in
    let t = moved_upwards (upwards_at coordinates a.first) a.direction a.interval in
    let coordinates_are : after.coordinates ≡ coordinates_with coordinates a.other s t =
    stored.coordinates
    ∙ ap (λ (x : Float). coordinates_with coordinates a.other x c.moved_upwards-t.result)
    (c.moved_across-s.ensures ∙ ap (λ (x : Float). moved_across x a.direction a.interval) c.across_at.ensures)
    ∙ ap (coordinates_with coordinates a.other s)
    (c.moved_upwards-t.ensures ∙ ap (λ (x : Float). moved_upwards x a.direction a.interval) c.upwards_at.ensures) in (
      (rw stored.sides c.put_side-2.ensures.0, ap length coordinates_are ∙ length_with coordinates pre.1.1 a.other pre.0.1.0 _ _),
      ap (λ (sides : Sides). points_from sides after.coordinates) sides_are
          ∙ ap (points_from linked) coordinates_are
          ∙ from_linked before coordinates pre.1.1 a.first a.other pre.0.1.0 pre.0.1.1 a.direction a.interval,
    )
