-- `point_is_right` meets its contract: four sides and two coordinates, each compared at its place.
use mathlib.Core.Path.{refl}
use Rattle.stored_calls.specs.Points.{point_is_right}
use Rattle.stored_calls.proofs.points.point_is_right.Goals as goal

pub returns : goal.returns
unfolding point_is_right
returns c = rw (c.both-2.ensures, c.both.ensures, c.both-coordinates.ensures, c.float_is_at-2.ensures, c.float_is_at.ensures, c.both-down_left.ensures, c.side_is_at-4.ensures, c.side_is_at-3.ensures, c.both-up_right.ensures, c.side_is_at-2.ensures, c.side_is_at.ensures) refl
