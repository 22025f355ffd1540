-- Points and their sides. A side is a link with its interval, a border with its weight, or an opening; a point has one in each
-- direction, and the knot coordinates s, across, and t, upwards. Points are numbered from 0 as they are made, up to 128.
use Rattle.std.specs.Prelude.{ℕ, Bool, true, false, cond, ◌&&◌, List, ltb, Float, get_or}
use Rattle.std.specs.Float.{nan, binary64}
use Rattle.std.specs.Float.Ieee.{neg, add, sub}
use Rattle.float64.specs.Literals.{one_literal}
use Rattle.control_point.specs.Direction.{same_direction}
use Rattle.control_point.specs.declared.refusal.Refusal.{Refusal}
use Rattle.control_point.specs.declared.refusal.Refusal.TheVariants.{Taken, BorderSide, OpenSide}
use Rattle.control_point.specs.declared.t_mesh_direction.TmeshDirection.{TmeshDirection}
use Rattle.control_point.specs.declared.t_mesh_direction.TmeshDirection.TheVariants.{Up, Right, Down, Left}
use Rattle.control_point.specs.declared.t_mesh_control_point.Side.{Side}
use Rattle.control_point.specs.declared.t_mesh_control_point.Side.TheVariants.{Link, Border, Opening}
use Rattle.control_point.specs.declared.t_mesh_control_point.LinkEnd.{LinkEnd}
use Rattle.control_point.specs.declared.t_mesh_control_point.TmeshControlPoint.{TmeshControlPoint}

-- what a side is
abbrev pub is_link : Side → Bool
is_link (Link n interval) = true
is_link (Border weight) = false
is_link Opening = false

abbrev pub is_border : Side → Bool
is_border (Link n interval) = false
is_border (Border weight) = true
is_border Opening = false

abbrev pub is_opening : Side → Bool
is_opening (Link n interval) = false
is_opening (Border weight) = false
is_opening Opening = true

-- the refusal that speaks of what a side is: taken, a border, an open side
abbrev pub side_refusal : Side → Refusal
side_refusal (Link n interval) = Taken
side_refusal (Border weight) = BorderSide
side_refusal Opening = OpenSide

-- the other end of a link, by its point and the link's interval
abbrev pub link_end : ℕ → Float → LinkEnd
link_end n interval = record { point = n; interval = interval }

-- a point's side in a direction
abbrev pub side_of : TmeshControlPoint → TmeshDirection → Side
side_of p Up = p.up
side_of p Right = p.right
side_of p Down = p.down
side_of p Left = p.left

-- the point with another side in a direction
abbrev pub with_side : TmeshControlPoint → TmeshDirection → Side → TmeshControlPoint
with_side p d side =
    record {
      up = cond (same_direction Up d) side p.up;
      right = cond (same_direction Right d) side p.right;
      down = cond (same_direction Down d) side p.down;
      left = cond (same_direction Left d) side p.left;
      s = p.s;
      t = p.t;
    }

-- a coordinate across, and one upwards, moved in a direction by an interval (down, left: minus)
abbrev pub moved_across : Float → TmeshDirection → Float → Float
moved_across s Up interval = s
moved_across s Right interval = add binary64 s interval
moved_across s Down interval = s
moved_across s Left interval = sub binary64 s interval

abbrev pub moved_upwards : Float → TmeshDirection → Float → Float
moved_upwards t Up interval = add binary64 t interval
moved_upwards t Right interval = t
moved_upwards t Down interval = sub binary64 t interval
moved_upwards t Left interval = t

-- the point at the coordinates of another, moved in a direction by an interval
abbrev pub moved_from : TmeshControlPoint → TmeshControlPoint → TmeshDirection → Float → TmeshControlPoint
moved_from p from d interval =
    record {
      up = p.up;
      right = p.right;
      down = p.down;
      left = p.left;
      s = moved_across from.s d interval;
      t = moved_upwards from.t d interval;
    }

abbrev pub minus_one : Float
minus_one = neg one_literal

-- a new point: four borders of one weight, at (−1, −1)
abbrev pub loose_point : Float → TmeshControlPoint
loose_point weight =
    record { up = Border weight; right = Border weight; down = Border weight; left = Border weight; s = minus_one; t = minus_one }

-- the numbers of points, where so many are made; there is room for 128
unfoldable pub is_made : ℕ → ℕ → Bool
is_made made n = ltb n made && ltb n 128

-- what an element past the end of a list of points is taken for; no definition looks there
abbrev pub blank : TmeshControlPoint
blank = record { up = Link 0 nan; right = Link 0 nan; down = Link 0 nan; left = Link 0 nan; s = nan; t = nan }

abbrev pub point_at : List TmeshControlPoint → ℕ → TmeshControlPoint
point_at points n = get_or points n blank
