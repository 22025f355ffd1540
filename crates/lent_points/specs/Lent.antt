-- The points of a store, lent as arrays of numbers: their sides in three, as `control_point` has them, and their coordinates in a fourth,
-- s and t of each point in turn. Such arrays hold the made points of a store; where its other points stand is for their owner to say.
use Rattle.std.specs.Prelude.{ℕ, ◌*◌, ◌+◌, ◌<◌, true, false, cond, List, ◌≡◌, eqb, Float, length, get_or, set}
use Rattle.std.specs.Float.{nan}
use Rattle.control_point.specs.Direction.{flip_of}
use Rattle.control_point.specs.Point.{with_side, moved_from, is_made, point_at}
use Rattle.control_point.specs.Sides.{Sides, lent_sides, Full}
use Rattle.control_point.specs.declared.t_mesh_control_point.Side.{Side}
use Rattle.control_point.specs.declared.t_mesh_control_point.Side.TheVariants.{Link}
use Rattle.control_point.specs.declared.t_mesh_control_point.TmeshControlPoint.{TmeshControlPoint}
use Rattle.control_point.specs.declared.t_mesh_direction.TmeshDirection.{TmeshDirection}
use Rattle.control_point.specs.declared.t_mesh_direction.TmeshDirection.TheVariants.{Up, Right, Down, Left}
use Rattle.lent_points.specs.declared.LentPoints.{LentPoints}
use Rattle.store.specs.Store.{store_point}
use Rattle.store.specs.declared.store.Store.{Store}

-- points as a function of their number
abbrev pub Points : Type 0
Points = ℕ → TmeshControlPoint

-- with another one under a number
abbrev pub points_with : Points → ℕ → TmeshControlPoint → Points
points_with points n p m = cond (eqb m n) p (points m)

-- with another side of one
abbrev pub points_with_side : Points → ℕ → TmeshDirection → Side → Points
points_with_side points n d side = points_with points n (with_side (points n) d side)

-- with two linked by an interval, as in a store
abbrev pub points_linked : Points → ℕ → ℕ → TmeshDirection → Float → Points
points_linked points first other d interval =
    points_with (points_with_side points first d (Link other interval))
    other
    (moved_from (with_side (points other) (flip_of d) (Link first interval)) (points first) d interval)

-- ---- the arrays
-- the coordinate across stands at twice the number, the one upwards after it
abbrev pub across_at : List Float → ℕ → Float
across_at coordinates n = get_or coordinates (n * 2) nan

abbrev pub upwards_at : List Float → ℕ → Float
upwards_at coordinates n = get_or coordinates (n * 2 + 1) nan

abbrev pub coordinates_with : List Float → ℕ → Float → Float → List Float
coordinates_with coordinates n s t = set (set coordinates (n * 2) s) (n * 2 + 1) t

-- the points of sides and coordinates
abbrev pub points_from : Sides → List Float → Points
points_from sides coordinates n =
    record {
      up = sides n Up;
      right = sides n Right;
      down = sides n Down;
      left = sides n Left;
      s = across_at coordinates n;
      t = upwards_at coordinates n;
    }

unfoldable pub lent_points : LentPoints → Points
lent_points points = points_from (lent_sides points.sides) points.coordinates

-- they have their lengths
abbrev pub Room : LentPoints → Type 0
Room points = Full points.sides × (length points.coordinates ≡ 256)

-- ---- a store's points, as lent: the made ones, and beyond those a list's
pub record Held (points : Points) (rest : List TmeshControlPoint) (store : Store) : Type 0 where
  pub room : length store.points ≡ 128
  pub held : (n : ℕ) → is_made store.made n ≡ true → store_point store n ≡ points n
  pub beyond : (n : ℕ) → is_made store.made n ≡ false → store_point store n ≡ point_at rest n

-- the first so many points are those of a list
abbrev pub FilledTo : ℕ → Points → List TmeshControlPoint → Type 0
FilledTo count points list = (n : ℕ) → n < count → points n ≡ point_at list n
