-- The openings of a store's made points, listed: by the number of the point, and for a point Up, Right, Down, Left. The answer of the call
-- `openings` and the lines of a report are both made of this one list.
use Rattle.std.specs.Prelude.{ℕ, zero, suc, ◌-◌, Bool, cond, ◌&&◌, List, [], ◌∷◌, ◌++◌, map, length, replicate}
use Rattle.control_point.specs.Direction.{direction_number}
use Rattle.control_point.specs.Point.{is_made, is_opening}
use Rattle.control_point.specs.declared.t_mesh_direction.TmeshDirection.{TmeshDirection}
use Rattle.control_point.specs.declared.t_mesh_direction.TmeshDirection.TheVariants.{Up, Right, Down, Left}
use Rattle.store.specs.Store.{store_sides}
use Rattle.store.specs.declared.store.Store.{Store}
use Rattle.openings.specs.declared.list.Openings.{Openings}

-- ---- the list
-- where a side stands: at which point, in which direction
pub record PointSide : Type 0 where
  pub point : ℕ
  pub direction : TmeshDirection

abbrev pub point_side : ℕ → TmeshDirection → PointSide
point_side n d = record { point = n; direction = d }

-- the four sides of a point, clockwise from up
abbrev pub four_sides : ℕ → List PointSide
four_sides n = point_side n Up ∷ (point_side n Right ∷ (point_side n Down ∷ (point_side n Left ∷ [])))

-- those of all points below a number, point by point
unfoldable pub sides_below : ℕ → List PointSide
sides_below zero = []
sides_below (suc n) = sides_below n ++ four_sides n

-- whether a side is an opening of a made point
abbrev pub is_open : Store → PointSide → Bool
is_open store side = is_made store.made side.point && is_opening (store_sides store side.point side.direction)

-- the openings of made points among some sides, in the order of these
unfoldable pub open_among : Store → List PointSide → List PointSide
open_among store [] = []
open_among store (side ∷ rest) = cond (is_open store side) (side ∷ open_among store rest) (open_among store rest)

-- the openings of a store, which has room for 128 points
abbrev pub openings_of : Store → List PointSide
openings_of store = open_among store (sides_below 128)

-- ---- the answer of the call
-- the numbers of a side's point and of its direction
abbrev pub point_entry : PointSide → ℕ
point_entry side = side.point

abbrev pub direction_entry : PointSide → ℕ
direction_entry side = direction_number side.direction

-- numbers at the front of an array with so much room, and 0 behind them
unfoldable pub padded : ℕ → List ℕ → List ℕ
padded room numbers = numbers ++ replicate (room - length numbers) 0

-- a list of sides in arrays of 512: how many there are, the numbers of their points, and those of their directions
unfoldable pub openings_answer : List PointSide → Openings
openings_answer sides =
    record {
      count = length sides;
      points = padded 512 (map point_entry sides);
      directions = padded 512 (map direction_entry sides);
    }
