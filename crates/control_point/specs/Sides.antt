-- The sides of a mesh as a function of number and direction: all that a walk, a search or a ray reads of it. Here are those of a
-- list of points, and those of three arrays with the kind, the number and the interval of each side, in which they are lent.
use Rattle.std.specs.Prelude.{ℕ, ◌*◌, ◌+◌, cond, ◌&&◌, List, ◌≡◌, ltb, eqb, Float, length, get_or, Err, Ok, Result}
use Rattle.std.specs.Float.{nan}
use Rattle.float64.specs.Literals.{zero_literal}
use Rattle.control_point.specs.Direction.{direction_number, same_direction}
use Rattle.control_point.specs.Point.{side_of, point_at, is_made}
use Rattle.control_point.specs.declared.refusal.Refusal.TheVariants.{NoPoint}
use Rattle.control_point.specs.declared.t_mesh_direction.TmeshDirection.{TmeshDirection}
use Rattle.control_point.specs.declared.t_mesh_control_point.Side.{Side}
use Rattle.control_point.specs.declared.t_mesh_control_point.Side.TheVariants.{Link, Border, Opening}
use Rattle.control_point.specs.declared.t_mesh_control_point.TmeshControlPoint.{TmeshControlPoint}
use Rattle.control_point.specs.declared.sides.LentSides.{LentSides}
use Rattle.control_point.specs.declared.refusal.Refusal.{Refusal}

abbrev pub Sides : Type 0
Sides = ℕ → TmeshDirection → Side

-- a side of a point that may not have been made: 11 for a number never made
abbrev pub side_at : Sides → ℕ → ℕ → TmeshDirection → Result Side Refusal
side_at sides made n d = cond (is_made made n) (Ok (sides n d)) (Err NoPoint)

-- the sides of points; a number of 128 or more has openings
unfoldable pub sides_of : List TmeshControlPoint → Sides
sides_of points n d = cond (ltb n 128) (side_of (point_at points n) d) Opening

-- sides with another one, and with those of another point
abbrev pub sides_with : Sides → ℕ → TmeshDirection → Side → Sides
sides_with sides n d side m e = cond (eqb m n && same_direction e d) side (sides m e)

abbrev pub sides_with_point : Sides → ℕ → TmeshControlPoint → Sides
sides_with_point sides n p m e = cond (eqb m n) (side_of p e) (sides m e)

-- ---- the lent arrays
-- where a side stands in them
abbrev pub place : ℕ → TmeshDirection → ℕ
place n d = n * 4 + direction_number d

-- what they hold of a side
abbrev pub kind_of : Side → ℕ
kind_of (Link n interval) = 0
kind_of (Border weight) = 1
kind_of Opening = 2

abbrev pub linked_of : Side → ℕ
linked_of (Link n interval) = n
linked_of (Border weight) = 0
linked_of Opening = 0

abbrev pub interval_of : Side → Float
interval_of (Link n interval) = interval
interval_of (Border weight) = weight
interval_of Opening = zero_literal

-- the side of a kind, a number and an interval
abbrev pub side_from : ℕ → ℕ → Float → Side
side_from kind n interval = cond (eqb kind 0) (Link n interval) (cond (eqb kind 1) (Border interval) Opening)

-- the sides that they hold; a number of 128 or more has openings
unfoldable pub sides_in : List ℕ → List ℕ → List Float → Sides
sides_in kinds numbers intervals n d =
    cond (ltb n 128) (side_from (get_or kinds (place n d) 0) (get_or numbers (place n d) 0) (get_or intervals (place n d) nan)) Opening

abbrev pub lent_sides : LentSides → Sides
lent_sides sides = sides_in sides.kinds sides.numbers sides.intervals

-- they have their lengths
abbrev pub FullIn : List ℕ → List ℕ → List Float → Type 0
FullIn kinds numbers intervals = (length kinds ≡ 512) × ((length numbers ≡ 512) × (length intervals ≡ 512))

abbrev pub Full : LentSides → Type 0
Full sides = FullIn sides.kinds sides.numbers sides.intervals
