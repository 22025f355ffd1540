-- The four directions of a mesh: up, right, down, left, numbered from 0 in that order, which is clockwise.
use Rattle.std.specs.Prelude.{ℕ, Bool, cond, eqb}
use Rattle.control_point.specs.declared.t_mesh_direction.TmeshDirection.{TmeshDirection}
use Rattle.control_point.specs.declared.t_mesh_direction.TmeshDirection.TheVariants.{Up, Right, Down, Left}

-- a quarter of a turn clockwise
abbrev pub clockwise_of : TmeshDirection → TmeshDirection
clockwise_of Up = Right
clockwise_of Right = Down
clockwise_of Down = Left
clockwise_of Left = Up

-- a quarter of a turn anticlockwise
abbrev pub anti_clockwise_of : TmeshDirection → TmeshDirection
anti_clockwise_of Up = Left
anti_clockwise_of Right = Up
anti_clockwise_of Down = Right
anti_clockwise_of Left = Down

-- the opposite
abbrev pub flip_of : TmeshDirection → TmeshDirection
flip_of Up = Down
flip_of Right = Left
flip_of Down = Up
flip_of Left = Right

abbrev pub direction_number : TmeshDirection → ℕ
direction_number Up = 0
direction_number Right = 1
direction_number Down = 2
direction_number Left = 3

-- the direction of a number; beyond 3 there is none, and the last one stands in
abbrev pub direction_numbered : ℕ → TmeshDirection
direction_numbered n = cond (eqb n 0) Up (cond (eqb n 1) Right (cond (eqb n 2) Down Left))

-- whether two directions are the same: their numbers are
abbrev pub same_direction : TmeshDirection → TmeshDirection → Bool
same_direction d e = eqb (direction_number d) (direction_number e)
