-- Whether two made points may be connected, from the points alone: what `connectable` asks of them once both numbers are made.
use Rattle.std.specs.Prelude.{ℕ, cond, ◌&&◌, eqb, Err, Ok, Result, ⊤}
use Rattle.control_point.specs.Direction.{flip_of}
use Rattle.control_point.specs.Point.{side_of, is_opening}
use Rattle.control_point.specs.declared.refusal.Refusal.TheVariants.{Itself, Taken}
use Rattle.control_point.specs.declared.t_mesh_direction.TmeshDirection.{TmeshDirection}
use Rattle.control_point.specs.declared.t_mesh_control_point.TmeshControlPoint.{TmeshControlPoint}
use Rattle.control_point.specs.declared.refusal.Refusal.{Refusal}

-- of the first point in a direction to the other: their numbers, then the points
unfoldable pub may_connect : ℕ → ℕ → TmeshControlPoint → TmeshControlPoint → TmeshDirection → Result ⊤ Refusal
may_connect first other near far d =
    cond (eqb first other)
    (Err Itself)
    (cond (is_opening (side_of near d) && is_opening (side_of far (flip_of d))) (Ok tt) (Err Taken))
