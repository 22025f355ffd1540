-- Whether two points may be connected: 11 for a number never made, 7 for the same point, 5 where a facing side is no opening.
-- `connect` and the search for an inferred link ask this same question.
use Rattle.std.specs.Prelude.{ℕ, cond, ◌&&◌, eqb, Err, Ok, Result, ⊤}
use Rattle.control_point.specs.Direction.{flip_of}
use Rattle.control_point.specs.Point.{is_made, is_opening}
use Rattle.control_point.specs.Sides.{Sides}
use Rattle.control_point.specs.declared.refusal.Refusal.TheVariants.{NoPoint, Itself, Taken}
use Rattle.control_point.specs.declared.t_mesh_direction.TmeshDirection.{TmeshDirection}
use Rattle.control_point.specs.declared.refusal.Refusal.{Refusal}

-- of the first point in a direction to the other, where so many are made
unfoldable pub connectable : Sides → ℕ → ℕ → ℕ → TmeshDirection → Result ⊤ Refusal
connectable sides made first other d =
    cond (is_made made first && is_made made other)
    (cond (eqb first other)
    (Err Itself)
    (cond (is_opening (sides first d) && is_opening (sides other (flip_of d))) (Ok tt) (Err Taken)))
    (Err NoPoint)
