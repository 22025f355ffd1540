-- Whether two points may be connected is asked of the sides of made points alone.
use Rattle.std.specs.Prelude.{ℕ, ◌≡◌, refl, Bool, true, false, cond, ◌&&◌, eqb, Err, Ok, Result, ⊤}
use Rattle.control_point.specs.Connect.{connectable}
use Rattle.control_point.specs.Direction.{flip_of}
use Rattle.control_point.specs.Point.{is_made, is_opening}
use Rattle.control_point.specs.Sides.{Sides}
use Rattle.control_point.proofs.SidesLaws.{Agree}
use Rattle.control_point.specs.declared.refusal.Refusal.TheVariants.{NoPoint, Itself, Taken}
use Rattle.control_point.specs.declared.t_mesh_direction.TmeshDirection.{TmeshDirection}
use Rattle.control_point.specs.declared.refusal.Refusal.{Refusal}

pub connectable_agrees : (made : ℕ) (sides others : Sides) (agree : Agree made sides others) (first other : ℕ) (d : TmeshDirection)
    → connectable sides made first other d ≡ connectable others made first other d
unfolding connectable
connectable_agrees made sides others agree first other d = by_tests (is_made made first) (is_made made other) refl refl
  where
    asked : Sides → Result ⊤ Refusal
    asked over = cond (eqb first other) (Err Itself) (cond (is_opening (over first d) && is_opening (over other (flip_of d))) (Ok tt) (Err Taken))

    by_tests : (a b : Bool) → is_made made first ≡ a → is_made made other ≡ b → cond (a && b) (asked sides) (Err NoPoint) ≡ cond (a && b) (asked others) (Err NoPoint)
    by_tests true true f o = rw (agree first d f, agree other (flip_of d) o)
    by_tests true false f o = refl
    by_tests false b f o = refl
