-- The readings of set-points, by computing.
use Rattle.std.specs.Prelude.{refl}
use Rattle.std.specs.Float.Ieee.{of_bits, of_fields, add, sub, mul, div, sum, round, units, odd, size, span, climb, neg, le, lt, eq}
use Rattle.float64.specs.Unit.{in_unit}
use Rattle.basis.specs.Formula.{sum_of_terms, formula}
use Rattle.control_point.specs.Point.{is_made}
use Rattle.control_point.specs.Sides.{sides_of}
use Rattle.control_point.specs.Small.{millionth, small}
use Rattle.navigation.specs.Walk.{onward, walk_of}
use Rattle.ray_approach.specs.Approach.{approach_in, approach_of}
use Rattle.ray.specs.Ray.{ray_from, ray_of}
use Rattle.ray.specs.Knots.{knots_at, point_knot_vectors}
use Rattle.t_mesh.specs.Tmesh.{new_tmesh}
use Rattle.pull.specs.Pull.{set_pull}
use Rattle.knot_vectors.specs.Knots.{rows_from, all_knots, generate_knot_vectors}
use Rattle.surface.specs.Evaluation.{sum_from, value_of, with_knots, subs_of}
use Rattle.surface.specs.SetPoint.{where_weighty, set_point}
use Rattle.calls.specs.SetPointReadings.{SetPointReadings}

pub set_point_readings : SetPointReadings
unfolding new_tmesh set_point in_unit where_weighty subs_of with_knots set_pull is_made sides_of millionth small walk_of onward
    generate_knot_vectors all_knots rows_from point_knot_vectors knots_at ray_of ray_from approach_of approach_in value_of sum_from formula sum_of_terms
    le lt eq of_bits of_fields add sub mul div sum round units odd size span climb neg
set_point_readings =
    record {
      beyond = refl;
      beyond_off = refl;
      none_kept = refl;
      kept = refl;
      with_knots_lem = refl;
      s_above = refl;
      t_above = refl;
      s_below = refl;
      t_below = refl;
      s_infinite = refl;
      t_infinite = refl;
      s_not_a_number = refl;
      t_not_a_number = refl;
      least = (refl, refl);
      minus_zero_lem = (refl, refl);
      most = (refl, refl);
      beside = (refl, refl);
      weightless_off = refl;
      weightless = (refl, refl);
    }
