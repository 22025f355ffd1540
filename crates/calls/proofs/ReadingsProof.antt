-- The plate readings, by computing: the calls run on closed values, but for positions, which nothing looks at.
use Rattle.std.specs.Prelude.{refl}
use Rattle.std.specs.Float.Ieee.{of_bits, of_fields, add, sub, mul, div, sum, round, units, odd, size, span, climb, neg, le, lt, eq}
use Rattle.float64.specs.Unit.{in_unit}
use Rattle.basis.specs.Formula.{sum_of_terms, formula}
use Rattle.control_point.specs.Connect.{connectable}
use Rattle.control_point.specs.Point.{is_made}
use Rattle.control_point.specs.Sides.{sides_of}
use Rattle.control_point.specs.Small.{millionth, small}
use Rattle.navigation.specs.Walk.{onward, walk_of}
use Rattle.search.specs.Search.{judge_at, seek_from, find_inferred_connection}
use Rattle.store.specs.Store.{empty_store, make_loose, connect_points, remove_edge_condition}
use Rattle.insertion.specs.Insert.{checked, checked_intervals, placed, new_side, first_side, with_first, second_side, sided, insert_point}
use Rattle.ray_approach.specs.Approach.{approach_in, approach_of}
use Rattle.ray.specs.Ray.{ray_from, ray_of}
use Rattle.ray.specs.Knots.{knots_at, point_knot_vectors}
use Rattle.t_mesh.specs.Tmesh.{new_tmesh}
use Rattle.t_mesh.specs.Insertion.{add_control_point}
use Rattle.counting.specs.Counting.{count_below}
use Rattle.census.specs.Census.{counts_of}
use Rattle.calls.specs.Readings.{PlateReadings}

pub plate_readings : PlateReadings
unfolding new_tmesh add_control_point insert_point in_unit checked checked_intervals placed new_side first_side with_first second_side sided
    empty_store make_loose remove_edge_condition connect_points connectable is_made sides_of millionth small find_inferred_connection seek_from judge_at
    walk_of onward point_knot_vectors knots_at ray_of ray_from approach_of approach_in formula sum_of_terms counts_of count_below
    le lt eq of_bits of_fields add sub mul div sum round units odd size span climb neg
plate_readings at_bottom_left at_bottom_right at_top_right at_top_left position =
    record {
      knots_at_bottom_left = refl;
      knots_at_top_right = refl;
      basis_at_half = refl;
      ratio_one = refl;
      ratio_zero = refl;
      ratio_zero_made = refl;
      ratio_zero_listed = refl;
      from_torn = λ d. refl;
      second_infers = refl;
      five_to_four = refl;
      four_to_five = refl;
      seven_links = refl;
      ray_up = λ x y. refl;
      from_border = refl;
      ray_left = λ x y z. refl;
      ray_empty = refl;
      ring = refl;
    }
