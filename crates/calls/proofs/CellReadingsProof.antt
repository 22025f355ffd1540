-- The readings of cells, by computing: the calls run on closed values, but for positions, which nothing looks at.
use Rattle.std.specs.Prelude.{refl}
use Rattle.std.specs.Int.Count.{ones, ones_in}
use Rattle.std.specs.Float.Ieee.{of_bits, of_fields, of_int, add, sub, mul, div, sum, round, units, odd, size, span, climb, neg, le, lt, eq}
use Rattle.float64.specs.Unit.{in_unit}
use Rattle.values.specs.Values.{values_from}
use Rattle.bit_words.specs.Words.{word_from}
use Rattle.control_point.specs.Connect.{connectable}
use Rattle.control_point.specs.Point.{is_made}
use Rattle.control_point.specs.Sides.{sides_of}
use Rattle.control_point.specs.Small.{millionth, small}
use Rattle.grid.specs.Grid.{line}
use Rattle.grid_index.specs.Index.{index_of}
use Rattle.navigation.specs.Walk.{onward, walk_of}
use Rattle.search.specs.Search.{judge_at, seek_from, find_inferred_connection}
use Rattle.store.specs.Store.{make_loose, connect_points}
use Rattle.insertion.specs.Insert.{checked, checked_intervals, placed, new_side, first_side, with_first, second_side, sided, insert_point}
use Rattle.ray_approach.specs.Approach.{approach_in, approach_of}
use Rattle.ray.specs.Ray.{ray_from, ray_of}
use Rattle.ray.specs.Knots.{knots_at, point_knot_vectors}
use Rattle.t_mesh.specs.Tmesh.{new_tmesh}
use Rattle.t_mesh.specs.Insertion.{add_control_point}
use Rattle.knot_vectors.specs.Knots.{rows_from, all_knots, generate_knot_vectors}
use Rattle.surface.specs.Evaluation.{with_knots}
use Rattle.cells.specs.Cells.{cell_points}
use Rattle.calls.specs.CellReadings.{loosened, PlateCells}

pub plate_cells : PlateCells
unfolding new_tmesh add_control_point insert_point in_unit checked checked_intervals placed new_side first_side with_first second_side sided
    make_loose loosened connect_points connectable is_made sides_of millionth small find_inferred_connection seek_from judge_at
    walk_of onward point_knot_vectors knots_at ray_of ray_from approach_of approach_in
    cell_points with_knots generate_knot_vectors all_knots rows_from index_of values_from word_from line ones ones_in
    le lt eq of_bits of_fields of_int add sub mul div sum round units odd size span climb neg
plate_cells at_bottom_left at_bottom_right at_top_right at_top_left position = record { all_corners = refl; one_misses = refl; second_word = refl }
