-- The reading is computed.
use Rattle.std.specs.Prelude.{refl}
use Rattle.std.specs.Float.Ieee.{of_bits, of_fields, le, lt, eq, sub, add, div, sum, round, neg}
use Rattle.float64.specs.Unit.{in_unit}
use Rattle.control_point.specs.Connect.{connectable}
use Rattle.control_point.specs.Point.{is_made}
use Rattle.control_point.specs.Sides.{sides_of}
use Rattle.control_point.specs.Small.{millionth, small}
use Rattle.store.specs.Store.{connect_points, remove_connection}
use Rattle.insertion.specs.Insert.{insert_point, checked, checked_intervals}
use Rattle.t_mesh.specs.Insertion.{add_control_point}
use Rattle.t_mesh.specs.Tmesh.{new_tmesh}
use Rattle.soundness.specs.MapCalls.{map_after_all}
use Rattle.soundness.specs.Theorems.{RejoinedIsSix}

pub rejoined_is_six : RejoinedIsSix
unfolding map_after_all new_tmesh add_control_point insert_point in_unit checked checked_intervals connect_points remove_connection connectable is_made
    sides_of millionth small le lt eq of_bits of_fields add sub div sum round neg
rejoined_is_six at_bottom_left at_bottom_right at_top_right at_top_left position = refl
