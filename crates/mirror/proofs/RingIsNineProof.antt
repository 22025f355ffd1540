-- The reading holds by computing.
use Rattle.std.specs.Prelude.{refl}
use Rattle.control_point.specs.Connect.{connectable}
use Rattle.control_point.specs.Point.{is_made}
use Rattle.control_point.specs.Sides.{sides_of}
use Rattle.navigation.specs.Walk.{onward, walk_of}
use Rattle.store.specs.Store.{empty_store, make_loose, connect_points, remove_edge_condition}
use Rattle.mirror.specs.Calls.{run_calls, call_numbers}
use Rattle.mirror.specs.Theorems.{RingIsNine}

pub ring_is_nine : RingIsNine
unfolding empty_store make_loose connect_points remove_edge_condition connectable is_made sides_of walk_of onward run_calls call_numbers
ring_is_nine = (refl, refl)
