-- The reading holds by computing: the answers from the run of the edits, the counts and the openings from the mesh that it leaves.
use Rattle.std.specs.Prelude.{refl}
use Rattle.std.specs.Float.Ieee.{of_bits, of_fields, add, sub, mul, div, sum, round, units, odd, size, span, climb, neg, le, lt, eq}
use Rattle.float64.specs.Unit.{in_unit}
use Rattle.counting.specs.Counting.{count_below}
use Rattle.control_point.specs.Connect.{connectable}
use Rattle.control_point.specs.Point.{is_made}
use Rattle.control_point.specs.Sides.{sides_of}
use Rattle.control_point.specs.Small.{millionth, small}
use Rattle.navigation.specs.Walk.{onward, walk_of}
use Rattle.search.specs.Search.{judge_at, seek_from, find_inferred_connection}
use Rattle.store.specs.Store.{connect_points}
use Rattle.insertion.specs.Insert.{checked, checked_intervals, placed, new_side, first_side, with_first, second_side, sided, insert_point}
use Rattle.t_mesh.specs.Tmesh.{new_tmesh}
use Rattle.t_mesh.specs.Insertion.{add_control_point}
use Rattle.t_mesh.specs.declared.t_mesh.Position.{Position}
use Rattle.census.specs.Census.{counts_of}
use Rattle.openings.specs.Openings.{sides_below, open_among, openings_answer}
use Rattle.calls.specs.Calls.{run_of}
use Rattle.soundness.specs.MapCalls.{map_after_all, entries}
use Rattle.ledger.specs.Ledger.{total}
use Rattle.ledger.specs.Theorem.{entered_answers}
use Rattle.ledger.specs.Reading.{LedgerReading, EveryLedgerReading}

reading : (at_bottom_left at_bottom_right at_top_right at_top_left position : Position) → LedgerReading at_bottom_left at_bottom_right at_top_right at_top_left position
unfolding new_tmesh add_control_point insert_point in_unit checked checked_intervals placed new_side first_side with_first second_side sided
    connect_points connectable is_made sides_of millionth small find_inferred_connection seek_from judge_at walk_of onward run_of map_after_all entries entered_answers
    counts_of count_below sides_below open_among openings_answer
    le lt eq of_bits of_fields add sub mul div sum round units odd size span climb neg
reading at_bottom_left at_bottom_right at_top_right at_top_left position = record { answered = refl; counts = refl; openings = refl }

pub every_ledger_reading : EveryLedgerReading
unfolding total
every_ledger_reading = (refl, (refl, (refl, reading)))
