-- The table of a file's set-point: 12, 13, 14, and then that of the map that its edits leave: off the map 20, the evaluation's refusal, no weight 15; else the position and its weight.
use Rattle.std.specs.Prelude.{ℕ, List, Float}
use Rattle.control_point.specs.Told.{Told}
use Rattle.surface.specs.SetPoint.{set_point_table}
use Rattle.map_format.specs.Format.{edit_count, where_valid}
use Rattle.map_file.specs.Run.{file_map}

abbrev pub file_set_point_table : Float → List ℕ → Float → Float → Told
file_set_point_table e bytes s t = where_valid bytes (set_point_table e (file_map e bytes (edit_count bytes)) s t)
