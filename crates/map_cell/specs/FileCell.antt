-- Which points reach a cell of the map of a file: a refused file runs nothing; else it is what `cell_points` answers of the map that the file's edits leave. e is the closeness.
use Rattle.std.specs.Prelude.{ℕ, List, Float, Err, Ok, Result}
use Rattle.control_point.specs.Told.{Told}
use Rattle.cells.specs.Cells.{cell_points}
use Rattle.cells.specs.Table.{cell_points_table}
use Rattle.map_format.specs.Format.{edit_count, checked_file, where_valid}
use Rattle.map_file.specs.Run.{file_map}
use Rattle.control_point.specs.declared.refusal.Refusal.{Refusal}
use Rattle.grid_index.specs.declared.Cell.{Cell}

abbrev pub checked_cell : Float → List ℕ → ℕ → Result ℕ Refusal → Result Cell Refusal
checked_cell e bytes cell (Ok count) = (cell_points e (file_map e bytes count) cell).answer
checked_cell e bytes cell (Err refusal) = Err refusal

unfoldable pub file_cell : Float → List ℕ → ℕ → Result Cell Refusal
file_cell e bytes cell = checked_cell e bytes cell (checked_file bytes)

-- its table: 12, 13, 14, and then that of the map that the edits leave
abbrev pub file_cell_table : Float → List ℕ → ℕ → Told
file_cell_table e bytes cell = where_valid bytes (cell_points_table e (file_map e bytes (edit_count bytes)) cell)
