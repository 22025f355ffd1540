-- What the program `gatemap` prints of a map file, as the bytes of its text. A refused file: `file refused N`. Else a line `edit K refused N` for each refused edit, K from 1; the
-- counts; a line `open P D` for each opening of a made point, by point, and for a point Up, Right, Down, Left; and `mid` with the bits of the set-point at (0.5, 0.5), position and weight, or `mid refused N`.
use Rattle.std.specs.Prelude.{ℕ, List, ◌++◌, Float, Err, Ok, Result}
use Rattle.std.specs.Float.{binary64}
use Rattle.std.specs.Float.Ieee.{of_bits}
use Rattle.control_point.specs.Refusal.{refusal_number}
use Rattle.control_point.specs.Small.{millionth}
use Rattle.control_point.specs.declared.refusal.Refusal.{Refusal}
use Rattle.t_mesh.specs.Tmesh.{store_of}
use Rattle.t_mesh.specs.declared.t_mesh.Tmesh.{Tmesh}
use Rattle.census.specs.Census.{counts_of}
use Rattle.surface.specs.SetPoint.{set_point}
use Rattle.map_format.specs.Format.{checked_file}
use Rattle.map_file.specs.Run.{file_map, file_numbers}
use Rattle.openings.specs.Openings.{openings_of}
use Rattle.report_text.specs.Text.{file_word, newline, refused_text}
use Rattle.report_lines.specs.Lines.{edit_lines, counts_line, open_lines, mid_line}

-- ---- the report
abbrev pub half : Float
half = of_bits binary64 0x3fe0_0000_0000_0000

abbrev pub map_report : Tmesh → List ℕ
map_report map = counts_line (counts_of map) ++ (open_lines (openings_of (store_of map)) ++ mid_line (set_point millionth map half half).answer)

-- of a file with so many edits
abbrev pub valid_report : List ℕ → ℕ → List ℕ
valid_report bytes count = edit_lines 1 (file_numbers millionth bytes count) ++ map_report (file_map millionth bytes count)

-- of a refused file
abbrev pub file_refused : Refusal → List ℕ
file_refused refusal = file_word ++ (refused_text (refusal_number refusal) ++ newline)

abbrev pub checked_report : List ℕ → Result ℕ Refusal → List ℕ
checked_report bytes (Err refusal) = file_refused refusal
checked_report bytes (Ok count) = valid_report bytes count

unfoldable pub report_of : List ℕ → List ℕ
report_of bytes = checked_report bytes (checked_file bytes)
