-- `ReportFits` holds: 1,000 lines of edits, 512 of openings and the two others come to fewer bytes.
use Rattle.std.specs.Prelude.{ℕ, ◌≤◌, ◌≡◌, refl, List, ◌++◌, length, Err, Ok, Result}
use Rattle.std.proofs.Common.{arith, length-append}
use Rattle.control_point.specs.Refusal.{refusal_number}
use Rattle.control_point.specs.Small.{millionth}
use Rattle.t_mesh.specs.Tmesh.{store_of}
use Rattle.t_mesh.specs.declared.t_mesh.Tmesh.{Tmesh}
use Rattle.census.specs.Census.{counts_of}
use Rattle.map_format.specs.Format.{checked_file}
use Rattle.map_format.proofs.FormatLaws.{valid_tells}
use Rattle.surface.specs.SetPoint.{set_point}
use Rattle.map_file.specs.Run.{file_map, file_numbers}
use Rattle.openings.specs.Openings.{openings_of}
use Rattle.openings.proofs.OpeningsProof.{few_openings}
use Rattle.report_text.specs.Put.{most_bytes}
use Rattle.report_text.specs.Text.{newline, refused_text}
use Rattle.report_lines.specs.Lines.{counts_line, edit_lines, open_lines, mid_line}
use Rattle.report.specs.Report.{half, map_report, checked_report, report_of}
use Rattle.report.proofs.LengthLaws.{edit_lines_few, counts_line_few, open_lines_few, mid_line_few, refused_few, file_numbers_length}
use Rattle.report.specs.Theorems.{ReportFits}
use Rattle.control_point.specs.declared.refusal.Refusal.{Refusal}

map_report_few : (map : Tmesh) → length (map_report map) ≤ 7785
map_report_few map =
    let counts = counts_line (counts_of map) in
    let openings = open_lines (openings_of (store_of map)) in
    let mid = mid_line (set_point millionth map half half).answer in
    omega (arith, length-append counts (openings ++ mid), length-append openings mid, counts_line_few (counts_of map), open_lines_few (openings_of (store_of map)), few_openings (store_of map), mid_line_few (set_point millionth map half half).answer)

checked_fits : (file : List ℕ) (check : Result ℕ Refusal) → checked_file file ≡ check → length (checked_report file check) ≤ most_bytes
checked_fits file (Err refusal) so = omega (arith, length-append (refused_text (refusal_number refusal)) newline, refused_few (refusal_number refusal))
checked_fits file (Ok count) so =
    let numbers = file_numbers millionth file count in
    let map = file_map millionth file count in
    omega (arith, length-append (edit_lines 1 numbers) (map_report map), edit_lines_few 1 numbers, file_numbers_length millionth file count, (valid_tells file count so).1, map_report_few map)

pub report_fits : ReportFits
unfolding report_of
report_fits file = checked_fits file (checked_file file) refl
