-- `put_valid` meets its contract: the numbers noted are those of the file's edits, and the map is the one that they leave.
use Prim.Native.Nat.{ℕ, ◌≤◌}
use mathlib.Core.Path.{◌≡◌, ap}
use mathlib.Core.List.{List}
use native.Mathlib.Omega.{arith}
use lib.ListN.{length, take, replicate}
use Rattle.big_endian.specs.Written.{written}
use Rattle.control_point.specs.Small.{millionth}
use Rattle.map_file.specs.Run.{file_map, file_numbers}
use Rattle.report_lines.specs.Lines.{edit_lines}
use Rattle.report.specs.Report.{map_report}
use Rattle.report.proofs.LengthLaws.{file_numbers_length}
use Rattle.report_text.proofs.PutLaws.{put_then, put_as, fits_first, fits_then, fits_as}
use Rattle.report.proofs.ReportLaws.{zeros_room, noted}
use Rattle.report.proofs.put_valid.Goals as goal

module _ (file : List ℕ) (count : ℕ) where
  abbrev numbers_of : List ℕ
  numbers_of = file_numbers millionth file count

  abbrev map_text : List ℕ
  map_text = map_report (file_map millionth file count)

  many : length numbers_of ≡ count
  many = file_numbers_length millionth file count

  -- the numbers noted are those of the file's edits
  numbers : (after : List ℕ) → after ≡ written (replicate {A = ℕ} 1000 0) 0 numbers_of → count ≤ 1000 → take count after ≡ numbers_of
  numbers after wrote few = noted _ after numbers_of count wrote many (zeros_room count 1000 few)

pub put_edit_lines-end-requires : goal.put_edit_lines-end-requires
put_edit_lines-end-requires c =
    let file = c.args.file.now in
    let count = c.args.count in
    let same : take count c.run_edits-map.new.notes ≡ numbers_of file count = numbers file count c.run_edits-map.new.notes c.run_edits-map.ensures.notes c.requires.few in
    record {
      few = omega (arith, ap length same, many file count, c.requires.few);
      fits = fits_as 0 _ _ (ap (edit_lines 1) same) (fits_first 0 (edit_lines 1 (numbers_of file count)) (map_text file count) c.requires.fits);
    }

pub put_map_report-requires : goal.put_map_report-requires
put_map_report-requires c =
    let file = c.args.file.now in
    let count = c.args.count in
    let same : take count c.run_edits-map.new.notes ≡ numbers_of file count = numbers file count c.run_edits-map.new.notes c.run_edits-map.ensures.notes c.requires.few in
    fits_as c.put_edit_lines-end.result _ _ (ap map_report c.run_edits-map.ensures.map) (fits_then (map_text file count) c.requires.fits (put_as (ap (edit_lines 1) same) c.put_edit_lines-end.ensures))

pub returns : goal.returns
returns c =
    let file = c.args.file.now in
    let count = c.args.count in
    let same : take count c.run_edits-map.new.notes ≡ numbers_of file count = numbers file count c.run_edits-map.new.notes c.run_edits-map.ensures.notes c.requires.few in
    put_then (put_as (ap (edit_lines 1) same) c.put_edit_lines-end.ensures) (put_as (ap map_report c.run_edits-map.ensures.map) c.put_map_report.ensures)
