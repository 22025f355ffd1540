-- Laws of specs/FileCell.antt: the answer by the check of the file, and that it tells what its table says.
use Rattle.std.specs.Prelude.{ℕ, ◌≡◌, refl, List, Float, Err, Ok}
use Rattle.std.proofs.Math.Path.{sym, ap}
use Rattle.std.proofs.Common.{◌∙◌}
use Rattle.control_point.specs.declared.refusal.Refusal.{Refusal}
use Rattle.cells.specs.Cells.{cell_told, cell_points}
use Rattle.cells.proofs.TableLaws.{cell_points_told}
use Rattle.map_format.specs.Format.{edit_count, checked_file, where_valid}
use Rattle.map_format.proofs.FormatLaws.{where_valid_told}
use Rattle.map_file.specs.Run.{file_map}
use Rattle.map_cell.specs.FileCell.{checked_cell, file_cell, file_cell_table}

module _ (e : Float) (bytes : List ℕ) (cell : ℕ) where
  pub cell_valid : (count : ℕ) → checked_file bytes ≡ Ok count → (cell_points e (file_map e bytes count) cell).answer ≡ file_cell e bytes cell
  unfolding file_cell
  cell_valid count valid = sym (ap (checked_cell e bytes cell) valid)

  pub cell_refused : (refusal : Refusal) → checked_file bytes ≡ Err refusal → Err refusal ≡ file_cell e bytes cell
  unfolding file_cell
  cell_refused refusal refused = sym (ap (checked_cell e bytes cell) refused)

  pub file_cell_told : cell_told (file_cell e bytes cell) ≡ file_cell_table e bytes cell
  unfolding file_cell
  file_cell_told =
      where_valid_told bytes (λ check. cell_told (checked_cell e bytes cell check)) (λ refusal. refl)
      ∙ ap (where_valid bytes) (cell_points_told e (file_map e bytes (edit_count bytes)) cell)
