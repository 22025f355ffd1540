-- `file_cell` meets its contract: it is the answer of the map that the run leaves, or the check's refusal.
use mathlib.Core.Path.{◌≡◌, ◌∙◌, sym, ap}
use Rattle.std.specs.Prelude.{Err}
use Rattle.std.proofs.lemmas.Result.{err_from_is_err_and}
use Rattle.cells.specs.Cells.{cell_told}
use Rattle.control_point.specs.Small.{millionth}
use Rattle.control_point.proofs.ToldLaws.{beside}
use Rattle.map_cell.proofs.FileCellLaws.{cell_valid, cell_refused, file_cell_told}
use Rattle.map_cell.proofs.file_cell.Goals as goal

pub returns : goal.returns
returns c =
    let a = c.args in
    let all = beside cell_told _ _ (file_cell_told millionth a.file.now a.cell) c.edited_cell.result
    (c.edited_cell.ensures ∙ cell_valid millionth a.file.now a.cell _ (sym c.in_ok-count.ensures.is)) in
    record { is = all.0; told = all.1 }

pub returns-in_err-count : goal.returns-in_err-count
returns-in_err-count c =
    let a = c.args in
    let left = err_from_is_err_and c.from_residual.result c.from_residual.ensures.1 in
    let all = beside cell_told _ _ (file_cell_told millionth a.file.now a.cell) c.from_residual.result
    (left.1 ∙ ap Err left.2 ∙ cell_refused millionth a.file.now a.cell _ (sym c.in_err-count.ensures.is)) in
    record { is = all.0; told = all.1 }
