-- `cell_points` meets its contract: the index that it reads is that of the map whose knots are ready.
use Rattle.control_point.specs.Small.{millionth}
use Rattle.control_point.proofs.ToldLaws.{beside}
use Rattle.cells.specs.Cells.{cell_told}
use Rattle.cells.proofs.CellsLaws.{asked_ready}
use Rattle.cells.proofs.TableLaws.{cell_points_told}
use Rattle.cells.specs.declared.Asked.{Asked}
use Rattle.cells.proofs.cell_points.Goals as goal

pub returns : goal.returns
returns c =
    let all = (let a = c.args in
    beside (λ (x : Asked). cell_told x.answer) _ _ (cell_points_told millionth a.map a.cell) _
    (asked_ready millionth a.map a.cell c.with_knots-ready.result.outcome c.with_knots-ready.result.map c.cell_of.result c.cell_answer_by-answer.result
    c.with_knots-ready.ensures
    c.cell_of.ensures
    c.cell_answer_by-answer.ensures)) in record { is = all.0; told = all.1 }
