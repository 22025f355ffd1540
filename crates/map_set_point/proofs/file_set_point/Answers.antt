-- `file_set_point` meets its contract: it is the set-point of the map that the run leaves, or the check's refusal.
use mathlib.Core.Path.{◌≡◌, ◌∙◌, sym, ap}
use Rattle.std.specs.Prelude.{Err}
use Rattle.std.proofs.lemmas.Result.{err_from_is_err_and}
use Rattle.control_point.specs.Small.{millionth}
use Rattle.control_point.proofs.ToldLaws.{beside}
use Rattle.surface.specs.Evaluation.{evaluation_told}
use Rattle.map_file.proofs.RunLaws.{set_point_valid, set_point_refused}
use Rattle.map_file.proofs.TableLaws.{file_set_point_told}
use Rattle.map_set_point.proofs.file_set_point.Goals as goal

pub returns : goal.returns
returns c =
    let a = c.args in
    let all = beside evaluation_told _ _ (file_set_point_told millionth a.file.now a.s a.t) c.valid_set_point.result
    (c.valid_set_point.ensures ∙ set_point_valid millionth a.file.now a.s a.t _ (sym c.in_ok-count.ensures.is)) in
    record { is = all.0; told = all.1 }

pub returns-in_err-count : goal.returns-in_err-count
returns-in_err-count c =
    let a = c.args in
    let left = err_from_is_err_and c.from_residual.result c.from_residual.ensures.1 in
    let all = beside evaluation_told _ _ (file_set_point_told millionth a.file.now a.s a.t) c.from_residual.result
    (left.1 ∙ ap Err left.2 ∙ set_point_refused millionth a.file.now a.s a.t _ (sym c.in_err-count.ensures.is)) in
    record { is = all.0; told = all.1 }
