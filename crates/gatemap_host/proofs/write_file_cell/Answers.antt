-- `write_file_cell` meets its contract: the answer that is due gives the number and the buffer, at each exit.
use mathlib.Core.Path.{◌≡◌, ap, sym, ◌∙◌}
use Rattle.std.specs.Prelude.{Err}
use Rattle.std.proofs.lemmas.Result.{err_from_is_err_and}
use Rattle.control_point.specs.Told.{number_of}
use Rattle.control_point.specs.declared.refusal.Refusal.TheVariants.{Short}
use Rattle.gatemap_host.specs.CellCall.{host_cell_number}
use Rattle.gatemap_host.proofs.CellCallLaws.{host_cell_with, cell_short, cell_of_file}
use Rattle.gatemap_host.proofs.write_file_cell.Goals as goal

pub returns-in_err-has_room : goal.returns-in_err-has_room
returns-in_err-has_room c =
    let a = c.args in
    let left = err_from_is_err_and c.from_residual.result c.from_residual.ensures.1 in
    let short = c.in_err-has_room.ensures in
    let is = left.1 ∙ ap Err (left.2 ∙ short.0) in
    let gives = host_cell_with a.file.now a.cell a.out.now (Err Short) (sym (cell_short a.file.now a.cell _ short.1)) in
    record { number = ap number_of is ∙ gives.0; buffer = gives.1; told = ap number_of is ∙ gives.2 }

pub returns-in_err-words : goal.returns-in_err-words
returns-in_err-words c =
    let a = c.args in
    let left = err_from_is_err_and c.from_residual-in_err-words.result c.from_residual-in_err-words.ensures.1 in
    let is = left.1 ∙ ap Err left.2 in
    let found = sym (c.in_err-words.ensures.is ∙ cell_of_file a.file.now a.cell _ c.in_ok-has_room.ensures) in
    let gives = host_cell_with a.file.now a.cell a.out.now _ found in
    record { number = ap number_of is ∙ gives.0; buffer = gives.1; told = ap number_of is ∙ gives.2 }

pub returns : goal.returns
returns c =
    let a = c.args in
    let found = sym (c.in_ok-words.ensures.is ∙ cell_of_file a.file.now a.cell _ c.in_ok-has_room.ensures) in
    let gives = host_cell_with a.file.now a.cell a.out.now _ found in
    let number : 0 ≡ host_cell_number a.file.now a.cell a.out.now = gives.0 in
    record { number = number; buffer = c.write_cell.ensures ∙ gives.1; told = gives.2 }
