-- `where_weighty` meets its contract: its test is the definition's.
use mathlib.Core.Path.{◌∙◌, sym}
use mathlib.Core.Bool.{true, false}
use Rattle.control_point.proofs.ToldLaws.{beside}
use Rattle.surface.specs.Evaluation.{evaluation_told}
use Rattle.surface.specs.SetPoint.{where_weighty, where_weighty_table}
use Rattle.surface.proofs.SetPointLaws.{where_weighty_by, where_weighty_told}
use Rattle.set_point_check.proofs.where_weighty.Goals as goal

pub returns-then-is_weighty : goal.returns-then-is_weighty
returns-then-is_weighty c =
    let all = (let value = c.args.value in
    beside evaluation_told (where_weighty value) (where_weighty_table value) (where_weighty_told value) _ (where_weighty_by value true (sym c.is_weighty.ensures ∙ c.if-is_weighty.true))) in record { is = all.0; told = all.1 }

pub returns-else-is_weighty : goal.returns-else-is_weighty
returns-else-is_weighty c =
    let all = (let value = c.args.value in
    beside evaluation_told (where_weighty value) (where_weighty_table value) (where_weighty_told value) _ (where_weighty_by value false (sym c.is_weighty.ensures ∙ c.if-is_weighty.false))) in record { is = all.0; told = all.1 }
