-- `insert_point` meets its contract: the checks are the definition's, and so is what follows where they pass.
use mathlib.Core.Path.{sym, ap, ◌∙◌}
use Rattle.std.specs.Prelude.{Err}
use Rattle.std.proofs.lemmas.Result.{err_from_is_err_and}
use Rattle.control_point.proofs.PointLaws.{is_made_made}
use Rattle.control_point.specs.Sides.{lent_sides}
use Rattle.lent_points.specs.Lent.{lent_points}
use Rattle.insertion.proofs.InsertLaws.{checked_passes}
use Rattle.insertion.proofs.LentLaws.{inserts_refused}
use Rattle.lent_insertion.proofs.insert_point.Goals as goal

pub insert_passed-requires : goal.insert_passed-requires
insert_passed-requires c =
    let a = c.args in
    let w = checked_passes a.closeness a.ratio a.listed a.made a.con c.in_ok-end.end (lent_sides a.points.now.sides) a.direction (sym c.in_ok-end.ensures) in
    ((is_made_made _ _ w.con_made, (is_made_made _ _ w.other_made, w.roomy)), c.requires)

pub returns-in_err-end : goal.returns-in_err-end
unfolding lent_points
returns-in_err-end c =
    let a = c.args in
    let left = err_from_is_err_and c.from_residual.result c.from_residual.ensures.1 in (
      c.requires,
      inserts_refused a.closeness a.ratio a.listed a.con a.direction (lent_sides a.points.now.sides) a.points.now.coordinates a.made _ c.from_residual.result (sym c.in_err-end.ensures)
          (left.1 ∙ ap Err left.2),
    )

pub returns : goal.returns
returns c = (c.insert_passed.ensures.0, c.insert_passed.ensures.1 c.args.listed (sym c.in_ok-end.ensures))
