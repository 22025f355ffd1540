-- `insert_by_rule` meets its contract: the checks are the definition's, and where they pass, the rule says which insertion follows.
use mathlib.Core.Path.{sym, ap, ◌∙◌}
use mathlib.Core.Bool.{Bool, ◌&&◌}
use Rattle.std.specs.Prelude.{Err}
use Rattle.std.proofs.lemmas.Result.{err_from_is_err_and}
use Rattle.control_point.proofs.PointLaws.{is_made_made}
use Rattle.control_point.specs.Sides.{lent_sides}
use Rattle.lent_points.specs.Lent.{lent_points}
use Rattle.insertion.specs.Insert.{is_torn}
use Rattle.insertion.proofs.InsertLaws.{checked_passes}
use Rattle.insertion.proofs.LentLaws.{inserts_refused}
use Rattle.insertion.proofs.WithdrawalLaws.{untorn_not_withdrawn, inserts_not_withdrawn, by_rule}
use Rattle.withdrawal.proofs.insert_by_rule.Goals as goal

pub insert_or_restore-requires : goal.insert_or_restore-requires
insert_or_restore-requires c =
    let a = c.args in
    let w = checked_passes a.closeness a.ratio a.listed a.made a.con c.in_ok-end.end (lent_sides a.points.now.sides) a.direction (sym c.in_ok-end.ensures) in
    ((is_made_made _ _ w.con_made, (is_made_made _ _ w.other_made, w.roomy)), c.requires)

pub returns-then-withdraws : goal.returns-then-withdraws
returns-then-withdraws c = (
  c.insert_or_restore.ensures.0,
  by_rule _ _ _ _ _ _ _ _ _ _ c.if-withdraws.true (c.insert_or_restore.ensures.1 c.args.listed (sym c.in_ok-end.ensures)),
)

pub insert_passed-requires : goal.insert_passed-requires
insert_passed-requires c =
    let a = c.args in
    let w = checked_passes a.closeness a.ratio a.listed a.made a.con c.in_ok-end.end (lent_sides a.points.now.sides) a.direction (sym c.in_ok-end.ensures) in
    ((is_made_made _ _ w.con_made, (is_made_made _ _ w.other_made, w.roomy)), c.requires)

pub returns-in_err-end : goal.returns-in_err-end
unfolding lent_points
returns-in_err-end c =
    let a = c.args in
    let answer = c.from_residual.result in
    let left = err_from_is_err_and answer c.from_residual.ensures.1 in
    let refused = left.1 ∙ ap Err left.2 in (
      c.requires,
      inserts_not_withdrawn a.withdraws _ _ _ _ _ _ _ _ _
          (inserts_refused a.closeness a.ratio a.listed a.con a.direction (lent_sides a.points.now.sides) a.points.now.coordinates a.made _ answer (sym c.in_err-end.ensures) refused)
          (untorn_not_withdrawn a.withdraws answer (ap is_torn refused)),
    )

pub returns : goal.returns
returns c = (
  c.insert_passed.ensures.0,
  inserts_not_withdrawn c.args.withdraws _ _ _ _ _ _ _ _ _ (c.insert_passed.ensures.1 c.args.listed (sym c.in_ok-end.ensures))
      (ap (λ (rule : Bool). rule && is_torn c.insert_passed.result) c.if-withdraws.false),
)
