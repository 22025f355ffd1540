-- `run_edit` meets its contract: an insertion into the lent points is one into the mesh that they hold, by either rule, and what is stored after it is what that mesh has after it.
use mathlib.Core.Path.{◌≡◌, ap, ◌∙◌, sym, subst}
use mathlib.Core.Bool.{Bool}
use mathlib.Core.List.{List}
use Prim.Native.Nat.{ℕ}
use native.Mathlib.Omega.{arith}
use lib.Ieee.{Float}
use lib.ListN.{length-set}
use Rattle.control_point.specs.Small.{millionth}
use Rattle.insertion.specs.Withdrawal.{InsertsBy}
use Rattle.lent_mesh.proofs.InsertionLaws.{InsertsIntoMesh, lent_inserts}
use Rattle.lent_mesh.specs.LentMesh.{row_of}
use Rattle.lent_points.specs.Lent.{Points, lent_points}
use Rattle.map_format.specs.Format.{Edit, edit_at, target_of}
use Rattle.map_format.specs.declared.format.EditTarget.{EditTarget}
use Rattle.t_mesh.specs.Tmesh.{listed_in}
use Rattle.map_file.proofs.edit.run_edit.Goals as goal
use Rattle.map_file.proofs.edit.run_edit.Goals.{After-insert_by_rule-answer}
use Rattle.std.specs.Prelude.{Result}
use Rattle.control_point.specs.declared.refusal.Refusal.{Refusal}
use Rattle.insertion.specs.declared.insertion.Insertion.{Insertion}

-- what the insertion promises, of the edit that was read
edited : (withdraws : Bool) (points after : Points) (made : ℕ) (positions : List (List Float)) (listed : List Bool) (edit : Edit) (answer : Result Insertion Refusal) (target : EditTarget) (b : Bool) (e : Float)
    → target ≡ target_of edit → b ≡ listed_in listed target.point → e ≡ millionth → InsertsBy withdraws e points made b target.point target.direction target.ratio answer after
    → InsertsIntoMesh withdraws millionth points made positions listed edit.point edit.direction edit.ratio edit.position answer after
edited withdraws points after made positions listed edit answer target b e read known small inserts =
    lent_inserts _ millionth _ _ _ _ _ _ _ _ _ _
    (subst (λ (t : EditTarget). InsertsBy withdraws millionth points made (listed_in listed t.point) t.point t.direction t.ratio answer after)
    read
    (subst (λ (b : Bool). InsertsBy withdraws millionth points made b target.point target.direction target.ratio answer after)
    known
    (subst (λ (e : Float). InsertsBy withdraws e points made b target.point target.direction target.ratio answer after) small inserts)))

inserts : (c : After-insert_by_rule-answer) → let a = c.args in
    let edit = edit_at a.file.now a.at in
    let mesh = a.mesh.now in
    InsertsIntoMesh a.withdraws millionth (lent_points mesh.points) mesh.made mesh.positions mesh.listed edit.point edit.direction edit.ratio edit.position c.insert_by_rule-answer.result
    (lent_points c.insert_by_rule-answer.new.points)
inserts c =
    let a = c.args in
    let mesh = a.mesh.now in
    edited a.withdraws (lent_points mesh.points) (lent_points c.insert_by_rule-answer.new.points) mesh.made mesh.positions mesh.listed
    (edit_at a.file.now a.at) c.insert_by_rule-answer.result c.target_from-target.result _ _ c.target_from-target.ensures c.lent_listed-listed.ensures c.closeness.ensures c.insert_by_rule-answer.ensures.1

pub returns-then-not-leaves_point : goal.returns-then-not-leaves_point
returns-then-not-leaves_point c =
    let i = inserts (goal.at.returns-then-not-leaves_point c).After-insert_by_rule-answer in
    record {
      answer = i.answered;
      mesh = i.unplaced (sym c.leaves_point.ensures ∙ c.if-not-leaves_point.true);
      room = (c.insert_by_rule-answer.ensures.0, c.requires.1);
    }

pub bounds-mesh-p : goal.bounds-mesh-p
bounds-mesh-p c = (inserts (goal.at.bounds-mesh-p c).After-insert_by_rule-answer).room (sym c.leaves_point.ensures ∙ c.if-not-leaves_point.false)

pub bounds-mesh-p-2 : goal.bounds-mesh-p-2
bounds-mesh-p-2 c = (inserts (goal.at.bounds-mesh-p-2 c).After-insert_by_rule-answer).room (sym c.leaves_point.ensures ∙ c.if-not-leaves_point.false)

pub overflow_add-mesh : goal.overflow_add-mesh
overflow_add-mesh c = omega (arith, (inserts (goal.at.overflow_add-mesh c).After-insert_by_rule-answer).room (sym c.leaves_point.ensures ∙ c.if-not-leaves_point.false))

pub returns : goal.returns
returns c =
    let mesh = c.args.mesh.now in
    let full = c.requires.1 in
    let i = inserts (goal.at.returns c).After-insert_by_rule-answer in
    record {
      answer = i.answered;
      mesh = i.placed (sym c.leaves_point.ensures ∙ c.if-not-leaves_point.false) full.0 _ (c.row_of.ensures ∙ ap row_of c.edit_position.ensures) _ c.is_done.ensures;
      room = (c.insert_by_rule-answer.ensures.0, (length-set mesh.positions mesh.made _ ∙ full.0, length-set mesh.listed mesh.made _ ∙ full.1));
    }
