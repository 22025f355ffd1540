-- `lent_set_point` meets its contract: the map that the arrays hold keeps its knots, so that its evaluation is its value.
use mathlib.Core.Path.{refl, ◌∙◌, sym, ap}
use Rattle.control_point.specs.Small.{millionth}
use Rattle.control_point.proofs.ToldLaws.{beside}
use Rattle.surface.specs.Evaluation.{evaluation_told}
use Rattle.surface.specs.SetPoint.{where_weighty}
use Rattle.surface.proofs.SetPointLaws.{set_point_off, set_point_kept, set_point_told}
use Rattle.surface.specs.declared.evaluation.Evaluated.{Evaluated}
use Rattle.lent_surface.specs.Lent.{held_map}
use Rattle.set_point.proofs.lent_set_point.Goals as goal

pub returns-then-not-on_map : goal.returns-then-not-on_map
returns-then-not-on_map c =
    let a = c.args in
    let held = held_map a.across.now a.upwards.now a.places.now a.listed.now in
    let all = (beside evaluation_told _ _ (set_point_told millionth held a.s a.t) _
    (ap (λ (given : Evaluated). given.answer) (set_point_off millionth held a.s a.t (sym c.on_map.ensures ∙ c.if-not-on_map.true)))) in record { is = all.0; told = all.1 }

pub returns : goal.returns
returns c =
    let a = c.args in
    let held = held_map a.across.now a.upwards.now a.places.now a.listed.now in
    let all = (beside evaluation_told _ _ (set_point_told millionth held a.s a.t) _
    (set_point_kept millionth held a.s a.t refl (sym c.on_map.ensures ∙ c.if-not-on_map.false) _
    (c.where_weighty.ensures.is ∙ ap where_weighty c.lent_value.ensures))) in record { is = all.0; told = all.1 }
