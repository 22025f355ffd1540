-- `set_point` meets its contract: off the map the answer is 20 and the map the one given; on it both are what `subs` gives, with the weight tested.
use mathlib.Core.Path.{◌∙◌, sym, ap}
use Rattle.control_point.specs.Small.{millionth}
use Rattle.control_point.proofs.ToldLaws.{beside}
use Rattle.surface.specs.Evaluation.{evaluation_told}
use Rattle.surface.proofs.SetPointLaws.{set_point_on, set_point_off, set_point_told}
use Rattle.surface.specs.declared.evaluation.Evaluated.{Evaluated}
use Rattle.set_point.proofs.set_point.Goals as goal
use Rattle.std.specs.Prelude.{Result}
use Rattle.control_point.specs.declared.refusal.Refusal.{Refusal}
use Rattle.surface.specs.declared.evaluation.Evaluation.{Evaluation}

pub returns-then-not-on_map : goal.returns-then-not-on_map
returns-then-not-on_map c =
    let a = c.args in
    let all = (beside (λ (given : Evaluated). evaluation_told given.answer) _ _ (set_point_told millionth a.map a.s a.t) _
    (set_point_off millionth a.map a.s a.t (sym c.on_map.ensures ∙ c.if-not-on_map.true))) in record { is = all.0; told = all.1 }

pub returns : goal.returns
returns c =
    let a = c.args in
    let all = (beside (λ (given : Evaluated). evaluation_told given.answer) _ _ (set_point_told millionth a.map a.s a.t) _
    (ap (λ (answer : Result Evaluation Refusal). record { answer = answer; map = c.subs-evaluated.result.map }) c.weighed.ensures
    ∙ set_point_on millionth a.map a.s a.t c.subs-evaluated.result c.subs-evaluated.ensures.is
    (sym c.on_map.ensures ∙ c.if-not-on_map.false))) in record { is = all.0; told = all.1 }
