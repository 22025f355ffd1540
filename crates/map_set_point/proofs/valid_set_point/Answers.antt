-- `valid_set_point` meets its contract: off the map the answer is 20, and on it what is answered after the edits.
use mathlib.Core.Path.{refl, ◌∙◌, sym, ap}
use Rattle.control_point.specs.Small.{millionth}
use Rattle.map_file.specs.Run.{file_map}
use Rattle.surface.specs.Evaluation.{subs_of}
use Rattle.surface.proofs.SetPointLaws.{set_point_on, set_point_off}
use Rattle.surface.specs.declared.evaluation.Evaluated.{Evaluated}
use Rattle.map_set_point.proofs.valid_set_point.Goals as goal

pub returns-then-not-on_map : goal.returns-then-not-on_map
returns-then-not-on_map c =
    ap (λ (given : Evaluated). given.answer)
    (set_point_off millionth ((file_map millionth c.args.file.now c.args.count)) c.args.s c.args.t (sym c.on_map.ensures ∙ c.if-not-on_map.true))

pub returns : goal.returns
returns c =
    let a = c.args in
    c.edited_set_point.ensures
    ∙ ap (λ (given : Evaluated). given.answer)
    (set_point_on millionth ((file_map millionth c.args.file.now c.args.count)) a.s a.t (subs_of millionth ((file_map millionth c.args.file.now c.args.count)) a.s a.t) refl (sym c.on_map.ensures ∙ c.if-not-on_map.false))
