-- `cast_ray` meets its contract: filling the arrays changes no side.
use mathlib.Core.Path.{◌∙◌, ap}
use Rattle.control_point.specs.Sides.{Sides}
use Rattle.control_point.proofs.ToldLaws.{beside}
use Rattle.ray.specs.Ray.{cast_over, cast_told}
use Rattle.ray.proofs.TableLaws.{cast_told_lem}
use Rattle.ray.proofs.ray.cast_ray.Goals as goal

pub returns : goal.returns
returns c =
    let all = (let a = c.args in
    beside cast_told _ _ (cast_told_lem a.closeness a.store a.start a.direction a.buffer.now) _
    (c.cast.ensures
    ∙ ap (λ (sides : Sides). cast_over a.closeness sides a.store.made a.start a.direction a.buffer.now) c.fill.ensures.1)) in record { is = all.0; told = all.1 }
