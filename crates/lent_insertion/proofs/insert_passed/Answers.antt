-- `insert_passed` meets its contract: p placed, its first side, and its second unless the first was torn, are the definition's.
use Prim.Native.Nat.{◌+◌}
use mathlib.Core.Path.{◌≡◌, refl, ◌∙◌, sym, ap}
use Rattle.control_point.specs.Direction.{anti_clockwise_of, flip_of}
use Rattle.control_point.proofs.DirectionLaws.{flip_clockwise}
use Rattle.control_point.specs.Sides.{lent_sides}
use Rattle.control_point.specs.declared.t_mesh_direction.TmeshDirection.{TmeshDirection}
use Rattle.lent_points.specs.Lent.{lent_points}
use Rattle.lent_insertion.proofs.Told.{torn, untorn, inserts_sided}
use Rattle.insertion.specs.Insert.{new_side}
use Rattle.insertion.specs.Lent.{points_with_new}
use Rattle.insertion.specs.declared.insertion.NewSide.TheVariants.{Stays}
use Rattle.lent_insertion.proofs.insert_passed.Goals as goal

pub returns-in-Tears : goal.returns-in-Tears
returns-in-Tears c =
    let a = c.args in
    let first = c.cross-first in (
      first.ensures.1.0,
      inserts_sided a.closeness a.ratio a.points.now c.place.new.points first.new.points a.made a.con a.end a.direction c.clockwise-f.result first.result Stays _
          c.place.ensures.1 c.clockwise-f.ensures first.ensures.0 first.ensures.1.1 (torn first.result _ c.in-Tears.is) refl _ c.answer_of.ensures,
    )

pub returns : goal.returns
returns c =
    let a = c.args in
    let first = c.cross-first in
    let second = c.cross-second in
    let crossed = first.new.points in
    let turned : c.flip.result ≡ anti_clockwise_of a.direction = c.flip.ensures ∙ ap flip_of c.clockwise-f.ensures ∙ flip_clockwise a.direction in (
      second.ensures.1.0,
      inserts_sided a.closeness a.ratio a.points.now c.place.new.points crossed a.made a.con a.end a.direction c.clockwise-f.result first.result second.result _
          c.place.ensures.1 c.clockwise-f.ensures first.ensures.0 first.ensures.1.1
          (second.ensures.0
          ∙ ap (new_side a.closeness (lent_sides crossed.sides) (a.made + 1) a.con a.made) turned
          ∙ sym (untorn first.result _ c.in_default.not-Tears))
          (second.ensures.1.1 ∙ ap (λ (g : TmeshDirection). points_with_new (lent_points crossed) a.made g second.result) turned)
          _ c.answer_of-2.ensures,
    )
