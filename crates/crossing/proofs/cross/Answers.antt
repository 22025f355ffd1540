-- `cross` meets its contract: con's side, and then what the search finds, say what the side becomes.
use mathlib.Core.Path.{◌≡◌, refl, ◌∙◌, sym, ap}
use Rattle.std.specs.Prelude.{Ok, Some, None, Err}
use Rattle.control_point.specs.Sides.{lent_sides}
use Rattle.control_point.specs.declared.t_mesh_control_point.Side.TheVariants.{Border, Opening}
use Rattle.lent_points.specs.Lent.{Points, points_linked}
use Rattle.lent_points.proofs.LentLaws.{lent_side}
use Rattle.search.specs.Search.{find_inferred_connection}
use Rattle.crossing.proofs.Told.{new_border, new_found, found_other}
use Rattle.crossing.proofs.cross.Goals as goal
use Rattle.crossing.proofs.cross.Goals.{In-Ok-Some}

pub returns-in-Border : goal.returns-in-Border
returns-in-Border c =
    let a = c.args in (
      sym (new_border a.closeness (lent_sides a.points.now.sides) a.made a.con a.p a.f c.in-Border.weight (sym c.side_at.ensures ∙ c.in-Border.is)),
      ((c.put_side.ensures.0, c.requires.1.1), lent_side a.points.now _ a.p a.f (Border c.in-Border.weight) refl c.put_side.ensures.1),
    )

-- what the search has found
found : (c : In-Ok-Some) → Ok (Some c.in-Ok-Some.end) ≡ find_inferred_connection c.args.closeness (lent_sides c.put_side-2.new.self) c.args.made c.args.p c.args.f
found c =
    let is : c.find_inferred_connection.result ≡ Ok c.in-Ok-Some.field-0 = c.in-Ok-Some.is in
    let some : c.in-Ok-Some.field-0 ≡ Some c.in-Ok-Some.end = c.in-Ok-Some.field-0-is in
    sym (is ∙ ap Ok some) ∙ c.find_inferred_connection.ensures.is

pub link-requires : goal.link-requires
link-requires c =
    let a = c.args in (
      (c.requires.0, found_other a.closeness _ a.made a.p a.f c.in-Ok-Some.end (found (goal.at.link-requires c).In-Ok-Some)),
      (c.put_side-2.ensures.0, c.requires.1.1),
    )

pub returns-in-Ok-Some : goal.returns-in-Ok-Some
returns-in-Ok-Some c =
    let a = c.args in (
      new_found a.closeness (lent_sides a.points.now.sides) a.made a.con a.p a.f c.side_at.result c.side_at.ensures c.in_default.not-Border
          _ c.put_side-2.ensures.1 _ (found (goal.at.returns-in-Ok-Some c).In-Ok-Some),
      (
        c.link.ensures.0,
        c.link.ensures.1
            ∙ ap (λ (points : Points). points_linked points a.p c.in-Ok-Some.end.point a.f c.in-Ok-Some.end.interval)
            (lent_side a.points.now _ a.p a.f Opening refl c.put_side-2.ensures.1),
      ),
    )

pub returns-in-Ok-None : goal.returns-in-Ok-None
returns-in-Ok-None c =
    let a = c.args in
    let found = c.find_inferred_connection in
    let is : found.result ≡ Ok c.in-Ok-None.field-0 = c.in-Ok-None.is in
    let none : c.in-Ok-None.field-0 ≡ None = c.in-Ok-None.field-0-is in (
      new_found a.closeness (lent_sides a.points.now.sides) a.made a.con a.p a.f c.side_at.result c.side_at.ensures c.in_default.not-Border
          _ c.put_side-2.ensures.1 (Ok None) (sym (is ∙ ap Ok none) ∙ found.ensures.is),
      ((c.put_side-2.ensures.0, c.requires.1.1), lent_side a.points.now _ a.p a.f Opening refl c.put_side-2.ensures.1),
    )

pub returns-in-Err : goal.returns-in-Err
returns-in-Err c =
    let a = c.args in (
      new_found a.closeness (lent_sides a.points.now.sides) a.made a.con a.p a.f c.side_at.result c.side_at.ensures c.in_default.not-Border
          _ c.put_side-2.ensures.1 (Err c.in-Err.field-0) c.in-Err.ensures.is,
      ((c.put_side-2.ensures.0, c.requires.1.1), lent_side a.points.now _ a.p a.f Opening refl c.put_side-2.ensures.1),
    )
