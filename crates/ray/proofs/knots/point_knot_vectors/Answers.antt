-- `point_knot_vectors` meets its contract: filling the arrays changes no side.
use mathlib.Core.Path.{◌∙◌, sym, ap}
use native.Mathlib.Omega.{arith}
use Rattle.control_point.proofs.PointLaws.{is_made_room}
use Rattle.control_point.specs.Sides.{Sides}
use Rattle.control_point.proofs.ToldLaws.{beside}
use Rattle.store.specs.Store.{store_point}
use Rattle.ray.specs.Knots.{knots_at, point_knot_vectors, knots_told}
use Rattle.ray.proofs.TableLaws.{knots_told_lem}
use Rattle.ray.proofs.knots.point_knot_vectors.Goals as goal

pub returns-then-not-is_made : goal.returns-then-not-is_made
unfolding point_knot_vectors
returns-then-not-is_made c =
    let all = ((let a = c.args in beside knots_told _ _ (knots_told_lem a.closeness a.store a.n) _) (c.no_knots.ensures ∙ sym (simp (sym c.is_made.ensures ∙ c.if-not-is_made.true)))) in record { is = all.0; told = all.1 }

pub bounds-points-n : goal.bounds-points-n
bounds-points-n c = omega (arith, is_made_room _ _ ((sym c.is_made.ensures ∙ c.if-not-is_made.false)))

pub returns : goal.returns
unfolding point_knot_vectors
returns c =
    let all = (let a = c.args in
    (let a = c.args in beside knots_told _ _ (knots_told_lem a.closeness a.store a.n) _)
    (c.knots_at.ensures
    ∙ ap (λ (sides : Sides). knots_at a.closeness sides a.store.made a.n (store_point a.store a.n).s (store_point a.store a.n).t) c.fill.ensures.1
    ∙ sym (simp ((sym c.is_made.ensures ∙ c.if-not-is_made.false))))) in record { is = all.0; told = all.1 }
