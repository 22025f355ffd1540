-- `knots_at` meets its contract: the knots go by the entries of the four rays.
use mathlib.Core.Path.{◌∙◌, sym}
use Rattle.control_point.specs.Sides.{lent_sides}
use Rattle.ray.proofs.KnotsLaws.{knots_by_lem}
use Rattle.ray.proofs.knots.knots_at.Goals as goal

pub returns-in_default : goal.returns-in_default
returns-in_default c =
    let a = c.args in
    c.no_knots.ensures
    ∙ sym
    (knots_by_lem a.closeness (lent_sides a.sides.now) a.made a.n a.s a.t
    ∙ rw (sym c.two_entries-up.ensures, sym c.two_entries-right.ensures, sym c.two_entries-down.ensures, sym c.two_entries-left.ensures, sym c.outcome_of-outcome.ensures, c.in_default.is))

pub returns : goal.returns
returns c =
    let a = c.args in
    c.knots_about.ensures
    ∙ sym
    (knots_by_lem a.closeness (lent_sides a.sides.now) a.made a.n a.s a.t
    ∙ rw (sym c.two_entries-up.ensures, sym c.two_entries-right.ensures, sym c.two_entries-down.ensures, sym c.two_entries-left.ensures, sym c.outcome_of-outcome.ensures, c.in-Ok.is))
