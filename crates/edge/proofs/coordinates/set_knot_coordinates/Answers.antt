-- `set_knot_coordinates` meets its contract: all four sides are borders, or it is refused.
use Prim.Native.Nat.{ℕ}
use mathlib.Core.Path.{◌≡◌, ◌∙◌, sym, ap}
use lib.Ieee.{Float}
use Rattle.control_point.proofs.PointLaws.{is_made_room}
use Rattle.control_point.specs.Told.{outcome_told}
use Rattle.control_point.specs.declared.refusal.Refusal.TheVariants.{NoPoint}
use Rattle.store.specs.Store.{refused, set_knot_coordinates}
use Rattle.store.specs.Tables.{set_knot_coordinates_table}
use Rattle.store.proofs.TablesLaws.{coordinates_told}
use Rattle.store.specs.declared.store.Changed.{Changed}
use Rattle.store.specs.declared.store.Store.{Store}
use Rattle.edge.proofs.coordinates.set_knot_coordinates.Goals as goal

-- what it tells follows from the equation
told_of : (store : Store) (n : ℕ) (s t : Float) (r : Changed) → r ≡ set_knot_coordinates store n s t → outcome_told r.outcome ≡ set_knot_coordinates_table store n
told_of store n s t r is = ap (λ (x : Changed). outcome_told x.outcome) is ∙ coordinates_told store n s t

pub returns-then-not-is_made : goal.returns-then-not-is_made
unfolding set_knot_coordinates
returns-then-not-is_made c =
    let a = c.args in
    let is : refused a.store NoPoint ≡ set_knot_coordinates a.store a.n a.s a.t = simp (sym c.is_made.ensures ∙ c.if-not-is_made.true) in
    record { is = is; told = told_of a.store a.n a.s a.t _ is }

pub point_at-point-requires : goal.point_at-point-requires
point_at-point-requires c = is_made_room _ _ (sym c.is_made.ensures ∙ c.if-not-is_made.false)

pub settle-requires : goal.settle-requires
settle-requires c = is_made_room _ _ (sym c.is_made.ensures ∙ c.if-not-is_made.false)

pub returns : goal.returns
unfolding set_knot_coordinates
returns c =
    let a = c.args in
    let is : c.settle.result ≡ set_knot_coordinates a.store a.n a.s a.t =
    c.settle.ensures
    ∙ rw (c.all_borders.ensures, c.at_coordinates-moved.ensures, c.point_at-point.ensures)
    (simp (sym c.is_made.ensures ∙ c.if-not-is_made.false)) in
    record { is = is; told = told_of a.store a.n a.s a.t _ is }
