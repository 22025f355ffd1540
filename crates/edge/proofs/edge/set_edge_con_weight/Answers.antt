-- `set_edge_con_weight` meets its contract: the side is a border, or it is refused by what it is.
use Prim.Native.Nat.{ℕ}
use mathlib.Core.Path.{◌≡◌, ◌∙◌, sym, ap, subst}
use lib.Ieee.{Float}
use lib.ListN.{length}
use Rattle.control_point.proofs.PointLaws.{is_made_room}
use Rattle.control_point.specs.Told.{outcome_told}
use Rattle.control_point.specs.declared.refusal.Refusal.TheVariants.{NoPoint}
use Rattle.control_point.specs.declared.t_mesh_control_point.Side.TheVariants.{Border}
use Rattle.control_point.specs.declared.t_mesh_direction.TmeshDirection.{TmeshDirection}
use Rattle.store.specs.Store.{store_sides, refused, set_edge_con_weight}
use Rattle.store.specs.Tables.{set_edge_con_weight_table}
use Rattle.store.proofs.TablesLaws.{weight_told, weight_border}
use Rattle.store.specs.declared.store.Changed.{Changed}
use Rattle.store.specs.declared.store.Store.{Store}
use Rattle.edge.proofs.Weighted.{weighted_border}
use Rattle.edge.proofs.edge.set_edge_con_weight.Goals as goal
use Rattle.std.specs.Prelude.{Ok}

-- the promises beside the equation follow from it
module _ (store : Store) (n : ℕ) (direction : TmeshDirection) (weight : Float) (r : Changed) where
  told_of : r ≡ set_edge_con_weight store n direction weight → outcome_told r.outcome ≡ set_edge_con_weight_table store n direction
  told_of is = ap (λ (x : Changed). outcome_told x.outcome) is ∙ weight_told store n direction weight

  border_of : length store.points ≡ 128 → r ≡ set_edge_con_weight store n direction weight → r.outcome ≡ Ok tt → store_sides r.store n direction ≡ Border weight
  border_of room is = subst (λ (x : Changed). x.outcome ≡ Ok tt → store_sides x.store n direction ≡ Border weight) (sym is) (weight_border store n direction weight room)

pub returns-then-not-is_made : goal.returns-then-not-is_made
unfolding set_edge_con_weight
returns-then-not-is_made c =
    let a = c.args in
    let is : refused a.store NoPoint ≡ set_edge_con_weight a.store a.n a.direction a.weight = simp (sym c.is_made.ensures ∙ c.if-not-is_made.true) in
    record {
      is = is;
      told = told_of a.store a.n a.direction a.weight _ is;
      border = border_of a.store a.n a.direction a.weight _ c.well_formed.0.1.1.0.1.0.1 is;
    }

pub point_at-point-requires : goal.point_at-point-requires
point_at-point-requires c = is_made_room _ _ (sym c.is_made.ensures ∙ c.if-not-is_made.false)

pub settle-requires : goal.settle-requires
settle-requires c = is_made_room _ _ (sym c.is_made.ensures ∙ c.if-not-is_made.false)

pub returns : goal.returns
unfolding set_edge_con_weight
returns c =
    let a = c.args in
    let is : c.settle.result ≡ set_edge_con_weight a.store a.n a.direction a.weight =
    c.settle.ensures
    ∙ rw (c.side_refusal.ensures, c.is_border.ensures, c.with_side-weighted.ensures)
    (simp (sym c.is_made.ensures ∙ c.if-not-is_made.false, weighted_border a.store a.n a.direction a.weight, c.side_of-side.ensures, c.point_at-point.ensures)) in
    record {
      is = is;
      told = told_of a.store a.n a.direction a.weight _ is;
      border = border_of a.store a.n a.direction a.weight _ c.well_formed.0.1.1.0.1.0.1 is;
    }
