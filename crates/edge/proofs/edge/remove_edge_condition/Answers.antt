-- `remove_edge_condition` meets its contract: the side is a border, or it is refused.
use Prim.Native.Nat.{ℕ}
use mathlib.Core.Path.{◌≡◌, ◌∙◌, sym, ap, subst}
use lib.ListN.{length}
use Rattle.control_point.proofs.PointLaws.{is_made_room}
use Rattle.control_point.specs.Told.{outcome_told}
use Rattle.control_point.specs.declared.refusal.Refusal.TheVariants.{NoPoint}
use Rattle.control_point.specs.declared.t_mesh_control_point.Side.TheVariants.{Opening}
use Rattle.control_point.specs.declared.t_mesh_direction.TmeshDirection.{TmeshDirection}
use Rattle.store.specs.Store.{store_sides, refused, remove_edge_condition}
use Rattle.store.specs.Tables.{remove_edge_condition_table}
use Rattle.store.proofs.TablesLaws.{edge_told, edge_opens}
use Rattle.store.specs.declared.store.Changed.{Changed}
use Rattle.store.specs.declared.store.Store.{Store}
use Rattle.edge.proofs.edge.remove_edge_condition.Goals as goal
use Rattle.std.specs.Prelude.{Ok}

-- the promises beside the equation follow from it
module _ (store : Store) (n : ℕ) (direction : TmeshDirection) (r : Changed) where
  told_of : r ≡ remove_edge_condition store n direction → outcome_told r.outcome ≡ remove_edge_condition_table store n direction
  told_of is = ap (λ (x : Changed). outcome_told x.outcome) is ∙ edge_told store n direction

  opens_of : length store.points ≡ 128 → r ≡ remove_edge_condition store n direction → r.outcome ≡ Ok tt → store_sides r.store n direction ≡ Opening
  opens_of room is = subst (λ (x : Changed). x.outcome ≡ Ok tt → store_sides x.store n direction ≡ Opening) (sym is) (edge_opens store n direction room)

pub returns-then-not-is_made : goal.returns-then-not-is_made
unfolding remove_edge_condition
returns-then-not-is_made c =
    let a = c.args in
    let is : refused a.store NoPoint ≡ remove_edge_condition a.store a.n a.direction = simp (sym c.is_made.ensures ∙ c.if-not-is_made.true) in
    record {
      is = is;
      told = told_of a.store a.n a.direction _ is;
      opens = opens_of a.store a.n a.direction _ c.well_formed.0.1.1.0.1.0.1 is;
    }

pub point_at-point-requires : goal.point_at-point-requires
point_at-point-requires c = is_made_room _ _ (sym c.is_made.ensures ∙ c.if-not-is_made.false)

pub settle-requires : goal.settle-requires
settle-requires c = is_made_room _ _ (sym c.is_made.ensures ∙ c.if-not-is_made.false)

pub returns : goal.returns
unfolding remove_edge_condition
returns c =
    let a = c.args in
    let is : c.settle.result ≡ remove_edge_condition a.store a.n a.direction =
    c.settle.ensures
    ∙ rw (c.with_side-opened.ensures, c.is_border-border.ensures, c.side_of.ensures, c.point_at-point.ensures)
    (simp (sym c.is_made.ensures ∙ c.if-not-is_made.false)) in
    record {
      is = is;
      told = told_of a.store a.n a.direction _ is;
      opens = opens_of a.store a.n a.direction _ c.well_formed.0.1.1.0.1.0.1 is;
    }
