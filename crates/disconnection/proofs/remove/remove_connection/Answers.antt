-- `remove_connection` meets its contract: the side decides; a link is opened here, and then at its other end.
use Prim.Native.Nat.{ℕ}
use mathlib.Core.Path.{◌≡◌, ◌∙◌, sym, ap, subst}
use lib.Ieee.{Float}
use lib.ListN.{length}
use Rattle.control_point.specs.Direction.{flip_of}
use Rattle.control_point.proofs.PointLaws.{is_made_room}
use Rattle.control_point.specs.Told.{outcome_told}
use Rattle.control_point.specs.declared.refusal.Refusal.TheVariants.{NoPoint}
use Rattle.control_point.specs.declared.t_mesh_control_point.Side.TheVariants.{Link, Opening}
use Rattle.control_point.specs.declared.t_mesh_direction.TmeshDirection.{TmeshDirection}
use Rattle.store.specs.Store.{store_sides, with_side_at, done, refused, opened, remove_connection}
use Rattle.store.specs.Tables.{remove_connection_table}
use Rattle.store.proofs.TablesLaws.{removed_told, removed_opens}
use Rattle.store.specs.declared.store.Changed.{Changed}
use Rattle.store.specs.declared.store.Store.{Store}
use Rattle.disconnection.proofs.Opened.{opened_settled, decided}
use Rattle.disconnection.proofs.Stored.{opened_stored}
use Rattle.disconnection.proofs.remove.remove_connection.Goals as goal
use Rattle.std.specs.Prelude.{Ok}

-- the promises beside the equation follow from it
module _ (store : Store) (n : ℕ) (direction : TmeshDirection) (r : Changed) where
  told_of : r ≡ remove_connection store n direction → outcome_told r.outcome ≡ remove_connection_table store n direction
  told_of is = ap (λ (x : Changed). outcome_told x.outcome) is ∙ removed_told store n direction

  abbrev Opens : Changed → Type 0
  Opens x =
      x.outcome ≡ Ok tt
      → (store_sides x.store n direction ≡ Opening)
      × ((m : ℕ) (interval : Float) → store_sides store n direction ≡ Link m interval → store_sides x.store m (flip_of direction) ≡ Opening)

  opens_of : length store.points ≡ 128 → r ≡ remove_connection store n direction → Opens r
  opens_of room is = subst Opens (sym is) (removed_opens store n direction room)

pub returns-then-not-is_made : goal.returns-then-not-is_made
unfolding remove_connection
returns-then-not-is_made c =
    let a = c.args in
    let is : refused a.store NoPoint ≡ remove_connection a.store a.n a.direction = simp (sym c.is_made.ensures ∙ c.if-not-is_made.true) in
    record {
      is = is;
      told = told_of a.store a.n a.direction _ is;
      opens = opens_of a.store a.n a.direction _ c.well_formed.0.1.1.0.1.0.1 is;
    }

pub point_at-point-requires : goal.point_at-point-requires
point_at-point-requires c = is_made_room _ _ (sym c.is_made.ensures ∙ c.if-not-is_made.false)

pub settle-requires : goal.settle-requires
settle-requires c = is_made_room _ _ (sym c.is_made.ensures ∙ c.if-not-is_made.false)

pub returns-in_default : goal.returns-in_default
returns-in_default c =
    let a = c.args in
    let is : c.settle.result ≡ remove_connection a.store a.n a.direction =
    opened_settled a.store a.n a.direction _ _ _ _ _ c.in_default.not-Link c.point_at-point.ensures c.with_side-near.ensures c.is_border.ensures c.settle.ensures
    ∙ decided a.store a.n a.direction _ _ (sym c.is_made.ensures ∙ c.if-not-is_made.false) c.point_at-point.ensures c.side_of-side.ensures in
    record {
      is = is;
      told = told_of a.store a.n a.direction _ is;
      opens = opens_of a.store a.n a.direction _ c.well_formed.0.1.1.0.1.0.1 is;
    }

pub returns-then-not-is_made-2 : goal.returns-then-not-is_made-2
returns-then-not-is_made-2 c =
    let a = c.args in
    let unmade : refused a.store NoPoint ≡ opened a.store a.n a.direction (Link c.in-Link.m c.in-Link.field-1) = simp (sym c.is_made-2.ensures ∙ c.if-not-is_made-2.true) in
    let is : refused a.store NoPoint ≡ remove_connection a.store a.n a.direction =
    unmade
    ∙ decided a.store a.n a.direction _ _ (sym c.is_made.ensures ∙ c.if-not-is_made.false) c.point_at-point.ensures (sym c.in-Link.is ∙ c.side_of-side.ensures) in
    record {
      is = is;
      told = told_of a.store a.n a.direction _ is;
      opens = opens_of a.store a.n a.direction _ c.well_formed.0.1.1.0.1.0.1 is;
    }

pub with_point-next-requires : goal.with_point-next-requires
with_point-next-requires c = is_made_room _ _ (sym c.is_made.ensures ∙ c.if-not-is_made.false)

pub point_at-requires : goal.point_at-requires
point_at-requires c = is_made_room _ _ (sym c.is_made-2.ensures ∙ c.if-not-is_made-2.false)

pub with_point-requires : goal.with_point-requires
with_point-requires c = is_made_room _ _ (sym c.is_made-2.ensures ∙ c.if-not-is_made-2.false)

pub returns : goal.returns
returns c =
    let a = c.args in
    let far : done (with_side_at (with_side_at a.store a.n a.direction Opening) c.in-Link.m (flip_of a.direction) Opening) ≡ opened a.store a.n a.direction (Link c.in-Link.m c.in-Link.field-1) =
    simp (sym c.is_made-2.ensures ∙ c.if-not-is_made-2.false) in
    let is : done c.with_point.result ≡ remove_connection a.store a.n a.direction =
    ap done (opened_stored a.store a.direction _ c.flip.ensures _ _ a.n _ _ _ _ _ c.point_at-point.ensures
    c.with_side-near.ensures
    c.with_point-next.ensures
    c.point_at.ensures
    c.with_side-far.ensures
    c.with_point.ensures)
    ∙ far
    ∙ decided a.store a.n a.direction _ _ (sym c.is_made.ensures ∙ c.if-not-is_made.false) c.point_at-point.ensures (sym c.in-Link.is ∙ c.side_of-side.ensures) in
    record {
      is = is;
      told = told_of a.store a.n a.direction _ is;
      opens = opens_of a.store a.n a.direction _ c.well_formed.0.1.1.0.1.0.1 is;
    }
