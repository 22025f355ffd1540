-- `connect` meets its contract: once both numbers are made, what the two points answer decides, and the linked store is the two points stored.
use Prim.Native.Nat.{ℕ}
use mathlib.Core.Path.{◌≡◌, ◌∙◌, sym, ap, subst}
use lib.Ieee.{Float}
use lib.ListN.{length}
use Rattle.control_point.specs.Direction.{flip_of}
use Rattle.control_point.specs.Told.{outcome_told}
use Rattle.control_point.specs.declared.refusal.Refusal.TheVariants.{NoPoint}
use Rattle.control_point.specs.declared.t_mesh_control_point.Side.TheVariants.{Link}
use Rattle.control_point.specs.declared.t_mesh_direction.TmeshDirection.{TmeshDirection}
use Rattle.store.specs.Store.{store_sides, done, refused, linked, connect_points}
use Rattle.store.specs.Tables.{connect_table}
use Rattle.store.proofs.TablesLaws.{connect_told, connect_links}
use Rattle.store.specs.declared.store.Changed.{Changed}
use Rattle.store.specs.declared.store.Store.{Store}
use Rattle.connection.proofs.Settled.{first_room, other_room, connect_unmade, answered, not_done}
use Rattle.connection.proofs.Stored.{linked_stored}
use Rattle.connection.proofs.connect.connect.Goals as goal
use Rattle.std.specs.Prelude.{Ok}

-- the promises beside the equation follow from it
module _ (store : Store) (first other : ℕ) (direction : TmeshDirection) (interval : Float) (r : Changed) where
  told_of : r ≡ connect_points store first other direction interval → outcome_told r.outcome ≡ connect_table store first other direction
  told_of is = ap (λ (x : Changed). outcome_told x.outcome) is ∙ connect_told store first other direction interval

  abbrev Links : Changed → Type 0
  Links x =
      x.outcome ≡ Ok tt
      → (store_sides x.store first direction ≡ Link other interval) × (store_sides x.store other (flip_of direction) ≡ Link first interval)

  links_of : length store.points ≡ 128 → r ≡ connect_points store first other direction interval → Links r
  links_of room is = subst Links (sym is) (connect_links store first other direction interval room)

pub returns-then-not-both_made : goal.returns-then-not-both_made
returns-then-not-both_made c =
    let a = c.args in
    let is : refused a.store NoPoint ≡ connect_points a.store a.first a.other a.direction a.interval =
    sym (connect_unmade a.store a.first a.other a.direction a.interval (sym c.both_made.ensures ∙ c.if-not-both_made.true)) in
    record {
      is = is;
      told = told_of a.store a.first a.other a.direction a.interval _ is;
      links = links_of a.store a.first a.other a.direction a.interval _ c.well_formed.0.1.1.0.1.0.1 is;
    }

pub point_at-near-requires : goal.point_at-near-requires
point_at-near-requires c = let a = c.args in first_room a.store a.first a.other (sym c.both_made.ensures ∙ c.if-not-both_made.false)

pub point_at-far-requires : goal.point_at-far-requires
point_at-far-requires c = let a = c.args in other_room a.store a.first a.other (sym c.both_made.ensures ∙ c.if-not-both_made.false)

pub returns-in_default : goal.returns-in_default
returns-in_default c =
    let a = c.args in
    let is : record { outcome = c.may_connect-outcome.result; store = a.store } ≡ connect_points a.store a.first a.other a.direction a.interval =
    not_done _ (linked a.store a.first a.other a.direction a.interval) a.store (c.in_default.not-Ok tt)
    ∙ answered a.store a.first a.other a.direction a.interval (sym c.both_made.ensures ∙ c.if-not-both_made.false) _ _ c.point_at-near.ensures
    c.point_at-far.ensures
    _
    c.may_connect-outcome.ensures in
    record {
      is = is;
      told = told_of a.store a.first a.other a.direction a.interval _ is;
      links = links_of a.store a.first a.other a.direction a.interval _ c.well_formed.0.1.1.0.1.0.1 is;
    }

pub with_point-requires : goal.with_point-requires
with_point-requires c = let a = c.args in first_room a.store a.first a.other (sym c.both_made.ensures ∙ c.if-not-both_made.false)

pub with_point-requires-2 : goal.with_point-requires-2
with_point-requires-2 c = let a = c.args in other_room a.store a.first a.other (sym c.both_made.ensures ∙ c.if-not-both_made.false)

pub returns : goal.returns
returns c =
    let a = c.args in
    let is : done c.with_point-2.result ≡ connect_points a.store a.first a.other a.direction a.interval =
    ap done (linked_stored a.store a.direction _ c.flip.ensures _ _ a.first a.other a.interval _ _ _ _ _ c.point_at-near.ensures
    c.point_at-far.ensures
    c.with_side-ahead.ensures
    c.with_side-back.ensures
    c.moved_from-moved.ensures
    c.with_point.ensures
    c.with_point-2.ensures)
    ∙ answered a.store a.first a.other a.direction a.interval (sym c.both_made.ensures ∙ c.if-not-both_made.false) _ _ c.point_at-near.ensures
    c.point_at-far.ensures
    (Ok tt)
    (sym c.in-Ok.is ∙ c.may_connect-outcome.ensures) in
    record {
      is = is;
      told = told_of a.store a.first a.other a.direction a.interval _ is;
      links = links_of a.store a.first a.other a.direction a.interval _ c.well_formed.0.1.1.0.1.0.1 is;
    }
