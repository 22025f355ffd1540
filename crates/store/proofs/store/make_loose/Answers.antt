-- `make_loose` meets its contract: there is room where fewer than 128 points are made.
use Prim.Native.Nat.{ℕ, ◌+◌}
use mathlib.Core.Path.{◌≡◌, ◌∙◌, sym, ap, subst}
use native.Mathlib.Omega.{arith}
use borrow.Author.Tests.{lt-ltb, le-ltb}
use lib.Ieee.{Float}
use lib.ListN.{length, set}
use Rattle.control_point.specs.Point.{loose_point, minus_one}
use Rattle.control_point.specs.Told.{outcome_told}
use Rattle.control_point.specs.declared.refusal.Refusal.TheVariants.{Full}
use Rattle.control_point.specs.declared.t_mesh_control_point.Side.TheVariants.{Border}
use Rattle.control_point.specs.declared.t_mesh_control_point.TmeshControlPoint.{TmeshControlPoint}
use Rattle.control_point.specs.declared.t_mesh_direction.TmeshDirection.{TmeshDirection}
use Rattle.store.specs.Store.{store_sides, store_point, with_new, done, refused, make_loose}
use Rattle.store.specs.Tables.{make_loose_table}
use Rattle.store.proofs.TablesLaws.{loose_told, loose_borders}
use Rattle.store.specs.declared.store.Changed.{Changed}
use Rattle.store.specs.declared.store.Store.{Store}
use Rattle.store.proofs.store.make_loose.Goals as goal
use Rattle.std.specs.Prelude.{Ok}

-- the promises beside the equation follow from it
told_of : (store : Store) (weight : Float) (r : Changed) → r ≡ make_loose store weight → outcome_told r.outcome ≡ make_loose_table store
told_of store weight r is = ap (λ (x : Changed). outcome_told x.outcome) is ∙ loose_told store weight

abbrev Borders : Store → Float → Changed → Type 0
Borders store weight r =
    r.outcome ≡ Ok tt
    → ((d : TmeshDirection) → store_sides r.store store.made d ≡ Border weight)
    × (((store_point r.store store.made).s ≡ minus_one) × ((store_point r.store store.made).t ≡ minus_one))

borders_of : (store : Store) (weight : Float) (r : Changed) → length store.points ≡ 128 → r ≡ make_loose store weight → Borders store weight r
borders_of store weight r room is = subst (Borders store weight) (sym is) (loose_borders store weight room)

-- a loose point stored under the next number
made_stored : (store : Store) (weight : Float) (place : ℕ) (point : TmeshControlPoint) → place ≡ store.made → point ≡ loose_point weight
    → done (record { points = set store.points place point; made = store.made + 1 }) ≡ done (with_new store (loose_point weight))
made_stored store weight place point p l = rw (p, l)

pub returns-then-made-ge128 : goal.returns-then-made-ge128
unfolding make_loose
returns-then-made-ge128 c =
    let store = c.args.store in
    let is : refused store Full ≡ make_loose store c.args.weight = simp (le-ltb store.made 128 (omega arith)) in
    record {
      is = is;
      told = told_of store c.args.weight _ is;
      borders = borders_of store c.args.weight _ c.well_formed.0.1.1.0.1.0.1 is;
    }

pub returns : goal.returns
unfolding make_loose
returns c =
    let store = c.args.store in
    let is : done (record { points = set store.points c.wide.result c.loose_point.result; made = store.made + 1 }) ≡ make_loose store c.args.weight =
    simp (lt-ltb _ _ c.if-made-ge128.false) (made_stored store c.args.weight _ _ c.wide.ensures c.loose_point.ensures) in
    record {
      is = is;
      told = told_of store c.args.weight _ is;
      borders = borders_of store c.args.weight _ c.well_formed.0.1.1.0.1.0.1 is;
    }
