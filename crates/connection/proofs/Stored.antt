-- What two stores to a store of points come to: two points linked.
use Prim.Native.Nat.{ℕ}
use mathlib.Core.Path.{◌≡◌}
use lib.Ieee.{Float}
use Rattle.control_point.specs.Direction.{flip_of}
use Rattle.control_point.specs.Point.{with_side, moved_from}
use Rattle.control_point.specs.declared.t_mesh_direction.TmeshDirection.{TmeshDirection}
use Rattle.control_point.specs.declared.t_mesh_control_point.Side.TheVariants.{Link}
use Rattle.control_point.specs.declared.t_mesh_control_point.TmeshControlPoint.{TmeshControlPoint}
use Rattle.store.specs.Store.{store_point, with_point, linked}
use Rattle.store.specs.declared.store.Store.{Store}

module _ (store : Store) (d back : TmeshDirection) (b : back ≡ flip_of d) (next last : Store) where
  pub linked_stored : (first other : ℕ) (interval : Float) (near far ahead joined moved : TmeshControlPoint)
      → near ≡ store_point store first
      → far ≡ store_point store other
      → ahead ≡ with_side near d (Link other interval)
      → joined ≡ with_side far back (Link first interval)
      → moved ≡ moved_from joined near d interval
      → next ≡ with_point store first ahead
      → last ≡ with_point next other moved
      → last ≡ linked store first other d interval
  linked_stored first other interval near far ahead joined moved n f a j m x y = rw (y, x, m, j, a, f, n, b)
