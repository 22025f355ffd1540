-- What two stores to a store of points come to: a link opened at both ends.
use Prim.Native.Nat.{ℕ}
use mathlib.Core.Path.{◌≡◌}
use Rattle.control_point.specs.Direction.{flip_of}
use Rattle.control_point.specs.Point.{with_side}
use Rattle.control_point.specs.declared.t_mesh_direction.TmeshDirection.{TmeshDirection}
use Rattle.control_point.specs.declared.t_mesh_control_point.Side.TheVariants.{Opening}
use Rattle.control_point.specs.declared.t_mesh_control_point.TmeshControlPoint.{TmeshControlPoint}
use Rattle.store.specs.Store.{store_point, with_point, with_side_at}
use Rattle.store.specs.declared.store.Store.{Store}

module _ (store : Store) (d back : TmeshDirection) (b : back ≡ flip_of d) (next last : Store) where
  pub opened_stored : (n m : ℕ) (point near reached far : TmeshControlPoint)
      → point ≡ store_point store n
      → near ≡ with_side point d Opening
      → next ≡ with_point store n near
      → reached ≡ store_point next m
      → far ≡ with_side reached back Opening
      → last ≡ with_point next m far
      → last ≡ with_side_at (with_side_at store n d Opening) m (flip_of d) Opening
  opened_stored n m point near reached far p o x r f y = rw (y, f, r, x, o, p, b)
