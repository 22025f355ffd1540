-- One point more is held against the bytes that follow those of the points before it.
use Rattle.std.specs.Prelude.{ℕ, ◌+◌, ◌*◌, ◌≤◌, true, ◌&&◌, List, ◌≡◌, refl, eqb, drop}
use Rattle.std.proofs.Common.{add-one, le-ltb}
use Rattle.control_point.specs.Point.{point_at}
use Rattle.control_point.specs.declared.t_mesh_control_point.TmeshControlPoint.{TmeshControlPoint}
use Rattle.store.specs.declared.store.Store.{Store}
use Rattle.big_endian.specs.BigEndian.{byte_at}
use Rattle.stored_calls.specs.Points.{point_is_right, points_are_right, store_is_right}

-- no points are the ones stored
pub points_none : (points : List TmeshControlPoint) (bytes : List ℕ) → points_are_right 0 points bytes ≡ true
unfolding points_are_right
points_none points bytes = refl

pub points_more :
    (n : ℕ) (points : List TmeshControlPoint) (bytes : List ℕ) →
    points_are_right (n + 1) points bytes ≡ (points_are_right n points bytes && point_is_right (point_at points n) (drop (n * 56 + 1) bytes))
unfolding points_are_right
points_more n points bytes = rw add-one refl

-- a store with room for its points
pub store_with_room :
    (store : Store) (bytes : List ℕ) → store.made ≤ 128 →
    store_is_right store bytes ≡ (points_are_right store.made store.points bytes && eqb store.made (byte_at bytes 0))
unfolding store_is_right
store_with_room store bytes room = simp (le-ltb _ _ room)
