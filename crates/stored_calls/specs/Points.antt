-- A store's points as stored: a byte for how many are made, then 56 bytes for each. A point is its sides up, right, down and left, and its
-- coordinates s and t; a side is its kind (link 0, border 1, opening 2), the number linked to, and the bits of its interval or weight.
use Rattle.std.specs.Prelude.{ℕ, zero, suc, ◌+◌, ◌*◌, Bool, true, false, cond, ◌&&◌, List, eqb, ltb, Float, drop}
use Rattle.std.specs.Float.{binary64}
use Rattle.std.specs.Float.Ieee.{to_bits}
use Rattle.control_point.specs.Point.{point_at}
use Rattle.control_point.specs.declared.t_mesh_control_point.Side.{Side}
use Rattle.control_point.specs.declared.t_mesh_control_point.Side.TheVariants.{Link, Border, Opening}
use Rattle.control_point.specs.declared.t_mesh_control_point.TmeshControlPoint.{TmeshControlPoint}
use Rattle.store.specs.declared.store.Store.{Store}
use Rattle.big_endian.specs.BigEndian.{byte_at, number_at}

-- whether a float has the bits
abbrev pub has_bits : Float → ℕ → Bool
has_bits x bits = eqb (to_bits binary64 x) bits

-- whether a side is of a kind, with a number and the bits of its interval or weight
unfoldable pub side_is_right : Side → ℕ → ℕ → ℕ → Bool
side_is_right (Link linked interval) kind number bits = (eqb kind 0 && eqb linked number) && has_bits interval bits
side_is_right (Border weight) kind number bits = eqb kind 1 && has_bits weight bits
side_is_right Opening kind number bits = eqb kind 2

-- whether a side is the one stored at a place
abbrev pub side_is_at : Side → List ℕ → ℕ → Bool
side_is_at side bytes at = side_is_right side (byte_at bytes at) (byte_at bytes (at + 1)) (number_at 8 bytes (at + 2))

-- whether a point is the one that bytes begin with
unfoldable pub point_is_right : TmeshControlPoint → List ℕ → Bool
unfolding side_is_right
point_is_right point bytes =
    ((side_is_at point.up bytes 0 && side_is_at point.right bytes 10) && (side_is_at point.down bytes 20 && side_is_at point.left bytes 30))
    && (has_bits point.s (number_at 8 bytes 40) && has_bits point.t (number_at 8 bytes 48))

-- whether the first so many points are the ones stored
unfoldable pub points_are_right : ℕ → List TmeshControlPoint → List ℕ → Bool
unfolding point_is_right
points_are_right zero points bytes = true
points_are_right (suc n) points bytes = points_are_right n points bytes && point_is_right (point_at points n) (drop (n * 56 + 1) bytes)

-- whether a store is the one that bytes begin with; no store has more than 128 points
unfoldable pub store_is_right : Store → List ℕ → Bool
unfolding points_are_right
store_is_right store bytes =
    cond (ltb 128 store.made) false (points_are_right store.made store.points bytes && eqb store.made (byte_at bytes 0))
