-- Laws of points: which numbers are made, and a point's sides after a change.
use Rattle.std.specs.Prelude.{ℕ, ◌<◌, ◌≤◌, ◌≡◌, refl, Bool, true, false, cond, ◌&&◌, ltb, Float}
use Rattle.std.proofs.Common.{arith, ltb-true, lt-ltb}
use Rattle.control_point.specs.Direction.{same_direction}
use Rattle.control_point.specs.Point.{side_of, with_side, moved_from, is_made}
use Rattle.control_point.specs.declared.t_mesh_direction.TmeshDirection.{TmeshDirection}
use Rattle.control_point.specs.declared.t_mesh_direction.TmeshDirection.TheVariants.{Up, Right, Down, Left}
use Rattle.control_point.specs.declared.t_mesh_control_point.Side.{Side}
use Rattle.control_point.specs.declared.t_mesh_control_point.TmeshControlPoint.{TmeshControlPoint}

and_left : (a b : Bool) → (a && b) ≡ true → a ≡ true
and_left true b h = refl
and_left false b h = h

and_right : (a b : Bool) → (a && b) ≡ true → b ≡ true
and_right true b h = h
and_right false true h = refl
and_right false false h = h

pub is_made_made : (made n : ℕ) → is_made made n ≡ true → n < made
unfolding is_made
is_made_made made n h = ltb-true n made (and_left _ _ h)

pub is_made_room : (made n : ℕ) → is_made made n ≡ true → n < 128
unfolding is_made
is_made_room made n h = ltb-true n 128 (and_right (ltb n made) _ h)

pub made_is_made : (made n : ℕ) → made ≤ 128 → n < made → is_made made n ≡ true
unfolding is_made
made_is_made made n room h = rw (lt-ltb n made h, lt-ltb n 128 (omega arith))

-- the side in a direction after a change in another
pub side_with : (p : TmeshControlPoint) (d e : TmeshDirection) (side : Side) → side_of (with_side p d side) e ≡ cond (same_direction e d) side (side_of p e)
side_with p d Up side = refl
side_with p d Right side = refl
side_with p d Down side = refl
side_with p d Left side = refl

-- a move of its coordinates leaves a point's sides
pub side_moved : (p from : TmeshControlPoint) (d e : TmeshDirection) (interval : Float) → side_of (moved_from p from d interval) e ≡ side_of p e
side_moved p from d Up interval = refl
side_moved p from d Right interval = refl
side_moved p from d Down interval = refl
side_moved p from d Left interval = refl
