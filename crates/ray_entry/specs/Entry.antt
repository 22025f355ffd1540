-- One entry of a ray, and the front after it. A front is where a ray stands between two entries: its point, whether the call's
-- first border has been met, and, where the ray marches, the distance r of the point from it. d is the direction of the ray, e the
-- closeness. A ray's link and border entries and an opening's first entry are 0.0 and a sum; the march's are the walk's sum bare.
use Rattle.std.specs.Prelude.{Option, Some, None, ℕ, Bool, true, cond, Float, Err, Ok, Result}
use Rattle.std.specs.Float.{binary64}
use Rattle.std.specs.Float.Ieee.{add}
use Rattle.control_point.specs.Direction.{clockwise_of, anti_clockwise_of}
use Rattle.control_point.specs.Point.{is_border, is_opening}
use Rattle.control_point.specs.Sides.{Sides, side_at}
use Rattle.navigation.specs.Walk.{walk_of}
use Rattle.control_point.specs.declared.t_mesh_direction.TmeshDirection.{TmeshDirection}
use Rattle.control_point.specs.declared.t_mesh_control_point.Side.TheVariants.{Link, Border, Opening}
use Rattle.float64.specs.Literals.{zero_literal}
use Rattle.ray_approach.specs.Approach.{approach_of}
use Rattle.ray_approach.specs.declared.approach.Approach.TheVariants.{Aligned, Crossed}
use Rattle.ray_entry.specs.declared.entry.Front.{Front}
use Rattle.control_point.specs.declared.refusal.Refusal.{Refusal}
use Rattle.control_point.specs.declared.t_mesh_control_point.Side.{Side}
use Rattle.navigation.specs.declared.walk.Walk.{Walk}
use Rattle.ray_approach.specs.declared.approach.Approach.{Approach}
use Rattle.ray_entry.specs.declared.entry.Entry.{Entry}

-- at a point that the ray meets
abbrev pub on_ray : ℕ → Bool → Front
on_ray n met = record { at = n; bordered = met; march = None }

-- in a march, at a distance from the ray
abbrev pub in_march : ℕ → Bool → Float → Front
in_march n met r = record { at = n; bordered = met; march = Some r }

-- an entry of a value, and the front after it
abbrev pub entry_with : Float → Front → Entry
entry_with value front = record { value = value; front = front }

-- on from where a walk ends, with its sum, or its refusal
abbrev pub after_walk : Result Walk Refusal → (ℕ → Float → Result Entry Refusal) → Result Entry Refusal
after_walk (Ok walk) next = next walk.at walk.sum
after_walk (Err refusal) next = Err refusal

module _ (sides : Sides) (made : ℕ) (d : TmeshDirection) where
  -- walk anticlockwise(d) watching d
  abbrev pub corner_walk : ℕ → Result Walk Refusal
  corner_walk at = walk_of sides made at (anti_clockwise_of d) d

  -- walk d watching clockwise(d)
  abbrev pub face_walk : ℕ → Result Walk Refusal
  face_walk at = walk_of sides made at d (clockwise_of d)

  -- ---- at a point that the ray meets
  -- opening: walk anticlockwise(d) watching d, sum r; walk d watching clockwise(d), adding its sum; then march
  abbrev pub opening_entry : ℕ → Bool → Result Entry Refusal
  opening_entry at met =
      after_walk (corner_walk at)
      (λ corner r. after_walk (face_walk corner) (λ n sum. (Ok (entry_with (add binary64 zero_literal sum) (in_march n met r)))))

  -- link: add its interval, move; border: the call's first border adds its weight, stay; opening: as above
  abbrev pub side_entry : Result Side Refusal → ℕ → Bool → Result Entry Refusal
  side_entry (Err refusal) at met = Err refusal
  side_entry (Ok (Link n interval)) at met = Ok (entry_with (add binary64 zero_literal interval) (on_ray n met))
  side_entry (Ok (Border weight)) at met = Ok (entry_with (cond met zero_literal (add binary64 zero_literal weight)) (on_ray at true))
  side_entry (Ok Opening) at met = opening_entry at met

  -- append 0.0 and look at side d; 11 for a number never made
  abbrev pub point_entry : ℕ → Bool → Result Entry Refusal
  point_entry at met = side_entry (side_at sides made at d) at met

  -- ---- in a march; each of its points was reached by a walk, so it is made
  -- walk d watching clockwise(d), append its sum, march again
  abbrev pub over_face : ℕ → Bool → Float → Result Entry Refusal
  over_face at met r = after_walk (face_walk at) (λ n sum. (Ok (entry_with sum (in_march n met r))))

  -- if side d is an opening, walk anticlockwise(d) watching d, add to r
  abbrev pub around_face : ℕ → Bool → Float → Result Entry Refusal
  around_face at met r =
      cond (is_opening (sides at d))
      (after_walk (corner_walk at) (λ corner sum. over_face corner met (add binary64 r sum)))
      (over_face at met r)

  -- after the approach: leave the march without moving, or go on over the face
  abbrev pub after_approach : Result Approach Refusal → Bool → Result Entry Refusal
  after_approach (Ok (Aligned at)) met = point_entry at met
  after_approach (Ok (Crossed at r)) met = around_face at met r
  after_approach (Err refusal) met = Err refusal

module _ (e : Float) (sides : Sides) (made : ℕ) (d : TmeshDirection) where
  -- march: stop if side d is a border, else approach
  abbrev pub march_entry : ℕ → Bool → Float → Result Entry Refusal
  march_entry at met r =
      cond (is_border (sides at d))
      (point_entry sides made d at met)
      (after_approach sides made d (approach_of e sides made d at r) met)

  -- the next entry, from where the ray stands
  abbrev pub entry_from : ℕ → Bool → Option Float → Result Entry Refusal
  entry_from at met (Some r) = march_entry at met r
  entry_from at met None = point_entry sides made d at met

  abbrev pub entry_of : Front → Result Entry Refusal
  entry_of front = entry_from front.at front.bordered front.march
