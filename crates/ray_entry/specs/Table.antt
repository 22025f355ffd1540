-- The table of a ray's entry, from where the ray stands: a number never made 11; at an opening the refusal of its two walks; in a march the
-- approach's refusal, and that of the walks over the face. An entry that is not refused is told by the ray, so that what is then told, of the entry and of the front
-- after it, is given. d is the direction of the ray, e the closeness.
use Rattle.std.specs.Prelude.{Option, Some, None, ℕ, Bool, true, cond, Float}
use Rattle.std.specs.Float.{binary64}
use Rattle.std.specs.Float.Ieee.{add}
use Rattle.float64.specs.Literals.{zero_literal}
use Rattle.control_point.specs.Point.{is_made, is_link, is_border, is_opening}
use Rattle.control_point.specs.Sides.{Sides, linked_of, interval_of}
use Rattle.control_point.specs.Told.{Told, unless}
use Rattle.control_point.specs.declared.t_mesh_direction.TmeshDirection.{TmeshDirection}
use Rattle.navigation.specs.Table.{walked_table}
use Rattle.ray_approach.specs.Table.{approach_table}
use Rattle.ray_entry.specs.Entry.{on_ray, in_march, corner_walk, face_walk}
use Rattle.ray_entry.specs.declared.entry.Front.{Front}

module _ (sides : Sides) (made : ℕ) (d : TmeshDirection) (next : Float → Front → Told) where
  -- opening: walk anticlockwise(d) watching d, sum r; walk d watching clockwise(d), adding its sum; then march
  abbrev pub opening_table : ℕ → Bool → Told
  opening_table at met =
      walked_table (corner_walk sides made d at)
      (λ corner r. walked_table (face_walk sides made d corner) (λ n sum. next (add binary64 zero_literal sum) (in_march n met r)))

  -- link: add its interval, move; border: the call's first border adds its weight, stay; opening: as above
  abbrev pub point_table : ℕ → Bool → Told
  point_table at met =
      unless 11 (is_made made at)
      (cond (is_link (sides at d))
      (next (add binary64 zero_literal (interval_of (sides at d))) (on_ray (linked_of (sides at d)) met))
      (cond (is_border (sides at d))
      (next (cond met zero_literal (add binary64 zero_literal (interval_of (sides at d)))) (on_ray at true))
      (opening_table at met)))

  -- walk d watching clockwise(d), append its sum, march again
  abbrev pub over_table : Bool → Float → ℕ → Told
  over_table met r at = walked_table (face_walk sides made d at) (λ n sum. next sum (in_march n met r))

  -- if side d is an opening, walk anticlockwise(d) watching d, add to r
  abbrev pub around_table : Bool → ℕ → Float → Told
  around_table met at r =
      cond (is_opening (sides at d))
      (walked_table (corner_walk sides made d at) (λ corner sum. over_table met (add binary64 r sum) corner))
      (over_table met r at)

module _ (e : Float) (sides : Sides) (made : ℕ) (d : TmeshDirection) (next : Float → Front → Told) where
  -- march: stop if side d is a border, else approach
  abbrev pub march_table : ℕ → Bool → Float → Told
  march_table at met r =
      cond (is_border (sides at d))
      (point_table sides made d next at met)
      (approach_table e sides made d (λ last. point_table sides made d next last met) (around_table sides made d next met) at r)

  -- from where the ray stands
  abbrev pub from_table : ℕ → Bool → Option Float → Told
  from_table at met (Some r) = march_table at met r
  from_table at met None = point_table sides made d next at met

  abbrev pub entry_table : Front → Told
  entry_table front = from_table front.at front.bordered front.march
