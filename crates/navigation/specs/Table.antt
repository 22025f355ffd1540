-- The table of a walk: a step over an opening is 3, over a border 4; a number never made is 11; one move more than there are points 9.
use Rattle.std.specs.Prelude.{ℕ, zero, suc, ◌+◌, ◌-◌, not, cond, Float, Err, Ok, Result}
use Rattle.std.specs.Float.{binary64}
use Rattle.std.specs.Float.Ieee.{add}
use Rattle.control_point.specs.Point.{is_made, is_link, is_border, is_opening}
use Rattle.control_point.specs.Sides.{Sides, linked_of, interval_of}
use Rattle.control_point.specs.Told.{Told, refused_by, unless, refusal_told}
use Rattle.control_point.specs.declared.t_mesh_control_point.Side.{Side}
use Rattle.control_point.specs.declared.t_mesh_direction.TmeshDirection.{TmeshDirection}
use Rattle.navigation.specs.Walk.{reached_told}
use Rattle.control_point.specs.declared.refusal.Refusal.{Refusal}
use Rattle.navigation.specs.declared.walk.Walk.{Walk}

-- a step over a side
abbrev pub step_table : Side → (ℕ → Float → Told) → Told
step_table side next = unless 3 (not (is_opening side)) (unless 4 (not (is_border side)) (next (linked_of side) (interval_of side)))

-- at a point: the walk ends there, or goes on over its travel side
abbrev pub arrive_table : Sides → ℕ → TmeshDirection → TmeshDirection → ℕ → Float → ℕ → (ℕ → Float → Told) → Told
arrive_table sides made travel watch at sum moves next =
    unless 11 (is_made made at)
    (cond (is_link (sides at watch)) (reached_told at sum moves) (step_table (sides at travel) next))

-- with so many moves left
unfoldable pub onward_table : ℕ → Sides → ℕ → TmeshDirection → TmeshDirection → ℕ → Float → ℕ → Told
onward_table zero sides made travel watch at sum moves = arrive_table sides made travel watch at sum moves (λ n interval. refused_by 9)
onward_table (suc left) sides made travel watch at sum moves =
    arrive_table sides made travel watch at sum moves (λ n interval. onward_table left sides made travel watch n (add binary64 sum interval) (moves + 1))

unfoldable pub walk_table : Sides → ℕ → ℕ → TmeshDirection → TmeshDirection → Told
walk_table sides made start travel watch =
    unless 11 (is_made made start) (step_table (sides start travel) (λ n interval. onward_table (made - 1) sides made travel watch n interval 1))

-- in the table of a call that walks: a refused walk tells its number, a reached one goes on from its point with its sum
abbrev pub walked_table : Result Walk Refusal → (ℕ → Float → Told) → Told
walked_table (Ok walk) next = next walk.at walk.sum
walked_table (Err refusal) next = refusal_told refusal
