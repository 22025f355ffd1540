-- The walk (`navigate_until_con`): step along travel from the start, then stop at the first point whose watch side is a link, else
-- step again. A step over an opening is 3, over a border 4. The answer is the point, the sum of the intervals in order, which starts
-- as the first, and the count of moves. A walk never makes more moves than there are points; needing one more is 9.
use Rattle.std.specs.Prelude.{ℕ, zero, suc, ◌+◌, ◌-◌, cond, [], ◌∷◌, Float, Err, Ok, Result}
use Rattle.std.specs.Float.{binary64}
use Rattle.std.specs.Float.Ieee.{add}
use Rattle.control_point.specs.Point.{is_made, is_link, side_refusal}
use Rattle.control_point.specs.Sides.{Sides}
use Rattle.control_point.specs.Told.{Told, natural, float, tells, refusal_told}
use Rattle.control_point.specs.declared.refusal.Refusal.TheVariants.{NoPoint, Ring}
use Rattle.control_point.specs.declared.t_mesh_direction.TmeshDirection.{TmeshDirection}
use Rattle.control_point.specs.declared.t_mesh_control_point.Side.{Side}
use Rattle.control_point.specs.declared.t_mesh_control_point.Side.TheVariants.{Link, Border, Opening}
use Rattle.control_point.specs.declared.refusal.Refusal.{Refusal}
use Rattle.navigation.specs.declared.walk.Walk.{Walk}

-- a walk to a point, with a sum and a count of moves
abbrev pub walk_to : ℕ → Float → ℕ → Walk
walk_to n sum moves = record { at = n; sum = sum; moves = moves }

-- what it tells: the point, the sum of the intervals and the count of moves, or the refusal's number
abbrev pub reached_told : ℕ → Float → ℕ → Told
reached_told n sum moves = tells (natural n ∷ (float sum ∷ (natural moves ∷ [])))

abbrev pub walk_told : Result Walk Refusal → Told
walk_told (Ok walk) = reached_told walk.at walk.sum walk.moves
walk_told (Err refusal) = refusal_told refusal

abbrev pub walk_number : Result Walk Refusal → ℕ
walk_number walk = (walk_told walk).number

-- a step over a side: on over a link, or the refusal
abbrev pub step_over : Side → (ℕ → Float → Result Walk Refusal) → Result Walk Refusal
step_over (Link n interval) next = next n interval
step_over (Border weight) next = Err (side_refusal (Border weight))
step_over Opening next = Err (side_refusal Opening)

-- at a point: the walk ends there, or goes on over its travel side
abbrev pub arrive : Sides → ℕ → TmeshDirection → TmeshDirection → ℕ → Float → ℕ → (ℕ → Float → Result Walk Refusal) → Result Walk Refusal
arrive sides made travel watch at sum moves next =
    cond (is_made made at)
    (cond (is_link (sides at watch)) (Ok (walk_to at sum moves)) (step_over (sides at travel) next))
    (Err NoPoint)

-- at a point after a sum and a count of moves, with so many moves left
unfoldable pub onward : ℕ → Sides → ℕ → TmeshDirection → TmeshDirection → ℕ → Float → ℕ → Result Walk Refusal
onward zero sides made travel watch at sum moves = arrive sides made travel watch at sum moves (λ n interval. Err Ring)
onward (suc left) sides made travel watch at sum moves =
    arrive sides made travel watch at sum moves
    (λ n interval. onward left sides made travel watch n (add binary64 sum interval) (moves + 1))

-- the first step, then onward; as many moves in all as points are made
unfoldable pub walk_of : Sides → ℕ → ℕ → TmeshDirection → TmeshDirection → Result Walk Refusal
walk_of sides made start travel watch =
    cond (is_made made start)
    (step_over (sides start travel) (λ n interval. onward (made - 1) sides made travel watch n interval 1))
    (Err NoPoint)
