-- The search for an inferred link (`find_inferred_connection`), over the sides of a mesh of which so many points are made. It answers
-- a question and changes nothing: which point to connect to and at which interval, that there is none, or the refusal that it met.
-- A point never made is 11 where the search arrives at it. After a taken side (5) the search goes on, with no stop test in that round.
use Rattle.std.specs.Prelude.{ℕ, zero, suc, cond, ◌||◌, [], ◌∷◌, eqb, Float, Err, None, Ok, Option, Result, Some, ⊤}
use Rattle.std.specs.Float.{binary64}
use Rattle.std.specs.Float.Ieee.{add, sub, lt}
use Rattle.float64.specs.Literals.{zero_literal}
use Rattle.control_point.specs.Connect.{connectable}
use Rattle.control_point.specs.Direction.{clockwise_of, anti_clockwise_of, flip_of}
use Rattle.control_point.specs.Point.{is_made, is_link, side_refusal, link_end}
use Rattle.control_point.specs.Refusal.{refusal_number}
use Rattle.control_point.specs.Sides.{Sides}
use Rattle.control_point.specs.Small.{small}
use Rattle.control_point.specs.Told.{Told, natural, float, tells, refusal_told}
use Rattle.navigation.specs.Walk.{walk_of}
use Rattle.control_point.specs.declared.refusal.Refusal.TheVariants.{Ring, NoPoint}
use Rattle.control_point.specs.declared.t_mesh_direction.TmeshDirection.{TmeshDirection}
use Rattle.control_point.specs.declared.t_mesh_control_point.Side.{Side}
use Rattle.control_point.specs.declared.t_mesh_control_point.Side.TheVariants.{Link, Border, Opening}
use Rattle.search.specs.declared.search.Judged.TheVariants.{On, Here, Ends}
use Rattle.control_point.specs.declared.refusal.Refusal.{Refusal}
use Rattle.navigation.specs.declared.walk.Walk.{Walk}
use Rattle.control_point.specs.declared.t_mesh_control_point.LinkEnd.{LinkEnd}
use Rattle.search.specs.declared.search.Judged.{Judged}

-- ---- the answer
-- what it tells: the point to connect to and the interval, no value where there is none, or the refusal's number
abbrev pub found_told : Result (Option LinkEnd) Refusal → Told
found_told (Ok (Some end)) = tells (natural end.point ∷ (float end.interval ∷ []))
found_told (Ok None) = tells []
found_told (Err refusal) = refusal_told refusal

-- ---- at a point that the search has moved to
-- connecting p to it: where that gives 5, go on; another refusal fails
abbrev pub after_connecting : Result ⊤ Refusal → Result Judged Refusal
after_connecting (Ok tt) = Ok Here
after_connecting (Err refusal) = cond (eqb (refusal_number refusal) 5) (Ok On) (Err refusal)

-- M less the sum A is small: connect. Otherwise, if A > M or the point has a link opposite f, there is none
unfoldable pub judge_at : Float → Sides → ℕ → ℕ → TmeshDirection → ℕ → Float → Float → Result Judged Refusal
judge_at e sides made p f at measure sum =
    cond (is_made made at)
    (cond (small e (sub binary64 measure sum))
    (after_connecting (connectable sides made p at f))
    (cond (lt measure sum || is_link (sides at (flip_of f))) (Ok Ends) (Ok On)))
    (Err NoPoint)

-- the answer, by what was judged, where p would be connected at an interval; `rest` is the answer of going on
abbrev pub concluded : Result Judged Refusal → ℕ → Float → Result (Option LinkEnd) Refusal → Result (Option LinkEnd) Refusal
concluded (Ok On) at interval rest = rest
concluded (Ok Here) at interval rest = Ok (Some (link_end at interval))
concluded (Ok Ends) at interval rest = Ok None
concluded (Err refusal) at interval rest = Err refusal

-- ---- the moves
-- a move over a side: over an opening (3) or a border (4) it fails
abbrev pub move_over : Side → (ℕ → Float → Result (Option LinkEnd) Refusal) → Result (Option LinkEnd) Refusal
move_over (Link n interval) next = next n interval
move_over (Border weight) next = Err (side_refusal (Border weight))
move_over Opening next = Err (side_refusal Opening)

-- from a point in anticlockwise(f), adding each interval to the sum, with so many moves left; beyond them 9
unfoldable pub seek_from : ℕ → Float → Sides → ℕ → ℕ → TmeshDirection → ℕ → Float → Float → Float → Result (Option LinkEnd) Refusal
seek_from zero e sides made p f at measure sum interval = Err Ring
seek_from (suc left) e sides made p f at measure sum interval =
    move_over (sides at (anti_clockwise_of f))
    (λ n k.
    concluded (judge_at e sides made p f n measure (add binary64 sum k))
    n
    interval
    (seek_from left e sides made p f n measure (add binary64 sum k) interval))

-- ---- the whole search
-- what follows a walk that reaches a point with a sum; a refused walk fails
abbrev pub walked : Result Walk Refusal → (ℕ → Float → Result (Option LinkEnd) Refusal) → Result (Option LinkEnd) Refusal
walked (Ok walk) next = next walk.at walk.sum
walked (Err refusal) next = Err refusal

-- for side f of p: walk clockwise(f) watching f, sum M; then walk f watching anticlockwise(f), sum K; then at most as many moves as
-- points are made, from the sum 0.0
unfoldable pub find_inferred_connection : Float → Sides → ℕ → ℕ → TmeshDirection → Result (Option LinkEnd) Refusal
find_inferred_connection e sides made p f =
    walked (walk_of sides made p (clockwise_of f) f)
    (λ corner measure.
    walked (walk_of sides made corner f (anti_clockwise_of f))
    (λ start interval. seek_from made e sides made p f start measure zero_literal interval))
