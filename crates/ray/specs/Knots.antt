-- The knots of a point (`point_knot_vectors`): five s and five t knots, centre the coordinates, two entries each way by repeated addition or
-- subtraction, rays in direction order. A ray's refusal is the answer, and refused, the knots are all 0.0. Knots that fall or hold a NaN
-- are kept as computed. e is the closeness.
use Rattle.std.specs.Prelude.{ℕ, cond, List, [], ◌∷◌, ◌++◌, Float, get_or, replicate, Err, Ok, Result, ⊤}
use Rattle.std.specs.Float.{nan, binary64}
use Rattle.std.specs.Float.Ieee.{add, sub}
use Rattle.control_point.specs.Point.{is_made}
use Rattle.control_point.specs.Sides.{Sides}
use Rattle.control_point.specs.Told.{Told, tells, refused_or}
use Rattle.control_point.specs.declared.refusal.Refusal.TheVariants.{NoPoint}
use Rattle.control_point.specs.declared.t_mesh_direction.TmeshDirection.{TmeshDirection}
use Rattle.control_point.specs.declared.t_mesh_direction.TmeshDirection.TheVariants.{Up, Right, Down, Left}
use Rattle.store.specs.Store.{store_sides, store_point}
use Rattle.store.specs.declared.store.Store.{Store}
use Rattle.float64.specs.Literals.{zero_literal}
use Rattle.ray.specs.Ray.{Ray, entries, refused, ray_of, cast_of, floats}
use Rattle.ray.specs.declared.knots.KnotsAnswer.{KnotsAnswer}
use Rattle.ray.specs.declared.knots.TwoEntries.{TwoEntries}
use Rattle.control_point.specs.declared.refusal.Refusal.{Refusal}

-- the first of a ray's two entries, and the second; no definition looks past the end
abbrev pub first : List Float → Float
first values = get_or values 0 nan

abbrev pub second : List Float → Float
second values = get_or values 1 nan

-- five knots about a centre, by a ray's entries below it and those above
abbrev pub five_knots : Float → List Float → List Float → List Float
five_knots centre below above =
    sub binary64 (sub binary64 centre (first below)) (second below)
    ∷ (sub binary64 centre (first below)
    ∷ (centre
    ∷ (add binary64 centre (first above)
    ∷ (add binary64 (add binary64 centre (first above)) (second above)
    ∷ []))))

-- no knots, and why
abbrev pub no_knots : Result ⊤ Refusal → KnotsAnswer
no_knots outcome = record { outcome = outcome; knots = record { s = replicate 5 zero_literal; t = replicate 5 zero_literal } }

-- on with a ray's entries, or its refusal
abbrev pub after_ray : Ray → (List Float → KnotsAnswer) → KnotsAnswer
after_ray (entries values) next = next values
after_ray (refused refusal) next = no_knots (Err refusal)

-- the knots about a point's coordinates, by the entries of its four rays
abbrev pub knots_about : Float → Float → List Float → List Float → List Float → List Float → KnotsAnswer
knots_about s t up right down left = record { outcome = Ok tt; knots = record { s = five_knots s left right; t = five_knots t down up } }

-- over sides, of the point of a number and coordinates
unfoldable pub knots_at : Float → Sides → ℕ → ℕ → Float → Float → KnotsAnswer
knots_at e sides made n s t =
    after_ray (ray_of e sides made n Up 2)
    (λ up. after_ray (ray_of e sides made n Right 2)
    (λ right. after_ray (ray_of e sides made n Down 2)
    (λ down. after_ray (ray_of e sides made n Left 2)
    (λ left. knots_about s t up right down left))))

-- on a store; 11 for a number never made
unfoldable pub point_knot_vectors : Float → Store → ℕ → KnotsAnswer
point_knot_vectors e store n =
    cond (is_made store.made n)
    (knots_at e (store_sides store) store.made n (store_point store n).s (store_point store n).t)
    (no_knots (Err NoPoint))

-- what it tells: the five s knots and then the five t knots, or the refusal's number
abbrev pub knots_told : KnotsAnswer → Told
knots_told answer = refused_or answer.outcome (tells (floats (answer.knots.s ++ answer.knots.t)))

-- ---- a ray of two entries as code holds it
-- by its cast
abbrev pub held : Result ⊤ Refusal × List Float → TwoEntries
held cast = record { outcome = cast.0; first = first cast.1; second = second cast.1 }

-- from a point in a direction
unfoldable pub two_entries : Float → Sides → ℕ → ℕ → TmeshDirection → TwoEntries
two_entries e sides made n d = held (cast_of (ray_of e sides made n d 2) 2)

-- its entries
abbrev pub both_of : TwoEntries → List Float
both_of two = two.first ∷ (two.second ∷ [])

-- the first refusal of two outcomes
abbrev pub in_turn : Result ⊤ Refusal → Result ⊤ Refusal → Result ⊤ Refusal
in_turn (Ok tt) second = second
in_turn (Err refusal) second = Err refusal
