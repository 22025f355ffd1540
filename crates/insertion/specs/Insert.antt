-- Insertion of a point p into the link from con in a direction (`add_control_point`, without the listing, which stands above: whether con
-- is listed is an argument). The answer counts the sides opened and the links inferred, done or torn; a refusal leaves the store as
-- it was. In each store, also one that no call makes: a number never made is 11; where the facing side of the other point is an
-- opening, it stores no interval and the insertion is 3; a border's weight there counts as its interval, as in the source.
use Rattle.std.specs.Prelude.{ℕ, ◌+◌, Bool, true, false, cond, ◌||◌, [], ◌∷◌, ltb, Float, Err, None, Ok, Option, Result, Some}
use Rattle.std.specs.Float.{binary64}
use Rattle.std.specs.Float.Ieee.{sub, mul}
use Rattle.float64.specs.Literals.{zero_literal, one_literal}
use Rattle.float64.specs.Unit.{in_unit}
use Rattle.control_point.specs.Direction.{clockwise_of, anti_clockwise_of, flip_of}
use Rattle.control_point.specs.Point.{with_side, loose_point, side_refusal, link_end}
use Rattle.control_point.specs.Told.{Told, natural, refusal_told}
use Rattle.control_point.specs.Sides.{Sides, side_at, sides_with}
use Rattle.control_point.specs.Small.{small}
use Rattle.control_point.specs.declared.refusal.Refusal.TheVariants.{Ratio, Foreign, Interval, Full}
use Rattle.control_point.specs.declared.t_mesh_control_point.Side.{Side}
use Rattle.control_point.specs.declared.t_mesh_control_point.Side.TheVariants.{Link, Border, Opening}
use Rattle.control_point.specs.declared.t_mesh_control_point.TmeshControlPoint.{TmeshControlPoint}
use Rattle.control_point.specs.declared.t_mesh_direction.TmeshDirection.{TmeshDirection}
use Rattle.search.specs.Search.{find_inferred_connection}
use Rattle.store.specs.Store.{store_sides, with_side_at, with_new, connect_points}
use Rattle.store.specs.declared.store.Changed.{Changed}
use Rattle.store.specs.declared.store.Store.{Store}
use Rattle.insertion.specs.declared.insertion.Insertion.TheVariants.{Done, Torn}
use Rattle.insertion.specs.declared.insertion.Inserted.{Inserted}
use Rattle.insertion.specs.declared.insertion.NewSide.{NewSide}
use Rattle.insertion.specs.declared.insertion.NewSide.TheVariants.{Takes, Joins, Opens, Tears, Stays}
use Rattle.control_point.specs.declared.refusal.Refusal.{Refusal}
use Rattle.control_point.specs.declared.t_mesh_control_point.LinkEnd.{LinkEnd}
use Rattle.insertion.specs.declared.insertion.Insertion.{Insertion}

-- ---- the answer
-- what it tells: 0 done or 8 torn, with the counts of sides opened and of links inferred; or the refusal's number
abbrev pub counted : ℕ → ℕ → ℕ → Told
counted number opened inferred = record { number = number; values = natural opened ∷ (natural inferred ∷ []) }

abbrev pub insert_told : Result Insertion Refusal → Told
insert_told (Ok (Done opened inferred)) = counted 0 opened inferred
insert_told (Ok (Torn opened inferred)) = counted 8 opened inferred
insert_told (Err refusal) = refusal_told refusal

abbrev pub answer_number : Result Insertion Refusal → ℕ
answer_number answer = (insert_told answer).number

-- whether it is done, whether it is torn, and whether it is refused
abbrev pub is_done : Result Insertion Refusal → Bool
is_done (Ok (Done opened inferred)) = true
is_done (Ok (Torn opened inferred)) = false
is_done (Err refusal) = false

abbrev pub is_torn : Result Insertion Refusal → Bool
is_torn (Ok (Done opened inferred)) = false
is_torn (Ok (Torn opened inferred)) = true
is_torn (Err refusal) = false

abbrev pub is_refused : Result Insertion Refusal → Bool
is_refused (Ok (Done opened inferred)) = false
is_refused (Ok (Torn opened inferred)) = false
is_refused (Err refusal) = true

-- ---- the checks, in order
-- the difference of the two stored intervals not small: 6; the store full: 10. Passed, the checks give the other point and the interval
unfoldable pub checked_intervals : Float → ℕ → ℕ → Float → Float → Result LinkEnd Refusal
checked_intervals e made other interval facing =
    cond (small e (sub binary64 interval facing)) (cond (ltb made 128) (Ok (link_end other interval)) (Err Full)) (Err Interval)

-- by the facing side of the other point
abbrev pub checked_facing : Float → ℕ → ℕ → Float → Result Side Refusal → Result LinkEnd Refusal
checked_facing e made other interval (Ok (Link n facing)) = checked_intervals e made other interval facing
checked_facing e made other interval (Ok (Border weight)) = checked_intervals e made other interval weight
checked_facing e made other interval (Ok Opening) = Err (side_refusal Opening)
checked_facing e made other interval (Err refusal) = Err refusal

-- by con's side: an opening is 3, a border 4; `facing` gives the facing side of each point
abbrev pub checked_side : Float → ℕ → Result Side Refusal → (ℕ → Result Side Refusal) → Result LinkEnd Refusal
checked_side e made (Ok (Link other interval)) facing = checked_facing e made other interval (facing other)
checked_side e made (Ok (Border weight)) facing = Err (side_refusal (Border weight))
checked_side e made (Ok Opening) facing = Err (side_refusal Opening)
checked_side e made (Err refusal) facing = Err refusal

-- the ratio not from 0 to 1 (−0.0 is, a NaN is not): 1; con not listed: 2
unfoldable pub checked : Float → Float → Bool → ℕ → Result Side Refusal → (ℕ → Result Side Refusal) → Result LinkEnd Refusal
checked e ratio listed made side facing =
    cond (in_unit ratio) (cond listed (checked_side e made side facing) (Err Foreign)) (Err Ratio)

-- on the link from con in a direction, over sides
abbrev pub checked_link : Float → Float → Bool → Sides → ℕ → ℕ → TmeshDirection → Result LinkEnd Refusal
checked_link e ratio listed sides made con d = checked e ratio listed made (side_at sides made con d) (λ other. side_at sides made other (flip_of d))

-- ---- placing p
-- the link is cut
abbrev pub cut : Store → ℕ → ℕ → TmeshDirection → Store
cut store con other d = with_side_at (with_side_at store con d Opening) other (flip_of d) Opening

-- p has borders of 0.0, its two sides in line opened
abbrev pub point_in_line : TmeshDirection → TmeshControlPoint
point_in_line d = with_side (with_side (loose_point zero_literal) d Opening) (flip_of d) Opening

-- p is made
abbrev pub parted : Store → ℕ → ℕ → TmeshDirection → Store
parted store con other d = with_new (cut store con other d) (point_in_line d)

-- con joins p at interval × ratio, and p joins the other at interval × (1.0 − ratio)
abbrev pub near_joined : Store → ℕ → ℕ → TmeshDirection → Float → Float → Changed
near_joined store con other d interval ratio = connect_points (parted store con other d) con store.made d (mul binary64 interval ratio)

abbrev pub far_joined : Store → ℕ → ℕ → TmeshDirection → Float → Float → Changed
far_joined store con other d interval ratio =
    connect_points (near_joined store con other d interval ratio).store store.made other d (mul binary64 interval (sub binary64 one_literal ratio))

unfoldable pub placed : Store → ℕ → ℕ → TmeshDirection → Float → Float → Store
placed store con other d interval ratio = (far_joined store con other d interval ratio).store

-- ---- a side of p across the link
-- what the search makes of an opened side
abbrev pub sought_side : Result (Option LinkEnd) Refusal → NewSide
sought_side (Ok (Some end)) = Joins end.point end.interval
sought_side (Ok None) = Opens
sought_side (Err refusal) = Tears

-- con's border, or else
abbrev pub border_or : Side → NewSide → NewSide
border_or (Border weight) otherwise = Takes weight
border_or (Link n interval) otherwise = otherwise
border_or Opening otherwise = otherwise

-- p's side is opened and the inferred link is sought
abbrev pub sought : Float → Sides → ℕ → ℕ → TmeshDirection → Result (Option LinkEnd) Refusal
sought e sides made p f = find_inferred_connection e (sides_with sides p f Opening) made p f

-- if con has a border there, p takes its weight; else it is what the search makes of it, and what a failed one met is no part of it
unfoldable pub new_side : Float → Sides → ℕ → ℕ → ℕ → TmeshDirection → NewSide
new_side e sides made con p f = border_or (sides con f) (sought_side (sought e sides made p f))

-- the store with it
abbrev pub with_new_side : Store → ℕ → TmeshDirection → NewSide → Store
with_new_side store p f (Takes weight) = with_side_at store p f (Border weight)
with_new_side store p f (Joins n interval) = (connect_points (with_side_at store p f Opening) p n f interval).store
with_new_side store p f Opens = with_side_at store p f Opening
with_new_side store p f Tears = with_side_at store p f Opening
with_new_side store p f Stays = store

-- ---- the two sides of p, clockwise first
-- whether the search for it failed
abbrev pub tears : NewSide → Bool
tears (Takes weight) = false
tears (Joins n interval) = false
tears Opens = false
tears Tears = true
tears Stays = false

-- the side after a first one: torn there, it stays the border that it is
abbrev pub unless_torn : NewSide → NewSide → NewSide
unless_torn first second = cond (tears first) Stays second

-- the sides opened and the links inferred: 1 or 0 for a side
abbrev pub opened_count : NewSide → ℕ
opened_count (Takes weight) = 0
opened_count (Joins n interval) = 1
opened_count Opens = 1
opened_count Tears = 1
opened_count Stays = 0

abbrev pub inferred_count : NewSide → ℕ
inferred_count (Takes weight) = 0
inferred_count (Joins n interval) = 1
inferred_count Opens = 0
inferred_count Tears = 0
inferred_count Stays = 0

-- the counts of both sides, torn where either search failed
abbrev pub counted_answer : Bool → ℕ → ℕ → Result Insertion Refusal
counted_answer torn opened inferred = cond torn (Ok (Torn opened inferred)) (Ok (Done opened inferred))

abbrev pub answer_of : NewSide → NewSide → Result Insertion Refusal
answer_of first second =
    counted_answer (tears first || tears second) (opened_count first + opened_count second) (inferred_count first + inferred_count second)

-- in the store in which p stands: the first side, the store with it, and the second side
unfoldable pub first_side : Float → Store → ℕ → ℕ → TmeshDirection → NewSide
first_side e store con p d = new_side e (store_sides store) store.made con p (clockwise_of d)

unfoldable pub with_first : Float → Store → ℕ → ℕ → TmeshDirection → Store
with_first e store con p d = with_new_side store p (clockwise_of d) (first_side e store con p d)

unfoldable pub second_side : Float → Store → ℕ → ℕ → TmeshDirection → NewSide
second_side e store con p d =
    unless_torn (first_side e store con p d) (new_side e (store_sides (with_first e store con p d)) store.made con p (anti_clockwise_of d))

-- both sides done, or torn
unfoldable pub sided : Float → Store → ℕ → ℕ → TmeshDirection → Inserted
sided e store con p d =
    record {
      answer = answer_of (first_side e store con p d) (second_side e store con p d);
      store = with_new_side (with_first e store con p d) p (anti_clockwise_of d) (second_side e store con p d);
    }

-- ---- the call
-- refused by a check, the store is left as it was
abbrev pub passed : Store → Result LinkEnd Refusal → (ℕ → Float → Inserted) → Inserted
passed store (Ok end) next = next end.point end.interval
passed store (Err refusal) next = record { answer = Err refusal; store = store }

unfoldable pub insert_point : Float → Store → Bool → ℕ → TmeshDirection → Float → Inserted
insert_point e store listed con d ratio =
    passed store
    (checked_link e ratio listed (store_sides store) store.made con d)
    (λ other interval. sided e (placed store con other d interval ratio) con store.made d)
