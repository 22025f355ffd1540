-- A store of points, numbered from 0 as made; none is deleted. Each call on it is one definition here: what it answers and the store
-- after it, for all arguments. A number never made is 11, before all else; a refused call leaves the store as it was.
use Rattle.std.specs.Prelude.{ℕ, ◌+◌, Bool, cond, ◌&&◌, List, [], ◌∷◌, ltb, Float, set, replicate, Err, Ok, Result, ⊤}
use Rattle.float64.specs.Literals.{zero_literal}
use Rattle.control_point.specs.Connect.{connectable}
use Rattle.control_point.specs.Direction.{flip_of}
use Rattle.control_point.specs.Point.{side_of, with_side, moved_from, loose_point, is_made, is_border, point_at}
use Rattle.control_point.specs.Sides.{Sides, sides_of, side_at}
use Rattle.control_point.specs.Told.{Told, Value, float, side as sideValue, tells, refusal_told}
use Rattle.navigation.specs.Walk.{walk_of}
use Rattle.control_point.specs.declared.refusal.Refusal.{Refusal}
use Rattle.control_point.specs.declared.refusal.Refusal.TheVariants.{OpenSide, Taken, Full, NoPoint}
use Rattle.control_point.specs.declared.t_mesh_direction.TmeshDirection.{TmeshDirection}
use Rattle.control_point.specs.declared.t_mesh_control_point.Side.{Side}
use Rattle.control_point.specs.declared.t_mesh_control_point.Side.TheVariants.{Link, Border, Opening}
use Rattle.control_point.specs.declared.t_mesh_control_point.TmeshControlPoint.{TmeshControlPoint}
use Rattle.store.specs.declared.store.Store.{Store}
use Rattle.store.specs.declared.store.Changed.{Changed}
use Rattle.navigation.specs.declared.walk.Walk.{Walk}

-- ---- a store and its changes
-- the sides of a store's points
abbrev pub store_sides : Store → Sides
store_sides store = sides_of store.points

-- the point under a number
abbrev pub store_point : Store → ℕ → TmeshControlPoint
store_point store n = point_at store.points n

-- with another point under a number
abbrev pub with_point : Store → ℕ → TmeshControlPoint → Store
with_point store n p = record { points = set store.points n p; made = store.made }

-- with another side of a point
abbrev pub with_side_at : Store → ℕ → TmeshDirection → Side → Store
with_side_at store n d side = with_point store n (with_side (store_point store n) d side)

-- with one point more
abbrev pub with_new : Store → TmeshControlPoint → Store
with_new store p = record { points = set store.points store.made p; made = store.made + 1 }

-- with two points linked by an interval: both facing sides, and the other's coordinates the first's, moved by it
abbrev pub linked : Store → ℕ → ℕ → TmeshDirection → Float → Store
linked store first other d interval =
    with_point (with_side_at store first d (Link other interval))
    other
    (moved_from (with_side (store_point store other) (flip_of d) (Link first interval)) (store_point store first) d interval)

-- ---- answers
abbrev pub done : Store → Changed
done store = record { outcome = Ok tt; store = store }

abbrev pub refused : Store → Refusal → Changed
refused store refusal = record { outcome = Err refusal; store = store }

-- the new store where a test was passed, the old one where it was refused
abbrev pub settled : Result ⊤ Refusal → Store → Store → Changed
settled (Ok tt) new old = done new
settled (Err refusal) new old = refused old refusal

-- a call on one point: 11 where it was never made
abbrev pub on_point : Store → ℕ → (TmeshControlPoint → Changed) → Changed
on_point store n call = cond (is_made store.made n) (call (store_point store n)) (refused store NoPoint)

-- ---- the calls
-- no point made
unfoldable pub empty_store : Store
empty_store = record { points = replicate 128 (loose_point zero_literal); made = 0 }

-- a point made alone, with four borders of one weight; a full store is 10
unfoldable pub make_loose : Store → Float → Changed
make_loose store weight = cond (ltb store.made 128) (done (with_new store (loose_point weight))) (refused store Full)

unfoldable pub connect_points : Store → ℕ → ℕ → TmeshDirection → Float → Changed
connect_points store first other d interval =
    settled (connectable (store_sides store) store.made first other d) (linked store first other d interval) store

-- an opening is 3; a link is opened at both ends, a border at one
abbrev pub opened : Store → ℕ → TmeshDirection → Side → Changed
opened store n d (Link m interval) =
    cond (is_made store.made m) (done (with_side_at (with_side_at store n d Opening) m (flip_of d) Opening)) (refused store NoPoint)
opened store n d (Border weight) = done (with_side_at store n d Opening)
opened store n d Opening = refused store OpenSide

unfoldable pub remove_connection : Store → ℕ → TmeshDirection → Changed
remove_connection store n d = on_point store n (λ p. opened store n d (side_of p d))

-- not a border is 5
unfoldable pub remove_edge_condition : Store → ℕ → TmeshDirection → Changed
remove_edge_condition store n d =
    on_point store n (λ p. cond (is_border (side_of p d)) (done (with_side_at store n d Opening)) (refused store Taken))

-- a link is 5, an opening 3
abbrev pub weighted : Store → ℕ → TmeshDirection → Float → Side → Changed
weighted store n d weight (Link m interval) = refused store Taken
weighted store n d weight (Border old) = done (with_side_at store n d (Border weight))
weighted store n d weight Opening = refused store OpenSide

unfoldable pub set_edge_con_weight : Store → ℕ → TmeshDirection → Float → Changed
set_edge_con_weight store n d weight = on_point store n (λ p. weighted store n d weight (side_of p d))

-- a point at other coordinates
abbrev pub coordinated : TmeshControlPoint → Float → Float → TmeshControlPoint
coordinated p s t = record { up = p.up; right = p.right; down = p.down; left = p.left; s = s; t = t }

-- whether all four sides are borders
abbrev pub all_borders : TmeshControlPoint → Bool
all_borders p = is_border p.up && is_border p.right && is_border p.down && is_border p.left

-- any side not a border is 5; the coordinate across comes first
unfoldable pub set_knot_coordinates : Store → ℕ → Float → Float → Changed
set_knot_coordinates store n s t =
    on_point store n (λ p. cond (all_borders p) (done (with_point store n (coordinated p s t))) (refused store Taken))

-- ---- reading
abbrev pub navigate_until_con : Store → ℕ → TmeshDirection → TmeshDirection → Result Walk Refusal
navigate_until_con store start travel watch = walk_of (store_sides store) store.made start travel watch

abbrev pub read_side : Store → ℕ → TmeshDirection → Result Side Refusal
read_side store n d = side_at (store_sides store) store.made n d

abbrev pub read_point : Store → ℕ → Result TmeshControlPoint Refusal
read_point store n = cond (is_made store.made n) (Ok (store_point store n)) (Err NoPoint)

-- what a point read tells: its coordinates across and upwards, then its sides up, right, down and left; or the refusal's number
abbrev pub point_values : TmeshControlPoint → List Value
point_values p = float p.s ∷ (float p.t ∷ (sideValue p.up ∷ (sideValue p.right ∷ (sideValue p.down ∷ (sideValue p.left ∷ [])))))

abbrev pub point_told : Result TmeshControlPoint Refusal → Told
point_told (Ok p) = tells (point_values p)
point_told (Err refusal) = refusal_told refusal
