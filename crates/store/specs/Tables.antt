-- The tables of the direct calls on a store: the number that each tells, by its tests in order. A call that is done tells no value; one that
-- only reads tells what it read.
use Rattle.std.specs.Prelude.{ℕ, not, ◌&&◌, ◌||◌, [], ◌∷◌, eqb, ltb}
use Rattle.control_point.specs.Direction.{flip_of}
use Rattle.control_point.specs.Point.{is_made, is_link, is_border, is_opening, side_of}
use Rattle.control_point.specs.Sides.{linked_of}
use Rattle.control_point.specs.Told.{Told, side, tells, unless}
use Rattle.control_point.specs.declared.t_mesh_direction.TmeshDirection.{TmeshDirection}
use Rattle.store.specs.Store.{store_sides, store_point, all_borders, point_values}
use Rattle.store.specs.declared.store.Store.{Store}

-- a full store 10
abbrev pub make_loose_table : Store → Told
make_loose_table store = unless 10 (ltb store.made 128) (tells [])

-- a number never made 11; the same point 7; either facing side not an opening 5
abbrev pub connect_table : Store → ℕ → ℕ → TmeshDirection → Told
connect_table store first other d =
    unless 11 (is_made store.made first && is_made store.made other)
    (unless 7 (not (eqb first other))
    (unless 5 (is_opening (store_sides store first d) && is_opening (store_sides store other (flip_of d)))
    (tells [])))

-- an opening 3; a link leads to a point that is opened too, and is 11 where that was never made
abbrev pub remove_connection_table : Store → ℕ → TmeshDirection → Told
remove_connection_table store n d =
    unless 11 (is_made store.made n)
    (unless 3 (not (is_opening (side_of (store_point store n) d)))
    (unless 11 (not (is_link (side_of (store_point store n) d)) || is_made store.made (linked_of (side_of (store_point store n) d)))
    (tells [])))

-- not a border 5
abbrev pub remove_edge_condition_table : Store → ℕ → TmeshDirection → Told
remove_edge_condition_table store n d =
    unless 11 (is_made store.made n)
    (unless 5 (is_border (side_of (store_point store n) d))
    (tells []))

-- a link 5, an opening 3
abbrev pub set_edge_con_weight_table : Store → ℕ → TmeshDirection → Told
set_edge_con_weight_table store n d =
    unless 11 (is_made store.made n)
    (unless 5 (not (is_link (side_of (store_point store n) d)))
    (unless 3 (not (is_opening (side_of (store_point store n) d)))
    (tells [])))

-- any side not a border 5
abbrev pub set_knot_coordinates_table : Store → ℕ → Told
set_knot_coordinates_table store n =
    unless 11 (is_made store.made n)
    (unless 5 (all_borders (store_point store n))
    (tells []))

-- ---- reading: a number never made 11, else the side, or the point
abbrev pub read_side_table : Store → ℕ → TmeshDirection → Told
read_side_table store n d = unless 11 (is_made store.made n) (tells (side (store_sides store n d) ∷ []))

abbrev pub read_point_table : Store → ℕ → Told
read_point_table store n = unless 11 (is_made store.made n) (tells (point_values (store_point store n)))
