-- What is counted of a map: the points made, the points listed, the two-way links, and the borders.
-- A two-way link is counted once, by its side Up or Right; that each has its mirror is a theorem on lists of calls. Every border of a made point is counted.
use Rattle.std.specs.Prelude.{ℕ, ◌+◌, Bool, cond, ◌&&◌}
use Rattle.counting.specs.Counting.{count_below}
use Rattle.control_point.specs.Point.{side_of, is_made, is_link, is_border}
use Rattle.control_point.specs.declared.t_mesh_control_point.Side.{Side}
use Rattle.control_point.specs.declared.t_mesh_control_point.TmeshControlPoint.{TmeshControlPoint}
use Rattle.control_point.specs.declared.t_mesh_direction.TmeshDirection.{TmeshDirection}
use Rattle.control_point.specs.declared.t_mesh_direction.TmeshDirection.TheVariants.{Up, Right, Down, Left}
use Rattle.store.specs.Store.{store_sides}
use Rattle.store.specs.declared.store.Store.{Store}
use Rattle.t_mesh.specs.Tmesh.{store_of, is_listed}
use Rattle.t_mesh.specs.declared.t_mesh.Tmesh.{Tmesh}
use Rattle.census.specs.declared.census.Counts.{Counts}

-- whether a point is made, and its side in a direction passes a test
abbrev pub has_side : (Side → Bool) → Store → TmeshDirection → ℕ → Bool
has_side test store d n = is_made store.made n && test (store_sides store n d)

-- how many sides of made points do: those in a direction, and all
abbrev pub sides_towards : (Side → Bool) → Store → TmeshDirection → ℕ
sides_towards test store d = count_below 128 (has_side test store d)

abbrev pub sides_that : (Side → Bool) → Store → ℕ
sides_that test store = sides_towards test store Up + (sides_towards test store Right + (sides_towards test store Down + sides_towards test store Left))

unfoldable pub counts_of : Tmesh → Counts
counts_of map =
    record {
      made = (store_of map).made;
      listed = count_below 128 (is_listed map);
      links = sides_towards is_link (store_of map) Up + sides_towards is_link (store_of map) Right;
      borders = sides_that is_border (store_of map);
    }

-- ---- a point's part
-- the links that are counted at it, and its borders
abbrev pub links_ahead : TmeshControlPoint → ℕ
links_ahead point = cond (is_link (side_of point Up)) 1 0 + cond (is_link (side_of point Right)) 1 0

abbrev pub borders_around : TmeshControlPoint → ℕ
borders_around point =
    cond (is_border (side_of point Up)) 1 0
    + (cond (is_border (side_of point Right)) 1 0 + (cond (is_border (side_of point Down)) 1 0 + cond (is_border (side_of point Left)) 1 0))
