-- The tables of rays and knots. A number never made is 11, before all else. A ray is then told entry by entry: what refuses an entry is its number,
-- and where none is refused they are all told. A point's knots are refused as the first of its four rays that is, in the order of the directions.
use Rattle.std.specs.Prelude.{ℕ, zero, suc, false, List, [], ◌∷◌, ◌++◌, Float, Result, ⊤}
use Rattle.control_point.specs.Point.{is_made}
use Rattle.control_point.specs.Sides.{Sides}
use Rattle.control_point.specs.Told.{Told, tells, unless, refused_or}
use Rattle.control_point.specs.declared.t_mesh_direction.TmeshDirection.{TmeshDirection}
use Rattle.control_point.specs.declared.t_mesh_direction.TmeshDirection.TheVariants.{Up, Right, Down, Left}
use Rattle.store.specs.Store.{store_sides, store_point}
use Rattle.store.specs.declared.store.Store.{Store}
use Rattle.ray_entry.specs.Entry.{on_ray}
use Rattle.ray_entry.specs.Table.{entry_table}
use Rattle.ray_entry.specs.declared.entry.Front.{Front}
use Rattle.ray.specs.Knots.{five_knots}
use Rattle.ray.specs.Ray.{ray_of, cast_of, floats}
use Rattle.control_point.specs.declared.refusal.Refusal.{Refusal}

-- ---- `cast_ray`
-- so many entries from a front, behind those that stand
unfoldable pub ray_table : Float → Sides → ℕ → TmeshDirection → ℕ → Front → List Float → Told
ray_table e sides made d zero front standing = tells (floats standing)
ray_table e sides made d (suc left) front standing =
    entry_table e sides made d (λ value next. ray_table e sides made d left next (standing ++ (value ∷ []))) front

-- a ray of n entries
abbrev pub cast_table : Float → Store → ℕ → TmeshDirection → ℕ → Told
cast_table e store start d n = unless 11 (is_made store.made start) (ray_table e (store_sides store) store.made d n (on_ray start false) [])

-- ---- `point_knot_vectors`
-- what comes of a point's ray of two entries, and these
abbrev pub two_cast : Float → Store → ℕ → TmeshDirection → Result ⊤ Refusal × List Float
two_cast e store n d = cast_of (ray_of e (store_sides store) store.made n d 2) 2

abbrev pub knots_table : Float → Store → ℕ → Told
knots_table e store n =
    unless 11 (is_made store.made n)
    (refused_or (two_cast e store n Up).0
    (refused_or (two_cast e store n Right).0
    (refused_or (two_cast e store n Down).0
    (refused_or (two_cast e store n Left).0
    (tells
    (floats
    (five_knots (store_point store n).s (two_cast e store n Left).1 (two_cast e store n Right).1
    ++ five_knots (store_point store n).t (two_cast e store n Down).1 (two_cast e store n Up).1)))))))
