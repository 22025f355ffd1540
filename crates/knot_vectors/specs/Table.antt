-- The table of `generate_knot_vectors`: the first refusal met by the listed points, in the order of their numbers; else 0, and no value.
use Rattle.std.specs.Prelude.{ℕ, zero, suc, ◌+◌, cond, [], Float, Ok}
use Rattle.control_point.specs.Told.{Told, tells, refused_or}
use Rattle.ray.specs.Knots.{point_knot_vectors}
use Rattle.t_mesh.specs.Tmesh.{store_of, is_listed}
use Rattle.t_mesh.specs.declared.t_mesh.Tmesh.{Tmesh}

-- of so many points, from n on
unfoldable pub rows_table : Float → Tmesh → ℕ → ℕ → Told
rows_table e map zero n = tells []
rows_table e map (suc left) n = refused_or (cond (is_listed map n) (point_knot_vectors e (store_of map) n).outcome (Ok tt)) (rows_table e map left (n + 1))

abbrev pub generated_table : Float → Tmesh → Told
generated_table e map = rows_table e map 128 0
