-- The knots of all listed points of a map (`generate_knot_vectors`), in the order of the numbers, and the index built from them. The first
-- refusal met is the answer, and then the map is as it was. e is the closeness.
use Rattle.std.specs.Prelude.{ℕ, zero, suc, ◌+◌, true, cond, List, Float, set, Err, Ok, Result, ⊤}
use Rattle.control_point.specs.declared.refusal.Refusal.{Refusal}
use Rattle.grid_index.specs.Index.{index_of}
use Rattle.ray.specs.Knots.{point_knot_vectors}
use Rattle.ray.specs.declared.knots.PointKnots.{PointKnots}
use Rattle.t_mesh.specs.Tmesh.{store_of, is_listed}
use Rattle.t_mesh.specs.declared.t_mesh.Tmesh.{Tmesh}
use Rattle.knot_vectors.specs.declared.knots.Generated.{Generated}
use Rattle.knot_vectors.specs.declared.knots.ListedKnots.{ListedKnots}

-- the knots of the points so far, or the refusal met
pub data AllKnots : Type 0 where
  all : List PointKnots → AllKnots
  none : Refusal → AllKnots

abbrev pub on_all : AllKnots → (List PointKnots → AllKnots) → AllKnots
on_all (all rows) next = next rows
on_all (none refusal) next = none refusal

-- a point's knots in the row of its number
abbrev pub in_row : Result ⊤ Refusal → PointKnots → ℕ → List PointKnots → AllKnots
in_row (Ok tt) knots n rows = all (set rows n knots)
in_row (Err refusal) knots n rows = none refusal

-- a listed point's row filled; another's left
abbrev pub with_row : Float → Tmesh → ℕ → List PointKnots → AllKnots
with_row e map n rows =
    cond (is_listed map n)
    (in_row (point_knot_vectors e (store_of map) n).outcome (point_knot_vectors e (store_of map) n).knots n rows)
    (all rows)

-- the rows of so many points, from n on
unfoldable pub rows_from : Float → Tmesh → ℕ → ℕ → List PointKnots → AllKnots
rows_from e map zero n rows = all rows
rows_from e map (suc left) n rows = on_all (with_row e map n rows) (λ filled. rows_from e map left (n + 1) filled)

unfoldable pub all_knots : Float → Tmesh → AllKnots
all_knots e map = rows_from e map 128 0 map.knots

-- the map that keeps them and their index; refused, the map as it was
abbrev pub keeping : Tmesh → AllKnots → Generated
keeping map (all rows) = record { outcome = Ok tt; map = record { mesh = map.mesh; kept = true; knots = rows; index = index_of map.mesh.listed rows } }
keeping map (none refusal) = record { outcome = Err refusal; map = map }

unfoldable pub generate_knot_vectors : Float → Tmesh → Generated
generate_knot_vectors e map = keeping map (all_knots e map)

-- ---- as code holds them: the outcome, and the rows or those before
abbrev pub held_knots : List PointKnots → AllKnots → ListedKnots
held_knots before (all rows) = record { outcome = Ok tt; knots = rows }
held_knots before (none refusal) = record { outcome = Err refusal; knots = before }
