-- What holds of the rows of a map, and still holds with the knots of a point in the row of its number, holds of the rows that a building leaves.
use Prim.Native.Nat.{ℕ, zero, suc, ◌+◌}
use Rattle.std.specs.Prelude.{List, Float, set, Err, Ok, Result, ⊤}
use Rattle.ray.specs.Knots.{point_knot_vectors}
use Rattle.ray.specs.declared.knots.PointKnots.{PointKnots}
use Rattle.t_mesh.specs.Tmesh.{store_of, is_listed}
use Rattle.t_mesh.specs.declared.t_mesh.Tmesh.{Tmesh}
use Rattle.knot_vectors.specs.Knots.{AllKnots, all, none, on_all, in_row, with_row, rows_from, all_knots}
use Rattle.counting.proofs.BoolLaws.{cond_case}
use Rattle.control_point.specs.declared.refusal.Refusal.{Refusal}

-- rows that are not refused
abbrev pub OfRows : (List PointKnots → Type 0) → AllKnots → Type 0
OfRows Holds (all rows) = Holds rows
OfRows Holds (none refusal) = Unit {0}

module _ (Holds : List PointKnots → Type 0) (e : Float) (map : Tmesh)
    (stored : (rows : List PointKnots) (n : ℕ) → Holds rows → Holds (set rows n (point_knot_vectors e (store_of map) n).knots)) where
  in_row_lem : (outcome : Result ⊤ Refusal) (rows : List PointKnots) (n : ℕ) → Holds rows → OfRows Holds (in_row outcome (point_knot_vectors e (store_of map) n).knots n rows)
  in_row_lem (Ok tt) rows n h = stored rows n h
  in_row_lem (Err refusal) rows n h = tt

  with_row_lem : (rows : List PointKnots) (n : ℕ) → Holds rows → OfRows Holds (with_row e map n rows)
  with_row_lem rows n h =
      cond_case (is_listed map n) (OfRows Holds) _ _ (λ _. in_row_lem (point_knot_vectors e (store_of map) n).outcome rows n h) (λ _. h)

  on_all_lem : (so_far : AllKnots) (next : List PointKnots → AllKnots) → OfRows Holds so_far → ((rows : List PointKnots) → Holds rows → OfRows Holds (next rows))
      → OfRows Holds (on_all so_far next)
  on_all_lem (all rows) next h k = k rows h
  on_all_lem (none refusal) next h k = tt

  rows_from_lem : (left n : ℕ) (rows : List PointKnots) → Holds rows → OfRows Holds (rows_from e map left n rows)
  unfolding rows_from
  rows_from_lem zero n rows h = h
  rows_from_lem (suc left) n rows h = on_all_lem (with_row e map n rows) _ (with_row_lem rows n h) (λ filled k. rows_from_lem left (n + 1) filled k)

  pub all_rows : Holds map.knots → OfRows Holds (all_knots e map)
  unfolding all_knots
  all_rows h = rows_from_lem 128 0 map.knots h
