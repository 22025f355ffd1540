-- The building of knots tells what its table says.
use Prim.Native.Nat.{ℕ, zero, suc, ◌+◌}
use Rattle.std.specs.Prelude.{◌≡◌, Bool, true, false, cond, List, Float, Err, Ok, Result, ⊤}
use Rattle.std.proofs.Math.Path.{refl}
use Rattle.control_point.specs.Told.{Told, outcome_told, refused_or}
use Rattle.ray.specs.Knots.{point_knot_vectors}
use Rattle.ray.specs.declared.knots.PointKnots.{PointKnots}
use Rattle.t_mesh.specs.Tmesh.{store_of, is_listed}
use Rattle.t_mesh.specs.declared.t_mesh.Tmesh.{Tmesh}
use Rattle.knot_vectors.specs.Knots.{AllKnots, all, on_all, in_row, rows_from, all_knots, keeping, generate_knot_vectors}
use Rattle.knot_vectors.specs.Table.{rows_table, generated_table}
use Rattle.control_point.specs.declared.refusal.Refusal.{Refusal}

module _ (e : Float) (map : Tmesh) where
  abbrev told : AllKnots → Told
  told rows = outcome_told (keeping map rows).outcome

  row_told : (n : ℕ) (rows : List PointKnots) (rest : List PointKnots → AllKnots) (table : Told) → ((filled : List PointKnots) → told (rest filled) ≡ table)
      → (listed : Bool) (outcome : Result ⊤ Refusal) (own : PointKnots) → told (on_all (cond listed (in_row outcome own n rows) (all rows)) rest) ≡ refused_or (cond listed outcome (Ok tt)) table
  row_told n rows rest table h true (Ok tt) own = h _
  row_told n rows rest table h true (Err refusal) own = refl
  row_told n rows rest table h false outcome own = h rows

  rows_told : (left n : ℕ) (rows : List PointKnots) → told (rows_from e map left n rows) ≡ rows_table e map left n
  unfolding rows_from rows_table
  rows_told zero n rows = refl
  rows_told (suc left) n rows =
      row_told n rows _ _ (λ filled. rows_told left (n + 1) filled) (is_listed map n) (point_knot_vectors e (store_of map) n).outcome (point_knot_vectors e (store_of map) n).knots

  pub generated_told : outcome_told (generate_knot_vectors e map).outcome ≡ generated_table e map
  unfolding generate_knot_vectors all_knots
  generated_told = rows_told 128 0 map.knots
