-- Only an insertion done drops the kept knots and their index: every other call is defined so.
use Rattle.std.specs.Prelude.{ℕ, ◌≡◌, refl, Bool, true, false, Float, Err, Ok, Result}
use Rattle.std.proofs.Common.{true≢false}
use Rattle.control_point.specs.declared.t_mesh_direction.TmeshDirection.{TmeshDirection}
use Rattle.insertion.specs.Insert.{is_done, insert_point}
use Rattle.insertion.specs.declared.insertion.Insertion.TheVariants.{Done as Added, Torn}
use Rattle.knot_vectors.specs.Knots.{AllKnots, all, none, all_knots, keeping, generate_knot_vectors}
use Rattle.knot_vectors.specs.declared.knots.Generated.{Generated}
use Rattle.surface.specs.Evaluation.{with_knots, subs_of}
use Rattle.surface.proofs.SetPointLaws.{set_point_leaves}
use Rattle.t_mesh.specs.Insertion.{kept_after, add_control_point, add_by_rule}
use Rattle.t_mesh.specs.Tmesh.{store_of, is_listed}
use Rattle.t_mesh.specs.declared.t_mesh.Position.{Position}
use Rattle.t_mesh.specs.declared.t_mesh.Tmesh.{Tmesh}
use Rattle.cells.specs.Cells.{cell_points}
use Rattle.calls.specs.Calls.{insertion, evaluation, set_point_call, question, pulling}
use Rattle.calls.proofs.PullingLaws.{pulled_case}
use Rattle.calls.proofs.WithdrawalLaws.{by_either_rule}
use Rattle.counting.proofs.BoolLaws.{both_ways, cond_case}
use Rattle.soundness.specs.MapCalls.{entry, generate_knot_vectors_call, point_knot_vectors_call, cast_ray_call, direct}
use Rattle.soundness.specs.Theorems.{OnlyDoneDrops}
use Rattle.control_point.specs.declared.refusal.Refusal.{Refusal}
use Rattle.insertion.specs.declared.insertion.Insertion.{Insertion}

-- an insertion that is not done
kept_after_lem : (kept : Bool) (answer : Result Insertion Refusal) → kept ≡ true → is_done answer ≡ false → kept_after kept answer ≡ true
kept_after_lem kept (Ok (Added opened inferred)) k done = absurd (true≢false done)
kept_after_lem kept (Ok (Torn opened inferred)) k done = k
kept_after_lem kept (Err refusal) k done = k

-- a building, done or refused
kept_built : (map : Tmesh) (rows : AllKnots) → map.kept ≡ true → (keeping map rows).map.kept ≡ true
kept_built map (all rows) k = refl
kept_built map (none refusal) k = k

-- kept, and the same
abbrev Keeps : Tmesh → Tmesh → Type 0
Keeps map after = (after.kept ≡ true) × ((after.knots ≡ map.knots) × (after.index ≡ map.index))

-- with knots kept
keeps : (e : Float) (map : Tmesh) → map.kept ≡ true → Keeps map (with_knots e map).map
unfolding with_knots
keeps e map k =
    cond_case map.kept (λ (generated : Generated). Keeps map generated.map) _ _ (λ _. (k, (refl, refl))) (λ dropped. both_ways map.kept k dropped)

-- an insertion that is not done, by either rule
keeps_inserted : (withdraws : Bool) (e : Float) (map : Tmesh) (con : ℕ) (d : TmeshDirection) (ratio : Float) (position : Position) → map.kept ≡ true
    → is_done (add_control_point e map con d ratio position).answer ≡ false → Keeps map (add_by_rule withdraws e map con d ratio position).map
unfolding add_control_point
keeps_inserted withdraws e map con d ratio position k done =
    by_either_rule (Keeps map) withdraws e map con d ratio position (k, (refl, refl))
    (kept_after_lem map.kept (insert_point e (store_of map) (is_listed map con) con d ratio).answer k done, (refl, refl))

pub only_done_drops : OnlyDoneDrops
unfolding subs_of cell_points generate_knot_vectors
only_done_drops e map (entry (insertion withdraws con d ratio position)) k done =
    let same = keeps_inserted withdraws e map con d ratio position k done in (same.0, λ other. same.1)
only_done_drops e map (entry (evaluation s t)) k done = ((keeps e map k).0, λ other. (keeps e map k).1)
only_done_drops e map (entry (set_point_call s t)) k done =
    let same = set_point_leaves e map s t (Keeps map) (k, (refl, refl)) (keeps e map k) in (same.0, λ other. same.1)
only_done_drops e map (entry (question cell)) k done = ((keeps e map k).0, λ other. (keeps e map k).1)
only_done_drops e map (entry (pulling n pull)) k done =
    let same = pulled_case map n pull (Keeps map) (k, (refl, refl)) (λ _ _. (k, (refl, refl))) in (same.0, λ other. same.1)
only_done_drops e map generate_knot_vectors_call k done = (kept_built map (all_knots e map) k, λ other. absurd (other refl))
only_done_drops e map (point_knot_vectors_call n) k done = (k, λ other. (refl, refl))
only_done_drops e map (cast_ray_call n d buffer) k done = (k, λ other. (refl, refl))
only_done_drops e map (direct call) k done = (k, λ other. (refl, refl))
