-- Refused, a call leaves the map as it was, or, a set-point without weight, as its evaluation has it: each is defined so.
use Rattle.std.specs.Prelude.{◌≡◌, refl, Bool, true, false, cond, eqb, Float, Err, Ok, Result, ⊤}
use Rattle.std.proofs.Common.{ap, ◌∙◌}
use Rattle.control_point.specs.Told.{outcome_number}
use Rattle.control_point.specs.declared.refusal.Refusal.TheVariants.{NoWeight}
use Rattle.store.specs.declared.store.Store.{Store}
use Rattle.counting.proofs.BoolLaws.{cond_case}
use Rattle.mirror.proofs.RefusedUnchangedProof.{refused_unchanged}
use Rattle.insertion.specs.Insert.{answer_number, insert_point}
use Rattle.insertion.specs.Withdrawal.{is_withdrawn, unless_withdrawn}
use Rattle.insertion.specs.declared.insertion.Insertion.TheVariants.{Done as Added, Torn}
use Rattle.knot_vectors.specs.Knots.{AllKnots, all, none, all_knots, keeping, generate_knot_vectors}
use Rattle.knot_vectors.specs.declared.knots.Generated.{Generated}
use Rattle.surface.specs.Evaluation.{evaluation_number, value_of, answer_by, with_knots, subs_of}
use Rattle.surface.specs.SetPoint.{weighty, where_weighty, weighed, set_point}
use Rattle.surface.proofs.SetPointLaws.{set_point_case}
use Rattle.surface.specs.declared.evaluation.Evaluation.{Evaluation}
use Rattle.t_mesh.specs.Insertion.{after_insertion, add_control_point}
use Rattle.t_mesh.specs.Tmesh.{store_of, with_store, is_listed}
use Rattle.t_mesh.specs.declared.t_mesh.Position.{Position}
use Rattle.t_mesh.specs.declared.t_mesh.Tmesh.{Tmesh}
use Rattle.pull.specs.declared.Pulled.{Pulled}
use Rattle.cells.specs.Cells.{cell_number, cell_answer_by, cell_points}
use Rattle.grid_index.specs.Index.{cell_of}
use Rattle.grid_index.specs.declared.Cell.{Cell}
use Rattle.calls.specs.Calls.{insertion, evaluation, set_point_call, question, pulling}
use Rattle.calls.proofs.PullingLaws.{setting_case}
use Rattle.soundness.specs.MapCalls.{entry, generate_knot_vectors_call, point_knot_vectors_call, cast_ray_call, direct}
use Rattle.soundness.specs.Theorems.{RefusedKeepsMap}
use Rattle.control_point.specs.declared.refusal.Refusal.{Refusal}
use Rattle.insertion.specs.declared.insertion.Insertion.{Insertion}

-- an insertion that is not done, and is withdrawn where it is torn
by_answer : (withdraws : Bool) (map : Tmesh) (position : Position) (answer : Result Insertion Refusal) (store : Store) → (answer_number answer ≡ 0 → ⊥)
    → (answer_number answer ≡ 8 → withdraws ≡ true) → unless_withdrawn withdraws answer map (after_insertion map position answer store) ≡ map
by_answer withdraws map position (Ok (Added opened inferred)) store done torn = absurd (done refl)
by_answer withdraws map position (Ok (Torn opened inferred)) store done torn =
    ap (λ (rule : Bool). unless_withdrawn rule (Ok (Torn opened inferred)) map (after_insertion map position (Ok (Torn opened inferred)) store)) (torn refl)
by_answer withdraws map position (Err refusal) store done torn =
    cond_case (is_withdrawn withdraws (Err refusal)) (λ after. after ≡ map) _ _ (λ _. refl) (λ _. refl)

-- a building that is not done
abbrev Keeps : Tmesh → Generated → Type 0
Keeps map generated = (outcome_number generated.outcome ≡ 0 → ⊥) → generated.map ≡ map

keeps_built : (map : Tmesh) (rows : AllKnots) → Keeps map (keeping map rows)
keeps_built map (all rows) done = absurd (done refl)
keeps_built map (none refusal) done = refl

-- with knots kept or built
keeps : (e : Float) (map : Tmesh) → Keeps map (with_knots e map)
unfolding with_knots generate_knot_vectors
keeps e map = cond_case map.kept (Keeps map) _ _ (λ _ _. refl) (λ _. keeps_built map (all_knots e map))

-- an evaluation and a question answer the number of their building
number_by : (outcome : Result ⊤ Refusal) (value : Evaluation) → evaluation_number (answer_by outcome value) ≡ outcome_number outcome
number_by (Ok tt) value = refl
number_by (Err refusal) value = refl

words_by : (outcome : Result ⊤ Refusal) (words : Cell) → cell_number (cell_answer_by outcome words) ≡ outcome_number outcome
words_by (Ok tt) words = refl
words_by (Err refusal) words = refl

-- a set-point that answers another number than 0: refused 15, the map is as its evaluation has it, and else as it was
set_point_keeps : (e : Float) (map : Tmesh) (s t : Float)
    → (evaluation_number (set_point e map s t).answer ≡ 0 → ⊥)
    → (set_point e map s t).map ≡ cond (eqb (evaluation_number (set_point e map s t).answer) 15) (with_knots e map).map map
unfolding subs_of where_weighty
set_point_keeps e map s t =
    set_point_case e map s t
    (λ given. (evaluation_number given.answer ≡ 0 → ⊥) → given.map ≡ cond (eqb (evaluation_number given.answer) 15) (with_knots e map).map map)
    (λ _. by_outcome (with_knots e map).outcome (with_knots e map).map (keeps e map))
    (λ _ _. refl)
  where
    by_weight : (value : Evaluation) (own : Tmesh) (b : Bool)
        → let answer = cond b (Ok value) (Err NoWeight) in
        (evaluation_number answer ≡ 0 → ⊥) → own ≡ cond (eqb (evaluation_number answer) 15) own map
    by_weight value own true done = absurd (done refl)
    by_weight value own false done = refl

    by_outcome : (outcome : Result ⊤ Refusal) (own : Tmesh) → ((outcome_number outcome ≡ 0 → ⊥) → own ≡ map)
        → let answer = weighed (answer_by outcome (value_of own s t)) in
        (evaluation_number answer ≡ 0 → ⊥) → own ≡ cond (eqb (evaluation_number answer) 15) own map
    by_outcome (Ok tt) own kept done = by_weight (value_of own s t) own (weighty (value_of own s t)) done
    by_outcome (Err refusal) own kept done = cond_case (eqb (outcome_number (Err refusal)) 15) (λ after. own ≡ after) own map (λ _. refl) (λ _. kept done)

pub refused_keeps_map : RefusedKeepsMap
unfolding add_control_point subs_of cell_points generate_knot_vectors
refused_keeps_map e map (entry (insertion withdraws con d ratio position)) done torn =
    let result = insert_point e (store_of map) (is_listed map con) con d ratio in by_answer withdraws map position result.answer result.store done torn
refused_keeps_map e map (entry (evaluation s t)) done torn =
    keeps e map (λ built. done (number_by (with_knots e map).outcome (value_of (with_knots e map).map s t) ∙ built))
refused_keeps_map e map (entry (set_point_call s t)) done torn = set_point_keeps e map s t done
refused_keeps_map e map (entry (question cell)) done torn =
    keeps e map (λ built. done (words_by (with_knots e map).outcome (cell_of (with_knots e map).map.index cell) ∙ built))
refused_keeps_map e map (entry (pulling n pull)) done torn =
    setting_case map n pull (λ (set : Pulled). (outcome_number set.outcome ≡ 0 → ⊥) → set.map ≡ map) (λ _ _. refl) (λ _ _ _. refl)
    (λ _ _ set. absurd (set refl)) done
refused_keeps_map e map generate_knot_vectors_call done torn = keeps_built map (all_knots e map) done
refused_keeps_map e map (point_knot_vectors_call n) done torn = refl
refused_keeps_map e map (cast_ray_call n d buffer) done torn = refl
refused_keeps_map e map (direct call) done torn = ap (with_store map) (refused_unchanged (store_of map) call done)
