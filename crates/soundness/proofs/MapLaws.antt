-- Laws of a call on a sound mesh: it leaves a sound mesh, a listing with at most the number that an insertion made, and 11 is not its answer.
use Prim.Native.Nat.{ℕ, zero, suc, ◌<◌, ◌+◌}
use Rattle.std.specs.Prelude.{◌≡◌, Bool, true, false, ◌&&◌, ◌||◌, List, eqb, Float, length, set, Err, Ok, Result, ⊤}
use Rattle.std.proofs.Math.Path.{refl, ap, subst}
use Rattle.std.proofs.Common.{sym, ◌∙◌, arith, eqb-true, length-set, get_or-set_same, get_or-set_other, ext_get_or}
use Rattle.std.proofs.lemmas.Bool.{eqb-false}
use Rattle.std.proofs.Math.ListN.{get_or}
use Rattle.control_point.specs.declared.t_mesh_direction.TmeshDirection.{TmeshDirection}
use Rattle.store.specs.declared.store.Store.{Store}
use Rattle.counting.proofs.BoolLaws.{cond_case, and_both, or_case}
use Rattle.mirror.specs.Mirror.{Sound}
use Rattle.insertion.specs.Insert.{is_done, is_refused, insert_point}
use Rattle.insertion.specs.Withdrawal.{is_withdrawn}
use Rattle.insertion.proofs.WithdrawalLaws.{withdrawn_torn, torn_not_done}
use Rattle.insertion.specs.declared.insertion.Insertion.TheVariants.{Done as Added, Torn}
use Rattle.insertion.specs.declared.insertion.Inserted.{Inserted}
use Rattle.ray.specs.Knots.{point_knot_vectors}
use Rattle.ray.specs.declared.knots.PointKnots.{PointKnots}
use Rattle.t_mesh.specs.Insertion.{with_placed, after_insertion, add_control_point, add_by_rule}
use Rattle.t_mesh.specs.Tmesh.{mesh_store, store_of, is_listed}
use Rattle.t_mesh.specs.declared.t_mesh.Mesh.{Mesh}
use Rattle.t_mesh.specs.declared.t_mesh.Position.{Position}
use Rattle.t_mesh.specs.declared.t_mesh.Tmesh.{Tmesh}
use Rattle.pull.specs.Pull.{with_pull}
use Rattle.surface.specs.Evaluation.{value_of, answer_by, with_knots, subs_of}
use Rattle.surface.proofs.EvaluationLaws.{generated_mesh, ready_mesh}
use Rattle.surface.proofs.SetPointLaws.{set_point_leaves}
use Rattle.knot_vectors.specs.Knots.{AllKnots, all, none, on_all, in_row, with_row, rows_from, all_knots, keeping, generate_knot_vectors}
use Rattle.surface.specs.declared.evaluation.Evaluation.{Evaluation}
use Rattle.knot_vectors.specs.declared.knots.Generated.{Generated}
use Rattle.cells.specs.Cells.{cell_answer_by, cell_points}
use Rattle.grid_index.specs.Index.{cell_of}
use Rattle.grid_index.specs.declared.Cell.{Cell}
use Rattle.calls.specs.Calls.{insertion, evaluation, set_point_call, question, pulling}
use Rattle.calls.proofs.PullingLaws.{pulled_case}
use Rattle.calls.proofs.WithdrawalLaws.{by_either_rule}
use Rattle.mirror.proofs.EveryListMirroredProof.{sound_call as sound-direct}
use Rattle.soundness.proofs.DirectLaws.{call_grows}
use Rattle.soundness.specs.MapCalls.{MapCall, entry, generate_knot_vectors_call, point_knot_vectors_call, cast_ray_call, direct, after_call, adds_point}
use Rattle.soundness.proofs.InsertionLaws.{KnownAnswer, Grown, Inserts, inserts}
use Rattle.soundness.proofs.KnownLaws.{Met, MetOutcome}
use Rattle.soundness.proofs.KnownRayLaws.{known_knots}
use Rattle.soundness.specs.Theorems.{Placing, Seeking}
use Rattle.control_point.specs.declared.refusal.Refusal.{Refusal}
use Rattle.insertion.specs.declared.insertion.Insertion.{Insertion}

-- a sound store whose listed numbers are made
pub record SoundMesh (mesh : Mesh) : Type 0 where
  pub sound : Sound (mesh_store mesh)
  pub room : length mesh.listed ≡ 128
  pub listed_made : (n : ℕ) → get_or mesh.listed n false ≡ true → n < (mesh_store mesh).made

-- an evaluation that is refused 3, 4 or 9, if it is refused
abbrev pub KnownEvaluation : Result Evaluation Refusal → Type 0
KnownEvaluation (Ok value) = Unit {0}
KnownEvaluation (Err refusal) = Met refusal

-- a question likewise
abbrev pub KnownQuestion : Result Cell Refusal → Type 0
KnownQuestion (Ok words) = Unit {0}
KnownQuestion (Err refusal) = Met refusal

-- all knots built, or refused so
abbrev KnownAll : AllKnots → Type 0
KnownAll (all rows) = Unit {0}
KnownAll (none refusal) = Met refusal

module _ (map : Tmesh) (mesh-sound : SoundMesh map.mesh) where
  -- ---- an insertion
  -- the next number to be made is not listed
  pub unlisted : is_listed map (store_of map).made ≡ false
  unlisted = by_test (is_listed map (store_of map).made) refl
    where
      by_test : (b : Bool) → is_listed map (store_of map).made ≡ b → b ≡ false
      by_test true h = let l = mesh-sound.listed_made (store_of map).made h in absurd (omega arith)
      by_test false h = refl

  -- the listing where that number is listed or not
  listing_placed : (lists : Bool) → (store_of map).made < 128 → (n : ℕ)
      → get_or (set map.mesh.listed (store_of map).made lists) n false ≡ ((lists && eqb n (store_of map).made) || is_listed map n)
  listing_placed lists roomy n = by_test lists (eqb n (store_of map).made) refl
    where
      same : (lists : Bool) → get_or (set map.mesh.listed (store_of map).made lists) (store_of map).made false ≡ lists
      same lists = get_or-set_same map.mesh.listed (store_of map).made lists false (rw mesh-sound.room roomy)

      other : (lists : Bool) → eqb n (store_of map).made ≡ false
          → get_or (set map.mesh.listed (store_of map).made lists) n false ≡ is_listed map n
      other lists h = get_or-set_other map.mesh.listed (store_of map).made n lists false (eqb-false n (store_of map).made h)

      by_test : (lists b : Bool) → eqb n (store_of map).made ≡ b
          → get_or (set map.mesh.listed (store_of map).made lists) n false ≡ ((lists && b) || is_listed map n)
      by_test true true h = rw (eqb-true n (store_of map).made h) (same true)
      by_test true false h = other true h
      by_test false true h = rw (eqb-true n (store_of map).made h) (same false ∙ sym unlisted)
      by_test false false h = other false h

  sound_placed : (lists : Bool) (position : Position) (store : Store) → Grown (store_of map) store
      → SoundMesh (with_placed map.mesh store (store_of map).made position lists)
  sound_placed lists position store grown =
      record {
        sound = grown.sound;
        room = length-set map.mesh.listed (store_of map).made lists ∙ mesh-sound.room;
        listed_made = λ n h.
            let grows = grown.made_is in
            or_case (lists && eqb n (store_of map).made) (is_listed map n) (sym (listing_placed lists grown.roomy n) ∙ h)
            (λ new. let i = eqb-true n (store_of map).made (and_both lists (eqb n (store_of map).made) new).1 in omega arith)
            (λ old. let l = mesh-sound.listed_made n old in omega arith);
      }

  -- by the answer, and what it says of the store that was left
  listing_after : (position : Position) (answer : Result Insertion Refusal) (store : Store) → (is_refused answer ≡ false → Grown (store_of map) store) → (n : ℕ)
      → is_listed (after_insertion map position answer store) n ≡ ((is_done answer && eqb n (store_of map).made) || is_listed map n)
  listing_after position (Ok (Added opened inferred)) store grown n = listing_placed true (grown refl).roomy n
  listing_after position (Ok (Torn opened inferred)) store grown n = listing_placed false (grown refl).roomy n
  listing_after position (Err refusal) store grown n = refl

  -- torn, it is as it was
  pub listing_torn : (position : Position) (opened inferred : ℕ) (store : Store) → Grown (store_of map) store
      → (after_insertion map position (Ok (Torn opened inferred)) store).mesh.listed ≡ map.mesh.listed
  listing_torn position opened inferred store grown =
      ext_get_or false (set map.mesh.listed (store_of map).made false) map.mesh.listed (length-set map.mesh.listed (store_of map).made false)
      (λ n _. listing_after position (Ok (Torn opened inferred)) store (λ _. grown) n)

  sound_after : (position : Position) (answer : Result Insertion Refusal) (store : Store) → (is_refused answer ≡ false → Grown (store_of map) store)
      → SoundMesh (after_insertion map position answer store).mesh
  sound_after position (Ok (Added opened inferred)) store grown = sound_placed true position store (grown refl)
  sound_after position (Ok (Torn opened inferred)) store grown = sound_placed false position store (grown refl)
  sound_after position (Err refusal) store grown = mesh-sound

  module _ (e : Float) (con : ℕ) (d : TmeshDirection) (ratio : Float) where
    result : Inserted
    result = insert_point e (store_of map) (is_listed map con) con d ratio

    result_inserts : Inserts e (store_of map) con d ratio result
    unfolding result
    result_inserts = inserts e (store_of map) mesh-sound.sound con d ratio (is_listed map con) (mesh-sound.listed_made con)

    pub insertion_grown : is_refused (insert_point e (store_of map) (is_listed map con) con d ratio).answer ≡ false
        → Grown (store_of map) (insert_point e (store_of map) (is_listed map con) con d ratio).store
    unfolding result
    insertion_grown = result_inserts.grown

    module _ (position : Position) where
      pub insertion_known : KnownAnswer (add_control_point e map con d ratio position).answer
      unfolding add_control_point result
      insertion_known = result_inserts.known

      pub insertion_seeks : is_refused (add_control_point e map con d ratio position).answer ≡ false
          → Seeking e (store_of map) con d ratio (insert_point e (store_of map) (is_listed map con) con d ratio)
      unfolding add_control_point result
      insertion_seeks = result_inserts.seeking

      pub insertion_places : is_refused (add_control_point e map con d ratio position).answer ≡ false
          → Placing e (store_of map) con d ratio (insert_point e (store_of map) (is_listed map con) con d ratio)
      unfolding add_control_point result
      insertion_places = result_inserts.placing

      pub insertion_sound : SoundMesh (add_control_point e map con d ratio position).map.mesh
      unfolding add_control_point result
      insertion_sound = sound_after position result.answer result.store result_inserts.grown

      pub insertion_lists : (n : ℕ)
          → is_listed (add_control_point e map con d ratio position).map n
          ≡ ((is_done (add_control_point e map con d ratio position).answer && eqb n (store_of map).made) || is_listed map n)
      unfolding add_control_point result
      insertion_lists = listing_after position result.answer result.store result_inserts.grown

      -- withdrawn, it is not done, and the listing is as it was
      insertion_lists_by : (withdraws : Bool) (n : ℕ)
          → is_listed (add_by_rule withdraws e map con d ratio position).map n
          ≡ ((is_done (add_control_point e map con d ratio position).answer && eqb n (store_of map).made) || is_listed map n)
      insertion_lists_by withdraws n =
          let answer = (add_control_point e map con d ratio position).answer in
          cond_case (is_withdrawn withdraws answer) (λ after. is_listed after n ≡ ((is_done answer && eqb n (store_of map).made) || is_listed map n)) _ _
          (λ withdrawn. ap (λ (done : Bool). (done && eqb n (store_of map).made) || is_listed map n) (sym (torn_not_done answer (withdrawn_torn withdraws answer withdrawn))))
          (λ _. insertion_lists n)

  -- ---- an evaluation and a question
  module _ (e : Float) where
    known_row : (outcome : Result ⊤ Refusal) (knots : PointKnots) (n : ℕ) (rows : List PointKnots) → MetOutcome outcome → KnownAll (in_row outcome knots n rows)
    known_row (Ok tt) knots n rows known = tt
    known_row (Err refusal) knots n rows known = known

    known_listed : (n : ℕ) (rows : List PointKnots) → KnownAll (with_row e map n rows)
    known_listed n rows =
        cond_case (is_listed map n) KnownAll _ _
        (λ l.
        known_row (point_knot_vectors e (store_of map) n).outcome _ n rows
        (known_knots e (store_of map) mesh-sound.sound n (mesh-sound.listed_made n l)))
        (λ l. tt)

    on_all_lem : (knots : AllKnots) (next : List PointKnots → AllKnots) → KnownAll knots → ((rows : List PointKnots) → KnownAll (next rows))
        → KnownAll (on_all knots next)
    on_all_lem (all rows) next known known_next = known_next rows
    on_all_lem (none refusal) next known known_next = known

    known_rows : (left n : ℕ) (rows : List PointKnots) → KnownAll (rows_from e map left n rows)
    unfolding rows_from
    known_rows zero n rows = tt
    known_rows (suc left) n rows = on_all_lem (with_row e map n rows) _ (known_listed n rows) (λ filled. known_rows left (n + 1) filled)

    -- knots built or kept: refused 3, 4 or 9 if refused
    abbrev KnownBuilt : Generated → Type 0
    KnownBuilt generated = MetOutcome generated.outcome

    known_built : (knots : AllKnots) → KnownAll knots → KnownBuilt (keeping map knots)
    known_built (all rows) known = tt
    known_built (none refusal) known = known

    pub generation_known : KnownBuilt (generate_knot_vectors e map)
    unfolding generate_knot_vectors all_knots
    generation_known = known_built (rows_from e map 128 0 map.knots) (known_rows 128 0 map.knots)

    ready_known : KnownBuilt (with_knots e map)
    unfolding with_knots
    ready_known = cond_case map.kept KnownBuilt _ _ (λ k. tt) (λ k. generation_known)

    known_answer : (outcome : Result ⊤ Refusal) (value : Evaluation) → MetOutcome outcome → KnownEvaluation (answer_by outcome value)
    known_answer (Ok tt) value known = tt
    known_answer (Err refusal) value known = known

    pub evaluation_known : (s t : Float) → KnownEvaluation (subs_of e map s t).answer
    unfolding subs_of
    evaluation_known s t = known_answer (with_knots e map).outcome (value_of (with_knots e map).map s t) ready_known

    known_words : (outcome : Result ⊤ Refusal) (words : Cell) → MetOutcome outcome → KnownQuestion (cell_answer_by outcome words)
    known_words (Ok tt) words known = tt
    known_words (Err refusal) words known = known

    pub question_known : (cell : ℕ) → KnownQuestion (cell_points e map cell).answer
    unfolding cell_points
    question_known cell = known_words (with_knots e map).outcome (cell_of (with_knots e map).map.index cell) ready_known

  -- ---- a setting of a pull
  pub repulled_sound : (n : ℕ) (pull : Float) → SoundMesh (with_pull map n pull).mesh
  repulled_sound n pull = record { sound = mesh-sound.sound; room = mesh-sound.room; listed_made = mesh-sound.listed_made }

  -- ---- any call
  pub sound_call : (e : Float) (call : MapCall) → SoundMesh (after_call e map call).mesh
  unfolding subs_of cell_points
  sound_call e (entry (insertion withdraws con d ratio position)) =
      by_either_rule (λ after. SoundMesh after.mesh) withdraws e map con d ratio position mesh-sound (insertion_sound e con d ratio position)
  sound_call e (entry (evaluation s t)) = subst SoundMesh (sym (ready_mesh e map)) mesh-sound
  sound_call e (entry (set_point_call s t)) = set_point_leaves e map s t (λ after. SoundMesh after.mesh) mesh-sound (subst SoundMesh (sym (ready_mesh e map)) mesh-sound)
  sound_call e (entry (question cell)) = subst SoundMesh (sym (ready_mesh e map)) mesh-sound
  sound_call e (entry (pulling n pull)) = pulled_case map n pull (λ after. SoundMesh after.mesh) mesh-sound (λ _ _. repulled_sound n pull)
  sound_call e generate_knot_vectors_call = subst SoundMesh (sym (generated_mesh e map)) mesh-sound
  sound_call e (point_knot_vectors_call n) = mesh-sound
  sound_call e (cast_ray_call n d buffer) = mesh-sound
  sound_call e (direct call) =
      record {
        sound = sound-direct (store_of map) call mesh-sound.sound;
        room = mesh-sound.room;
        listed_made = λ n h. let l = mesh-sound.listed_made n h in let more = call_grows (store_of map) call in omega arith;
      }

  pub listing_call : (e : Float) (call : MapCall) (n : ℕ)
      → is_listed (after_call e map call) n ≡ ((adds_point e map call && eqb n (store_of map).made) || is_listed map n)
  unfolding subs_of cell_points
  listing_call e (entry (insertion withdraws con d ratio position)) n = insertion_lists_by e con d ratio position withdraws n
  listing_call e (entry (evaluation s t)) n = ap (λ (mesh : Mesh). get_or mesh.listed n false) (ready_mesh e map)
  listing_call e (entry (set_point_call s t)) n =
      set_point_leaves e map s t (λ after. is_listed after n ≡ is_listed map n) refl (ap (λ (mesh : Mesh). get_or mesh.listed n false) (ready_mesh e map))
  listing_call e (entry (question cell)) n = ap (λ (mesh : Mesh). get_or mesh.listed n false) (ready_mesh e map)
  listing_call e (entry (pulling m pull)) n = pulled_case map m pull (λ after. is_listed after n ≡ is_listed map n) refl (λ _ _. refl)
  listing_call e generate_knot_vectors_call n = ap (λ (mesh : Mesh). get_or mesh.listed n false) (generated_mesh e map)
  listing_call e (point_knot_vectors_call m) n = refl
  listing_call e (cast_ray_call m d buffer) n = refl
  listing_call e (direct call) n = refl
