-- Each call tests the points that it is given before all else, and what it meets from made points on is made.
use Rattle.std.specs.Prelude.{ℕ, ◌≡◌, Bool, cond, not, ◌&&◌, ◌++◌, ltb, Float, length, Err, Ok, Result, ⊤}
use Rattle.std.proofs.Math.Path.{refl, ap}
use Rattle.std.proofs.Common.{sym, ◌∙◌}
use Rattle.std.proofs.Math.Bool.{true, false}
use Rattle.std.proofs.Math.Dec.{eqb}
use Rattle.control_point.specs.Connect.{connectable}
use Rattle.control_point.specs.Point.{side_of, is_border, is_made}
use Rattle.control_point.proofs.PointLaws.{is_made_made, is_made_room, made_is_made}
use Rattle.control_point.specs.Told.{tells, refused_or, outcome_number, side_told}
use Rattle.control_point.specs.declared.t_mesh_direction.TmeshDirection.{TmeshDirection}
use Rattle.control_point.specs.declared.t_mesh_control_point.Side.{Side}
use Rattle.control_point.specs.declared.t_mesh_control_point.Side.TheVariants.{Link, Border, Opening}
use Rattle.navigation.specs.Walk.{walk_number, walk_of}
use Rattle.store.specs.Store.{store_sides, store_point, linked, settled, opened, weighted, all_borders, make_loose, connect_points, remove_connection, remove_edge_condition, set_edge_con_weight, set_knot_coordinates, read_side, read_point, point_told}
use Rattle.store.proofs.StoreLaws.{side_read}
use Rattle.store.specs.declared.store.Changed.{Changed}
use Rattle.store.specs.declared.store.Store.{Store}
use Rattle.counting.proofs.BoolLaws.{cond_case, and_both}
use Rattle.mirror.specs.Calls.{Call as Direct, make_loose_call, connect, remove_connection_call, remove_edge_condition_call, set_edge_con_weight_call, set_knot_coordinates_call, navigate_until_con_call, read_side_call, read_point_call, call_number}
use Rattle.mirror.specs.Mirror.{Sound}
use Rattle.insertion.specs.Insert.{answer_number}
use Rattle.insertion.specs.declared.insertion.Insertion.TheVariants.{Done as Added, Torn}
use Rattle.ray.specs.Knots.{point_knot_vectors, knots_told}
use Rattle.ray.specs.Ray.{Ray, entries, refused, ray_of, cast_of, floats, cast_told}
use Rattle.ray.specs.declared.knots.KnotsAnswer.{KnotsAnswer}
use Rattle.t_mesh.specs.Insertion.{add_control_point}
use Rattle.t_mesh.specs.Tmesh.{store_of}
use Rattle.t_mesh.specs.declared.t_mesh.Tmesh.{Tmesh}
use Rattle.pull.specs.declared.Pulled.{Pulled}
use Rattle.knot_vectors.specs.Knots.{generate_knot_vectors}
use Rattle.surface.specs.Evaluation.{evaluation_number, subs_of}
use Rattle.surface.specs.SetPoint.{weighty, where_weighty, weighed}
use Rattle.surface.proofs.SetPointLaws.{set_point_case}
use Rattle.cells.specs.Cells.{cell_number, cell_points}
use Rattle.calls.specs.Calls.{insertion, evaluation, set_point_call, question, pulling}
use Rattle.calls.proofs.PullingLaws.{setting_case}
use Rattle.soundness.proofs.EveryMapProof.{of_sound}
use Rattle.soundness.proofs.InsertionLaws.{KnownAnswer}
use Rattle.soundness.proofs.KnownLaws.{MetOutcome, KnownOutcome, KnownWalk, met_known, known_walk, known_connectable}
use Rattle.soundness.proofs.KnownRayLaws.{KnownRay, known_ray, known_knots}
use Rattle.soundness.specs.MapCalls.{MapCall, entry, generate_knot_vectors_call, point_knot_vectors_call, cast_ray_call, direct, number_to, given_made, points_made}
use Rattle.soundness.proofs.MapLaws.{SoundMesh, KnownEvaluation, KnownQuestion, insertion_known, insertion_seeks, generation_known, evaluation_known, question_known}
use Rattle.soundness.specs.Theorems.{MeetsPoints, NoPointNever}
use Rattle.control_point.specs.declared.refusal.Refusal.{Refusal}
use Rattle.navigation.specs.declared.walk.Walk.{Walk}
use Rattle.insertion.specs.declared.insertion.Insertion.{Insertion}
use Rattle.surface.specs.declared.evaluation.Evaluation.{Evaluation}
use Rattle.grid_index.specs.declared.Cell.{Cell}

-- ---- answers that are not 11
answer_not : (answer : Result Insertion Refusal) → KnownAnswer answer → eqb (answer_number answer) 11 ≡ false
answer_not (Ok (Added opened inferred)) known = refl
answer_not (Ok (Torn opened inferred)) known = refl
answer_not (Err refusal) known = known

evaluation_not : (answer : Result Evaluation Refusal) → KnownEvaluation answer → eqb (evaluation_number answer) 11 ≡ false
evaluation_not (Ok value) known = refl
evaluation_not (Err refusal) known = met_known refusal known

weighed_not : (answer : Result Evaluation Refusal) → KnownEvaluation answer → eqb (evaluation_number (weighed answer)) 11 ≡ false
unfolding where_weighty
weighed_not (Ok value) known = cond_case (weighty value) (λ answer. eqb (evaluation_number answer) 11 ≡ false) _ _ (λ _. refl) (λ _. refl)
weighed_not (Err refusal) known = met_known refusal known

question_not : (answer : Result Cell Refusal) → KnownQuestion answer → eqb (cell_number answer) 11 ≡ false
question_not (Ok words) known = refl
question_not (Err refusal) known = met_known refusal known

outcome_not : (outcome : Result ⊤ Refusal) → MetOutcome outcome → eqb (outcome_number outcome) 11 ≡ false
outcome_not (Ok tt) known = refl
outcome_not (Err refusal) known = met_known refusal known

connected_not : (outcome : Result ⊤ Refusal) → KnownOutcome outcome → eqb (outcome_number outcome) 11 ≡ false
connected_not (Ok tt) known = refl
connected_not (Err refusal) known = known

walk_not : (made : ℕ) (walk : Result Walk Refusal) → KnownWalk made walk → eqb (walk_number walk) 11 ≡ false
walk_not made (Ok walk) known = refl
walk_not made (Err refusal) known = met_known refusal known

knots_not : (answer : KnotsAnswer) → MetOutcome answer.outcome → eqb (knots_told answer).number 11 ≡ false
knots_not answer known = by_outcome answer.outcome known
  where
    by_outcome : (outcome : Result ⊤ Refusal) → MetOutcome outcome → eqb (refused_or outcome (tells (floats (answer.knots.s ++ answer.knots.t)))).number 11 ≡ false
    by_outcome (Ok tt) known = refl
    by_outcome (Err refusal) known = met_known refusal known

ray_not : (ray : Ray) (n : ℕ) → KnownRay ray → eqb (cast_told (cast_of ray n)).number 11 ≡ false
ray_not (entries values) n known = refl
ray_not (refused refusal) n known = met_known refusal known

-- ---- a test before all else
-- whether a number is 11 just where a test fails
abbrev Unless : Bool → ℕ → Type 0
Unless test number = eqb number 11 ≡ not test

-- a call that is 11 unless a test holds, and is not 11 where it holds
first_test : {A : Type 0} (number : A → ℕ) (test : Bool) (call other : A) → eqb (number other) 11 ≡ true
    → (test ≡ true → eqb (number call) 11 ≡ false) → Unless test (number (cond test call other))
first_test number true call other eleven known = known refl
first_test number false call other eleven known = eleven

abbrev changed_number : Changed → ℕ
changed_number changed = outcome_number changed.outcome

settled_number : (outcome : Result ⊤ Refusal) (new old : Store) → changed_number (settled outcome new old) ≡ outcome_number outcome
settled_number (Ok tt) new old = refl
settled_number (Err refusal) new old = refl

module _ (store : Store) (sound : Sound store) where
  abbrev NotEleven : Changed → Type 0
  NotEleven changed = eqb (changed_number changed) 11 ≡ false

  -- a link of a made point leads to a made one
  not_opened : (n : ℕ) (d : TmeshDirection) → is_made store.made n ≡ true → (side : Side) → side_of (store_point store n) d ≡ side
      → NotEleven (opened store n d side)
  not_opened n d h (Link m interval) is =
      let mirror = sound.mirrored n d m interval (is_made_made store.made n h) (side_read store n d (is_made_room store.made n h) ∙ is) in
      rw (made_is_made store.made m sound.fits mirror.leads)
  not_opened n d h (Border weight) is = refl
  not_opened n d h Opening is = refl

  not_weighted : (n : ℕ) (d : TmeshDirection) (weight : Float) (side : Side) → NotEleven (weighted store n d weight side)
  not_weighted n d weight (Link m interval) = refl
  not_weighted n d weight (Border old) = refl
  not_weighted n d weight Opening = refl

  connect_unless : (first other : ℕ) (d : TmeshDirection) (b : Bool) → (is_made store.made first && is_made store.made other) ≡ b
      → Unless b (outcome_number (connectable (store_sides store) store.made first other d))
  unfolding connectable
  connect_unless first other d true h =
      let both = and_both (is_made store.made first) (is_made store.made other) h in
      connected_not (connectable (store_sides store) store.made first other d)
      (known_connectable (store_sides store) store.made sound.fits sound.mirrored first other d (is_made_made store.made first both.0) (is_made_made store.made other both.1))
  connect_unless first other d false h = rw h

  walk_unless : (n : ℕ) (travel watch : TmeshDirection) (b : Bool) → is_made store.made n ≡ b
      → Unless b (walk_number (walk_of (store_sides store) store.made n travel watch))
  unfolding walk_of
  walk_unless n travel watch true h =
      walk_not store.made (walk_of (store_sides store) store.made n travel watch)
      (known_walk (store_sides store) store.made sound.fits sound.mirrored n travel watch (is_made_made store.made n h))
  walk_unless n travel watch false h = rw h

  ray_unless : (e : Float) (n : ℕ) (d : TmeshDirection) (count : ℕ) (b : Bool) → is_made store.made n ≡ b
      → Unless b (cast_told (cast_of (ray_of e (store_sides store) store.made n d count) count)).number
  unfolding ray_of
  ray_unless e n d count true h =
      ray_not (ray_of e (store_sides store) store.made n d count) count
      (known_ray e (store_sides store) store.made sound.fits sound.mirrored d n (is_made_made store.made n h) count)
  ray_unless e n d count false h = rw h

  knots_unless : (e : Float) (n : ℕ) (b : Bool) → is_made store.made n ≡ b → Unless b (knots_told (point_knot_vectors e store n)).number
  unfolding point_knot_vectors
  knots_unless e n true h = knots_not (point_knot_vectors e store n) (known_knots e store sound n (is_made_made store.made n h))
  knots_unless e n false h = rw h

  side_unless : (n : ℕ) (d : TmeshDirection) (b : Bool) → is_made store.made n ≡ b → Unless b (side_told (read_side store n d)).number
  side_unless n d true h = rw h
  side_unless n d false h = rw h

  point_unless : (n : ℕ) (b : Bool) → is_made store.made n ≡ b → Unless b (point_told (read_point store n)).number
  point_unless n true h = rw h
  point_unless n false h = rw h

  direct_unless : (call : Direct) → Unless (given_made store call) (call_number store call)
  unfolding make_loose connect_points remove_connection remove_edge_condition set_edge_con_weight set_knot_coordinates
  direct_unless (make_loose_call weight) = cond_case (ltb store.made 128) NotEleven _ _ (λ h. refl) (λ h. refl)
  direct_unless (connect first other d interval) =
      ap (λ (number : ℕ). eqb number 11)
      (settled_number (connectable (store_sides store) store.made first other d) (linked store first other d interval) store)
      ∙ connect_unless first other d (is_made store.made first && is_made store.made other) refl
  direct_unless (remove_connection_call n d) =
      first_test changed_number (is_made store.made n) _ _ refl (λ h. not_opened n d h (side_of (store_point store n) d) refl)
  direct_unless (remove_edge_condition_call n d) =
      first_test changed_number (is_made store.made n) _ _ refl
      (λ h. cond_case (is_border (side_of (store_point store n) d)) NotEleven _ _ (λ b. refl) (λ b. refl))
  direct_unless (set_edge_con_weight_call n d weight) =
      first_test changed_number (is_made store.made n) _ _ refl (λ h. not_weighted n d weight (side_of (store_point store n) d))
  direct_unless (set_knot_coordinates_call n s t) =
      first_test changed_number (is_made store.made n) _ _ refl
      (λ h. cond_case (all_borders (store_point store n)) NotEleven _ _ (λ b. refl) (λ b. refl))
  direct_unless (navigate_until_con_call start travel watch) = walk_unless start travel watch (is_made store.made start) refl
  direct_unless (read_side_call n d) = side_unless n d (is_made store.made n) refl
  direct_unless (read_point_call n) = point_unless n (is_made store.made n) refl

unless_unmade : (map : Tmesh) → SoundMesh map.mesh → (e : Float) (call : MapCall) → Unless (points_made map call) (number_to e map call)
unless_unmade map sound e (entry (insertion withdraws con d ratio position)) =
    answer_not (add_control_point e map con d ratio position).answer (insertion_known map sound e con d ratio position)
unless_unmade map sound e (entry (evaluation s t)) = evaluation_not (subs_of e map s t).answer (evaluation_known map sound e s t)
unless_unmade map sound e (entry (set_point_call s t)) =
    set_point_case e map s t (λ given. eqb (evaluation_number given.answer) 11 ≡ false) (λ _. weighed_not (subs_of e map s t).answer (evaluation_known map sound e s t)) (λ _. refl)
unless_unmade map sound e (entry (question cell)) = question_not (cell_points e map cell).answer (question_known map sound e cell)
unless_unmade map sound e (entry (pulling n pull)) =
    setting_case map n pull (λ (set : Pulled). Unless (is_made (store_of map).made n) (outcome_number set.outcome))
    (λ unmade. sym (ap not unmade))
    (λ made _. sym (ap not made))
    (λ made _. sym (ap not made))
unless_unmade map sound e generate_knot_vectors_call = outcome_not (generate_knot_vectors e map).outcome (generation_known map sound e)
unless_unmade map sound e (point_knot_vectors_call n) = knots_unless (store_of map) sound.sound e n (is_made (store_of map).made n) refl
unless_unmade map sound e (cast_ray_call n d buffer) = ray_unless (store_of map) sound.sound e n d (length buffer) (is_made (store_of map).made n) refl
unless_unmade map sound e (direct call) = direct_unless (store_of map) sound.sound call

pub no_point_never : NoPointNever
no_point_never =
    of_sound MeetsPoints
    (λ map sound.
    record {
      answers = unless_unmade map sound;
      seeks = λ e con d ratio position passes. insertion_seeks map sound e con d ratio position passes;
    })
