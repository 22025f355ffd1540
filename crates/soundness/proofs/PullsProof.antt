-- The theorems of Pulls. A point is made with the pull 1.0, and the places of numbers not made have it too; only a setting that is done stores another, in the place of a made number, which
-- stays made. So each call moves a pull as `call_pull` says, and the theorems on 1.0 are read off the last one set, or off what is not made. No definition but the evaluation's value reads a pull.
use Prim.Native.Nat.{ℕ, zero, suc, ◌+◌, ◌≤◌, ◌<◌}
use Rattle.std.specs.Prelude.{◌≡◌, Bool, cond, ◌&&◌, eqb, ltb, Float, length, get_or, set, Err, Ok, Result, ⊤}
use Rattle.std.proofs.Math.Path.{refl, sym, ap, subst}
use Rattle.std.proofs.Common.{◌∙◌, arith, eqb-true, ltb-false, get_or-set_same, get_or-set_other}
use Rattle.std.proofs.Math.Bool.{true, false}
use Rattle.std.proofs.lemmas.Bool.{false≢true, eqb-false}
use mathlib.Core.List.{List, [], ◌∷◌}
use mathlib.Core.List as Lists
use Rattle.std.proofs.Math.ListN.{length-set}
use Rattle.std.proofs.lemmas.List.{get_or-replicate}
use Rattle.float64.specs.Literals.{one_literal}
use Rattle.control_point.proofs.PointLaws.{is_made_made, is_made_room}
use Rattle.control_point.specs.Point.{is_made}
use Rattle.control_point.specs.Told.{outcome_told, outcome_number}
use Rattle.control_point.specs.declared.t_mesh_direction.TmeshDirection.{TmeshDirection}
use Rattle.ray.specs.declared.knots.PointKnots.{PointKnots}
use Rattle.store.specs.declared.store.Store.{Store}
use Rattle.counting.proofs.BoolLaws.{cond_case, and_both}
use Rattle.insertion.specs.Insert.{is_refused, insert_point}
use Rattle.insertion.specs.Withdrawal.{is_withdrawn}
use Rattle.insertion.specs.declared.insertion.Insertion.TheVariants.{Done as Added, Torn}
use Rattle.t_mesh.specs.Insertion.{with_placed, after_insertion, add_control_point}
use Rattle.t_mesh.specs.Tmesh.{unpulled, no_place, place_under, pull_of, store_of, is_listed, origin, new_tmesh}
use Rattle.t_mesh.specs.declared.t_mesh.Mesh.{Mesh}
use Rattle.t_mesh.specs.declared.t_mesh.Place.{Place}
use Rattle.t_mesh.specs.declared.t_mesh.Position.{Position}
use Rattle.t_mesh.specs.declared.t_mesh.Tmesh.{Tmesh}
use Rattle.pull.specs.Pull.{repulled, set_pull}
use Rattle.pull.specs.declared.Pulled.{Pulled}
use Rattle.knot_vectors.specs.Knots.{AllKnots, all, none, on_all, with_row, rows_from, all_knots, keeping, generate_knot_vectors}
use Rattle.surface.specs.Evaluation.{with_knots, subs_of}
use Rattle.surface.proofs.EvaluationLaws.{generated_mesh, ready_mesh}
use Rattle.surface.proofs.PlainProof.{unpulled_is_plain}
use Rattle.surface.proofs.SetPointLaws.{set_point_leaves, both_set_points}
use Rattle.grid_index.specs.Index.{cell_of}
use Rattle.grid_index.specs.declared.Index.{Index}
use Rattle.cells.specs.Cells.{cell_answer_by, cell_told, cell_points}
use Rattle.calls.specs.Calls.{insertion, evaluation, set_point_call, question, pulling}
use Rattle.calls.proofs.ListLaws.{set_case}
use Rattle.calls.proofs.PullingLaws.{setting_case, pulled_case}
use Rattle.calls.proofs.WithdrawalLaws.{by_either_rule}
use Rattle.soundness.proofs.DirectLaws.{call_grows}
use Rattle.soundness.proofs.EveryMapProof.{of_sound}
use Rattle.soundness.proofs.FreshLaws.{sound_fresh}
use Rattle.soundness.proofs.InsertionLaws.{Grown}
use Rattle.soundness.specs.MapCalls.{MapCall, entry, generate_knot_vectors_call, point_knot_vectors_call, cast_ray_call, direct, after_call, map_after_all, told_to, number_to}
use Rattle.soundness.proofs.MapLaws.{SoundMesh, insertion_grown, sound_call}
use Rattle.soundness.specs.Pulls.{entry_pull, call_pull, last_pull, PullIsLastSet, NeverSet, UnsetPullIsOne, UnmadePullIsOne, OnesSet, OnesArePlain, all_unpulled, sets_pull, evaluates, without_settings, PullsUnseen, PullsUntold}
use Rattle.soundness.specs.Theorems.{EveryMap}
use Rattle.control_point.specs.declared.refusal.Refusal.{Refusal}
use Rattle.insertion.specs.declared.insertion.Insertion.{Insertion}

-- ---- the last one set
-- a place for each number below 128, and the pull 1.0 for each that is not made
record Unmade (mesh : Mesh) : Type 0 where
  room : length mesh.places ≡ 128
  ones : (n : ℕ) → mesh.made ≤ n → n < 128 → (get_or mesh.places n no_place).pull ≡ one_literal

abbrev PullsOne : Place → Type 0
PullsOne place = place.pull ≡ one_literal

-- the pull at a number after a store of another pull at a number
stored_pull : (places : List Place) (m : ℕ) (pull : Float) (n : ℕ) → m < length places → (b : Bool) → eqb n m ≡ b
    → (get_or (set places m (repulled (get_or places m no_place) pull)) n no_place).pull ≡ cond (b && true) pull (get_or places n no_place).pull
stored_pull places m pull n h true is =
    ap (λ (k : ℕ). (get_or (set places m (repulled (get_or places m no_place) pull)) k no_place).pull) (eqb-true n m is)
    ∙ ap (λ (place : Place). place.pull) (get_or-set_same places m (repulled (get_or places m no_place) pull) no_place h)
stored_pull places m pull n h false is =
    ap (λ (place : Place). place.pull) (get_or-set_other places m n (repulled (get_or places m no_place) pull) no_place (eqb-false n m is))

-- refused, none is set
none_set : (b : Bool) (pull before : Float) → before ≡ cond (b && false) pull before
none_set true pull before = refl
none_set false pull before = refl

module _ (map : Tmesh) (sound : SoundMesh map.mesh) (unmade : Unmade map.mesh) (e : Float) where
  -- ---- an insertion
  placed_ones : (position : Position) (n : ℕ) → map.mesh.made ≤ n → n < 128 → PullsOne (get_or (set map.mesh.places map.mesh.made (unpulled position)) n no_place)
  placed_ones position n h below = set_case PullsOne map.mesh.places map.mesh.made n (unpulled position) no_place refl (unmade.ones n h below)

  -- the number that it makes had the pull 1.0
  placed_pull : (position : Position) (n : ℕ) → n < 128 → (b : Bool) → eqb n map.mesh.made ≡ b
      → (get_or (set map.mesh.places map.mesh.made (unpulled position)) n no_place).pull ≡ pull_of map n
  placed_pull position n below true is =
      let next = eqb-true n map.mesh.made is in placed_ones position n (omega (arith, next)) below ∙ sym (unmade.ones n (omega (arith, next)) below)
  placed_pull position n below false is =
      ap (λ (place : Place). place.pull) (get_or-set_other map.mesh.places map.mesh.made n (unpulled position) no_place (eqb-false n map.mesh.made is))

  after_pull_lem : (position : Position) (answer : Result Insertion Refusal) (store : Store) (n : ℕ) → n < 128 → pull_of (after_insertion map position answer store) n ≡ pull_of map n
  after_pull_lem position (Ok (Added opened inferred)) store n below = placed_pull position n below (eqb n map.mesh.made) refl
  after_pull_lem position (Ok (Torn opened inferred)) store n below = placed_pull position n below (eqb n map.mesh.made) refl
  after_pull_lem position (Err refusal) store n below = refl

  placed_unmade : (position : Position) (lists : Bool) (store : Store) → Grown (store_of map) store
      → Unmade (with_placed map.mesh store map.mesh.made position lists)
  placed_unmade position lists store grown =
      record {
        room = length-set map.mesh.places map.mesh.made (unpulled position) ∙ unmade.room;
        ones = λ n h below. placed_ones position n (omega (arith, h, grown.made_is)) below;
      }

  after_unmade : (position : Position) (answer : Result Insertion Refusal) (store : Store) → (is_refused answer ≡ false → Grown (store_of map) store)
      → Unmade (after_insertion map position answer store).mesh
  after_unmade position (Ok (Added opened inferred)) store grown = placed_unmade position true store (grown refl)
  after_unmade position (Ok (Torn opened inferred)) store grown = placed_unmade position false store (grown refl)
  after_unmade position (Err refusal) store grown = unmade

  module _ (con : ℕ) (d : TmeshDirection) (ratio : Float) (position : Position) where
    insertion_pull : (n : ℕ) → n < 128 → pull_of (add_control_point e map con d ratio position).map n ≡ pull_of map n
    unfolding add_control_point
    insertion_pull n below = let result = insert_point e (store_of map) (is_listed map con) con d ratio in after_pull_lem position result.answer result.store n below

    insertion_unmade : Unmade (add_control_point e map con d ratio position).map.mesh
    unfolding add_control_point
    insertion_unmade =
        let result = insert_point e (store_of map) (is_listed map con) con d ratio in
        after_unmade position result.answer result.store (insertion_grown map sound e con d ratio)

  -- ---- any call
  pull_call : (call : MapCall) (n : ℕ) → n < 128 → pull_of (after_call e map call) n ≡ call_pull e map call n (pull_of map n)
  unfolding subs_of cell_points
  pull_call (entry (insertion withdraws con d ratio position)) n below =
      by_either_rule (λ after. pull_of after n ≡ pull_of map n) withdraws e map con d ratio position refl (insertion_pull con d ratio position n below)
  pull_call (entry (evaluation s t)) n below = ap (λ (mesh : Mesh). (get_or mesh.places n no_place).pull) (ready_mesh e map)
  pull_call (entry (set_point_call s t)) n below =
      set_point_leaves e map s t (λ after. pull_of after n ≡ pull_of map n) refl (ap (λ (mesh : Mesh). (get_or mesh.places n no_place).pull) (ready_mesh e map))
  pull_call (entry (question cell)) n below = ap (λ (mesh : Mesh). (get_or mesh.places n no_place).pull) (ready_mesh e map)
  pull_call (entry (pulling m pull)) n below =
      setting_case map m pull (λ (set : Pulled). pull_of set.map n ≡ entry_pull (outcome_number set.outcome) (pulling m pull) n (pull_of map n))
      (λ _. none_set (eqb n m) pull (pull_of map n))
      (λ _ _. none_set (eqb n m) pull (pull_of map n))
      (λ made _. stored_pull map.mesh.places m pull n (omega (arith, is_made_room map.mesh.made m made, unmade.room)) (eqb n m) refl)
  pull_call generate_knot_vectors_call n below = ap (λ (mesh : Mesh). (get_or mesh.places n no_place).pull) (generated_mesh e map)
  pull_call (point_knot_vectors_call m) n below = refl
  pull_call (cast_ray_call m d buffer) n below = refl
  pull_call (direct call) n below = refl

  unmade_call : (call : MapCall) → Unmade (after_call e map call).mesh
  unfolding subs_of cell_points
  unmade_call (entry (insertion withdraws con d ratio position)) =
      by_either_rule (λ after. Unmade after.mesh) withdraws e map con d ratio position unmade (insertion_unmade con d ratio position)
  unmade_call (entry (evaluation s t)) = subst Unmade (sym (ready_mesh e map)) unmade
  unmade_call (entry (set_point_call s t)) = set_point_leaves e map s t (λ after. Unmade after.mesh) unmade (subst Unmade (sym (ready_mesh e map)) unmade)
  unmade_call (entry (question cell)) = subst Unmade (sym (ready_mesh e map)) unmade
  unmade_call (entry (pulling m pull)) =
      pulled_case map m pull (λ after. Unmade after.mesh) unmade
      (λ made _.
      record {
        room = length-set map.mesh.places m (repulled (place_under map m) pull) ∙ unmade.room;
        ones = λ n h room.
            ap (λ (place : Place). place.pull)
            (get_or-set_other map.mesh.places m n (repulled (place_under map m) pull) no_place
            (λ same. let below = is_made_made map.mesh.made m made in omega (arith, same, h, below)))
            ∙ unmade.ones n h room;
      })
  unmade_call generate_knot_vectors_call = subst Unmade (sym (generated_mesh e map)) unmade
  unmade_call (point_knot_vectors_call m) = unmade
  unmade_call (cast_ray_call m d buffer) = unmade
  unmade_call (direct call) =
      record { room = unmade.room; ones = λ n h below. unmade.ones n (let more = call_grows (store_of map) call in omega (arith, h, more)) below }

-- ---- every list
pull_list : (e : Float) (calls : List MapCall) (map : Tmesh) → SoundMesh map.mesh → Unmade map.mesh → (n : ℕ) → n < 128
    → pull_of (map_after_all e map calls) n ≡ last_pull e map calls n (pull_of map n)
unfolding map_after_all last_pull
pull_list e [] map sound unmade n below = refl
pull_list e (call ∷ calls) map sound unmade n below =
    pull_list e calls (after_call e map call) (sound_call map sound e call) (unmade_call map sound unmade e call) n below
    ∙ ap (last_pull e (after_call e map call) calls n) (pull_call map sound unmade e call n below)

unmade_list : (e : Float) (calls : List MapCall) (map : Tmesh) → SoundMesh map.mesh → Unmade map.mesh → Unmade (map_after_all e map calls).mesh
unfolding map_after_all
unmade_list e [] map sound unmade = unmade
unmade_list e (call ∷ calls) map sound unmade = unmade_list e calls (after_call e map call) (sound_call map sound e call) (unmade_call map sound unmade e call)

module _ (weight : Float) (at_bottom_left at_bottom_right at_top_right at_top_left : Position) where
  fresh_ones : (n : ℕ) → n < 128 → pull_of (new_tmesh weight at_bottom_left at_bottom_right at_top_right at_top_left) n ≡ one_literal
  unfolding new_tmesh
  fresh_ones zero below = refl
  fresh_ones (suc zero) below = refl
  fresh_ones (suc (suc zero)) below = refl
  fresh_ones (suc (suc (suc zero))) below = refl
  fresh_ones (suc (suc (suc (suc n)))) below =
      ap (λ (place : Place). place.pull) (get_or-replicate 124 n (unpulled origin) no_place (omega (arith, below)))

  fresh_room : length (new_tmesh weight at_bottom_left at_bottom_right at_top_right at_top_left).mesh.places ≡ 128
  unfolding new_tmesh
  fresh_room = refl

  fresh_unmade : Unmade (new_tmesh weight at_bottom_left at_bottom_right at_top_right at_top_left).mesh
  fresh_unmade = record { room = fresh_room; ones = λ n _ below. fresh_ones n below }

pub pull_is_last_set : PullIsLastSet
pull_is_last_set e weight at_bottom_left at_bottom_right at_top_right at_top_left calls n below =
    let fresh = new_tmesh weight at_bottom_left at_bottom_right at_top_right at_top_left in
    pull_list e calls fresh (sound_fresh weight at_bottom_left at_bottom_right at_top_right at_top_left) (fresh_unmade weight at_bottom_left at_bottom_right at_top_right at_top_left) n below
    ∙ ap (last_pull e fresh calls n) (fresh_ones weight at_bottom_left at_bottom_right at_top_right at_top_left n below)

-- a number of the 128 that is not made is not below the count of those that are
unmade_above : (made n : ℕ) → n < 128 → is_made made n ≡ false → made ≤ n
unfolding is_made
unmade_above made n below not_made = by_test (ltb n made) refl not_made
  where
    by_test : (b : Bool) → ltb n made ≡ b → (b && ltb n 128) ≡ false → made ≤ n
    by_test true is h = let at_most = ltb-false n 128 h in absurd (omega (arith, below, at_most))
    by_test false is h = ltb-false n made is

pub unmade_pull_is_one : UnmadePullIsOne
unmade_pull_is_one e weight at_bottom_left at_bottom_right at_top_right at_top_left calls n below not_made =
    let fresh = new_tmesh weight at_bottom_left at_bottom_right at_top_right at_top_left in
    (unmade_list e calls fresh (sound_fresh weight at_bottom_left at_bottom_right at_top_right at_top_left) (fresh_unmade weight at_bottom_left at_bottom_right at_top_right at_top_left)).ones n
    (unmade_above (store_of (map_after_all e fresh calls)).made n below not_made)
    below

-- ---- where each that is set for a number is 1.0
abbrev OnesFor : Float → Tmesh → List MapCall → ℕ → Type 0
OnesFor e map [] n = Unit {0}
OnesFor e map (call ∷ rest) n =
    ((pull : Float) → call ≡ entry (pulling n pull) → number_to e map call ≡ 0 → pull ≡ one_literal) × OnesFor e (after_call e map call) rest n

module _ (e : Float) (n : ℕ) where
  call_one : (map : Tmesh) (call : MapCall) (before : Float) → before ≡ one_literal
      → ((pull : Float) → call ≡ entry (pulling n pull) → number_to e map call ≡ 0 → pull ≡ one_literal) → call_pull e map call n before ≡ one_literal
  call_one map (entry (insertion withdraws con d ratio position)) before one h = one
  call_one map (entry (evaluation s t)) before one h = one
  call_one map (entry (set_point_call s t)) before one h = one
  call_one map (entry (question cell)) before one h = one
  call_one map (entry (pulling m pull)) before one h =
      let number = number_to e map (entry (pulling m pull)) in
      cond_case (eqb n m && eqb number 0) (λ (now : Float). now ≡ one_literal) pull before
      (λ sets.
      let both = and_both (eqb n m) (eqb number 0) sets in
      h pull (ap (λ (k : ℕ). entry (pulling k pull)) (sym (eqb-true n m both.0))) (eqb-true number 0 both.1))
      (λ _. one)
  call_one map generate_knot_vectors_call before one h = one
  call_one map (point_knot_vectors_call m) before one h = one
  call_one map (cast_ray_call m d buffer) before one h = one
  call_one map (direct call) before one h = one

  last_one : (calls : List MapCall) (map : Tmesh) (before : Float) → before ≡ one_literal → OnesFor e map calls n → last_pull e map calls n before ≡ one_literal
  unfolding last_pull
  last_one [] map before one h = one
  last_one (call ∷ rest) map before one h =
      last_one rest (after_call e map call) (call_pull e map call n before) (call_one map call before one h.0) h.1

  never_ones : (calls : List MapCall) (map : Tmesh) → NeverSet e map calls n → OnesFor e map calls n
  never_ones [] map h = tt
  never_ones (call ∷ rest) map h = ((λ pull is done. absurd (h.0 pull is done)), never_ones rest (after_call e map call) h.1)

  all_ones : (calls : List MapCall) (map : Tmesh) → OnesSet e map calls → OnesFor e map calls n
  all_ones [] map h = tt
  all_ones (call ∷ rest) map h = (h.0 n, all_ones rest (after_call e map call) h.1)

pub unset_pull_is_one : UnsetPullIsOne
unset_pull_is_one e weight at_bottom_left at_bottom_right at_top_right at_top_left calls n below h =
    let fresh = new_tmesh weight at_bottom_left at_bottom_right at_top_right at_top_left in
    pull_is_last_set e weight at_bottom_left at_bottom_right at_top_right at_top_left calls n below ∙ last_one e n calls fresh one_literal refl (never_ones e n calls fresh h)

-- a listed number is below 128
abbrev ListedBelow : Tmesh → Type 0
ListedBelow map = (n : ℕ) → is_listed map n ≡ true → n < 128

listed_room : EveryMap ListedBelow
listed_room = of_sound ListedBelow (λ map sound n listed. omega (arith, sound.listed_made n listed, sound.sound.fits))

pub ones_are_plain : OnesArePlain
ones_are_plain e weight at_bottom_left at_bottom_right at_top_right at_top_left calls h closeness s t =
    let fresh = new_tmesh weight at_bottom_left at_bottom_right at_top_right at_top_left in
    unpulled_is_plain closeness (map_after_all e fresh calls) s t
    (λ n listed.
    pull_is_last_set e weight at_bottom_left at_bottom_right at_top_right at_top_left calls n (listed_room e weight at_bottom_left at_bottom_right at_top_right at_top_left calls n listed)
    ∙ last_one e n calls fresh one_literal refl (all_ones e n calls fresh h))

-- ---- what does not see them
-- places with every pull 1.0
abbrev unpulled_all : List Place → List Place
unpulled_all = Lists.map (λ (place : Place). unpulled place.position)

unpulled_twice : (places : List Place) → unpulled_all places ≡ unpulled_all (unpulled_all places)
unpulled_twice [] = refl
unpulled_twice (place ∷ places) = ap (λ (rest : List Place). unpulled place.position ∷ rest) (unpulled_twice places)

unpulled_set : (places : List Place) (n : ℕ) (place : Place) → unpulled_all (set places n place) ≡ unpulled_all (set (unpulled_all places) n place)
unpulled_set [] n place = refl
unpulled_set (first ∷ places) zero place = ap (λ (rest : List Place). unpulled place.position ∷ rest) (unpulled_twice places)
unpulled_set (first ∷ places) (suc n) place = ap (λ (rest : List Place). unpulled first.position ∷ rest) (unpulled_set places n place)

unpulled_repulled : (places : List Place) (n : ℕ) (pull : Float) → unpulled_all (set places n (repulled (get_or places n no_place) pull)) ≡ unpulled_all places
unpulled_repulled [] n pull = refl
unpulled_repulled (first ∷ places) zero pull = refl
unpulled_repulled (first ∷ places) (suc n) pull = ap (λ (rest : List Place). unpulled first.position ∷ rest) (unpulled_repulled places n pull)

-- a map with other places
abbrev with_places : Tmesh → List Place → Tmesh
with_places map places =
    record {
      mesh = record { points = map.mesh.points; made = map.mesh.made; places = places; listed = map.mesh.listed };
      kept = map.kept;
      knots = map.knots;
      index = map.index;
    }

same_unpulled : (map : Tmesh) → all_unpulled map ≡ all_unpulled (all_unpulled map)
same_unpulled map = ap (with_places map) (unpulled_twice map.mesh.places)

module _ (e : Float) where
  module _ (map : Tmesh) where
    -- what a building reads
    on_same : (so_far : AllKnots) (next next' : List PointKnots → AllKnots) → ((rows : List PointKnots) → next rows ≡ next' rows) → on_all so_far next ≡ on_all so_far next'
    on_same (all rows) next next' same = same rows
    on_same (none refusal) next next' same = refl

    rows_unseen : (left n : ℕ) (rows : List PointKnots) → rows_from e map left n rows ≡ rows_from e (all_unpulled map) left n rows
    unfolding rows_from
    rows_unseen zero n rows = refl
    rows_unseen (suc left) n rows = on_same (with_row e map n rows) _ _ (λ filled. rows_unseen left (n + 1) filled)

    keeping_unseen : (rows : AllKnots) → all_unpulled (keeping map rows).map ≡ all_unpulled (keeping (all_unpulled map) rows).map
    keeping_unseen (all rows) = ap (with_places (keeping map (all rows)).map) (unpulled_twice map.mesh.places)
    keeping_unseen (none refusal) = same_unpulled map

    generated_unseen : all_unpulled (generate_knot_vectors e map).map ≡ all_unpulled (generate_knot_vectors e (all_unpulled map)).map
    unfolding generate_knot_vectors all_knots
    generated_unseen =
        keeping_unseen (rows_from e map 128 0 map.knots)
        ∙ ap (λ (rows : AllKnots). all_unpulled (keeping (all_unpulled map) rows).map) (rows_unseen 128 0 map.knots)

    ready_unseen : all_unpulled (with_knots e map).map ≡ all_unpulled (with_knots e (all_unpulled map)).map
    unfolding with_knots
    ready_unseen = by_kept map.kept
      where
        by_kept : (kept : Bool)
            → all_unpulled (cond kept (record { outcome = Ok tt; map = map }) (generate_knot_vectors e map)).map
            ≡ all_unpulled (cond kept (record { outcome = Ok tt; map = all_unpulled map }) (generate_knot_vectors e (all_unpulled map))).map
        by_kept true = same_unpulled map
        by_kept false = generated_unseen

    -- what is told of it
    outcome_same : (rows : AllKnots) → (keeping map rows).outcome ≡ (keeping (all_unpulled map) rows).outcome
    outcome_same (all rows) = refl
    outcome_same (none refusal) = refl

    generated_told : (generate_knot_vectors e map).outcome ≡ (generate_knot_vectors e (all_unpulled map)).outcome
    unfolding generate_knot_vectors all_knots
    generated_told =
        outcome_same (rows_from e map 128 0 map.knots)
        ∙ ap (λ (rows : AllKnots). (keeping (all_unpulled map) rows).outcome) (rows_unseen 128 0 map.knots)

    ready_told : (with_knots e map).outcome ≡ (with_knots e (all_unpulled map)).outcome
    unfolding with_knots
    ready_told = by_kept map.kept
      where
        by_kept : (kept : Bool)
            → (cond kept (record { outcome = Ok tt; map = map }) (generate_knot_vectors e map)).outcome
            ≡ (cond kept (record { outcome = Ok tt; map = all_unpulled map }) (generate_knot_vectors e (all_unpulled map))).outcome
        by_kept true = refl
        by_kept false = generated_told

    -- what an insertion reads
    inserted_unseen : (withdrawn : Bool) (position : Position) (answer : Result Insertion Refusal) (store : Store)
        → all_unpulled (cond withdrawn map (after_insertion map position answer store))
        ≡ all_unpulled (cond withdrawn (all_unpulled map) (after_insertion (all_unpulled map) position answer store))
    inserted_unseen true position answer store = same_unpulled map
    inserted_unseen false position (Ok (Added opened inferred)) store =
        ap (with_places (after_insertion map position (Ok (Added opened inferred)) store)) (unpulled_set map.mesh.places map.mesh.made (unpulled position))
    inserted_unseen false position (Ok (Torn opened inferred)) store =
        ap (with_places (after_insertion map position (Ok (Torn opened inferred)) store)) (unpulled_set map.mesh.places map.mesh.made (unpulled position))
    inserted_unseen false position (Err refusal) store = same_unpulled map

    -- but for the pulls, a call leaves what it leaves where each is 1.0, and a setting of one what stood before it
    call_unseen : (call : MapCall)
        → all_unpulled (after_call e map call) ≡ cond (sets_pull call) (all_unpulled map) (all_unpulled (after_call e (all_unpulled map) call))
    unfolding add_control_point subs_of cell_points
    call_unseen (entry (insertion withdraws con d ratio position)) =
        let result = insert_point e (store_of map) (is_listed map con) con d ratio in
        inserted_unseen (is_withdrawn withdraws result.answer) position result.answer result.store
    call_unseen (entry (evaluation s t)) = ready_unseen
    call_unseen (entry (set_point_call s t)) =
        both_set_points e e map (all_unpulled map) s t (λ given bare. all_unpulled given.map ≡ all_unpulled bare.map) ready_unseen (same_unpulled map)
    call_unseen (entry (question cell)) = ready_unseen
    call_unseen (entry (pulling n pull)) =
        pulled_case map n pull (λ after. all_unpulled after ≡ all_unpulled map) refl (λ _ _. ap (with_places map) (unpulled_repulled map.mesh.places n pull))
    call_unseen generate_knot_vectors_call = generated_unseen
    call_unseen (point_knot_vectors_call n) = same_unpulled map
    call_unseen (cast_ray_call n d buffer) = same_unpulled map
    call_unseen (direct call) = ap (with_places (after_call e map (direct call))) (unpulled_twice map.mesh.places)

    call_told_lem : (call : MapCall) → evaluates call ≡ false → told_to e map call ≡ told_to e (all_unpulled map) call
    unfolding add_control_point cell_points set_pull
    call_told_lem (entry (insertion withdraws con d ratio position)) other = refl
    call_told_lem (entry (evaluation s t)) other = absurd (false≢true (sym other))
    call_told_lem (entry (set_point_call s t)) other = absurd (false≢true (sym other))
    call_told_lem (entry (question cell)) other =
        ap (λ (outcome : Result ⊤ Refusal). cell_told (cell_answer_by outcome (cell_of (with_knots e map).map.index cell))) ready_told
        ∙ ap (λ (index : Index). cell_told (cell_answer_by (with_knots e (all_unpulled map)).outcome (cell_of index cell))) (ap (λ (bare : Tmesh). bare.index) ready_unseen)
    call_told_lem (entry (pulling n pull)) other = refl
    call_told_lem generate_knot_vectors_call other = ap outcome_told generated_told
    call_told_lem (point_knot_vectors_call n) other = refl
    call_told_lem (cast_ray_call n d buffer) other = refl
    call_told_lem (direct call) other = refl

    by_kind : (call : MapCall) (sets : Bool) → sets_pull call ≡ sets
        → all_unpulled (after_call e map call) ≡ cond sets (all_unpulled map) (all_unpulled (after_call e (all_unpulled map) call))
    by_kind call sets is =
        call_unseen call ∙ ap (λ (b : Bool). cond b (all_unpulled map) (all_unpulled (after_call e (all_unpulled map) call))) is

  -- two maps that are the same but for the places, and the second list without its settings
  list_unseen : (calls : List MapCall) (one other : Tmesh) → all_unpulled one ≡ all_unpulled other
      → all_unpulled (map_after_all e one calls) ≡ all_unpulled (map_after_all e other (without_settings calls))
  unfolding map_after_all without_settings
  list_unseen [] one other same = same
  list_unseen (call ∷ rest) one other same =
      cond_case (sets_pull call) (λ (calls : List MapCall). all_unpulled (map_after_all e (after_call e one call) rest) ≡ all_unpulled (map_after_all e other calls)) _ _
      (λ sets. list_unseen rest (after_call e one call) other (by_kind one call true sets ∙ same))
      (λ not.
      list_unseen rest (after_call e one call) (after_call e other call)
      (by_kind one call false not ∙ ap (λ (bare : Tmesh). all_unpulled (after_call e bare call)) same ∙ sym (by_kind other call false not)))

pub pulls_unseen : PullsUnseen
pulls_unseen e map calls = list_unseen e calls map map refl

pub pulls_untold : PullsUntold
pulls_untold e map call other = call_told_lem e map call other
