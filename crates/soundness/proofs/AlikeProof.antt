-- The theorems of Alike: no definition of insertion, knots, index or weight reads a position. A building fills each listed point's row, so what stood in it and what stands in
-- the others makes no difference; and the index is that of the listing and the listed rows (KeptLaws), so it is the same where these are.
use Prim.Native.Nat.{ℕ, zero, suc, ◌+◌, ◌<◌}
use Rattle.std.specs.Prelude.{◌≡◌, Bool, cond, ◌&&◌, eqb, Float, length, get_or, Err, Ok, Result, ⊤}
use Rattle.std.proofs.Math.Path.{refl, sym, ap, ap₂, subst}
use Rattle.std.proofs.Common.{◌∙◌, arith, eqb-true, length-set, get_or-set_same, get_or-set_other}
use Rattle.std.proofs.Math.Bool.{true, false}
use Rattle.std.proofs.lemmas.Bool.{false≢true, eqb-false}
use mathlib.Core.List.{List, [], ◌∷◌, map}
use Rattle.std.specs.Float.{nan, inf}
use Rattle.std.specs.Float.Ieee.{lt}
use Rattle.std.proofs.Math.ListN.{set}
use Rattle.float64.specs.Literals.{zero_literal, one_literal}
use Rattle.control_point.specs.Told.{Told, outcome_told}
use Rattle.control_point.specs.declared.refusal.Refusal.TheVariants.{NoWeight}
use Rattle.control_point.specs.declared.t_mesh_direction.TmeshDirection.{TmeshDirection}
use Rattle.store.specs.declared.store.Store.{Store}
use Rattle.mirror.specs.Calls.{call_store, call_told}
use Rattle.ray.specs.Knots.{point_knot_vectors, knots_told}
use Rattle.ray.specs.Ray.{cast_ray, cast_told}
use Rattle.ray.specs.declared.knots.PointKnots.{PointKnots}
use Rattle.grid_index.specs.Index.{no_knots, knots_in, cell_of}
use Rattle.grid_index.proofs.IndexLaws.{index_same}
use Rattle.grid_index.specs.declared.Cell.{Cell}
use Rattle.grid_index.specs.declared.Index.{Index}
use Rattle.insertion.specs.Insert.{insert_told, is_refused, insert_point}
use Rattle.insertion.specs.Withdrawal.{is_withdrawn}
use Rattle.insertion.specs.declared.insertion.Insertion.TheVariants.{Done as Added, Torn}
use Rattle.insertion.specs.declared.insertion.Inserted.{Inserted}
use Rattle.t_mesh.specs.Insertion.{after_insertion, answered, add_control_point, added_by, add_by_rule}
use Rattle.t_mesh.specs.Tmesh.{unpulled, no_place, place_under, pull_of, store_of, is_listed, new_tmesh}
use Rattle.t_mesh.specs.declared.t_mesh.Mesh.{Mesh}
use Rattle.t_mesh.specs.declared.t_mesh.Place.{Place}
use Rattle.t_mesh.specs.declared.t_mesh.Position.{Position}
use Rattle.t_mesh.specs.declared.t_mesh.Tmesh.{Tmesh}
use Rattle.knot_vectors.specs.Knots.{AllKnots, all, none, on_all, in_row, with_row, rows_from, all_knots, keeping, generate_knot_vectors}
use Rattle.knot_vectors.specs.declared.knots.Generated.{Generated}
use Rattle.pull.specs.Pull.{repulled, with_pull, pull_outcome, pulled_by, set_pull}
use Rattle.pull.specs.declared.Pulled.{Pulled}
use Rattle.surface.specs.Evaluation.{evaluation_told, evaluation_number, knots_of, weight_by, weight_of, total_weight, value_of, answer_by, with_knots, subs_of}
use Rattle.surface.specs.SetPoint.{weighty, where_weighty, weighed, set_point}
use Rattle.surface.proofs.SetPointLaws.{both_set_points}
use Rattle.surface.proofs.EvaluationLaws.{ready_mesh, total_alike as totals-agree}
use Rattle.surface.specs.declared.evaluation.Evaluation.{Evaluation}
use Rattle.cells.specs.Cells.{cell_told, cell_answer_by, cell_points}
use Rattle.calls.specs.Calls.{insertion, evaluation, set_point_call, question, pulling}
use Rattle.soundness.specs.Alike.{pulls_of, Alike, call_without, value_without, told_without, all_told_without, Same, AlikeMaps, AlikeLists}
use Rattle.soundness.proofs.InsertionLaws.{Grown}
use Rattle.soundness.proofs.KeptLaws.{SoundMap, ready, map_call, map_fresh, every_map_sound}
use Rattle.soundness.specs.MapCalls.{MapCall, entry, generate_knot_vectors_call, point_knot_vectors_call, cast_ray_call, direct, after_call, map_after_all}
use Rattle.soundness.proofs.MapLaws.{listing_torn, insertion_grown}
use Rattle.control_point.specs.declared.refusal.Refusal.{Refusal}
use Rattle.insertion.specs.declared.insertion.Insertion.{Insertion}

-- ---- the relation
listed_too : (one other : Tmesh) → Alike one other → (n : ℕ) → is_listed one n ≡ is_listed other n
listed_too one other alike n = ap (λ (listed : List Bool). get_or listed n false) alike.listing

itself : (one : Tmesh) → Alike one one
itself one = record { store = refl; listing = refl; pulls = refl; kept = refl; knots = λ _ _ _. refl }

turned : (one other : Tmesh) → Alike one other → Alike other one
turned one other alike =
    record {
      store = sym alike.store;
      listing = sym alike.listing;
      pulls = sym alike.pulls;
      kept = sym alike.kept;
      knots = λ kept n listed. sym (alike.knots (alike.kept ∙ kept) n (listed_too one other alike n ∙ listed));
    }

joined : (one other third : Tmesh) → Alike one other → Alike other third → Alike one third
joined one other third alike more =
    record {
      store = alike.store ∙ more.store;
      listing = alike.listing ∙ more.listing;
      pulls = alike.pulls ∙ more.pulls;
      kept = alike.kept ∙ more.kept;
      knots = λ kept n listed.
          alike.knots kept n listed ∙ more.knots (sym alike.kept ∙ kept) n (sym (listed_too one other alike n) ∙ listed);
    }

-- ---- pulls
-- with another place stored
pulls_with : (places : List Place) (n : ℕ) (place : Place) → map (λ (own : Place). own.pull) (set places n place) ≡ set (map (λ (own : Place). own.pull) places) n place.pull
pulls_with [] n place = refl
pulls_with (p ∷ places) zero place = refl
pulls_with (p ∷ places) (suc n) place = ap (λ (pulls : List Float). p.pull ∷ pulls) (pulls_with places n place)

-- at a number
pull_at : (places : List Place) (n : ℕ) → get_or (map (λ (own : Place). own.pull) places) n nan ≡ (get_or places n no_place).pull
pull_at [] n = refl
pull_at (p ∷ places) zero = refl
pull_at (p ∷ places) (suc n) = pull_at places n

pulls_too : (one other : Tmesh) → Alike one other → (n : ℕ) → pull_of one n ≡ pull_of other n
pulls_too one other alike n =
    sym (pull_at one.mesh.places n) ∙ ap (λ (pulls : List Float). get_or pulls n nan) alike.pulls ∙ pull_at other.mesh.places n

-- ---- what is told of an evaluation, a set-point and a question, by the outcome of the building
value_told_lem : (outcome : Result ⊤ Refusal) (value also : Evaluation) → (outcome ≡ Ok tt → value.weight ≡ also.weight)
    → value_without (answer_by outcome value) ≡ value_without (answer_by outcome also)
value_told_lem (Ok tt) value also same =
    ap (λ (weight : Float). Ok (record { x = zero_literal; y = zero_literal; z = zero_literal; weight = weight })) (same refl)
value_told_lem (Err refusal) value also same = refl

-- a set-point is refused by the weight alone
weighed_told : (outcome : Result ⊤ Refusal) (value also : Evaluation) → (outcome ≡ Ok tt → value.weight ≡ also.weight)
    → value_without (weighed (answer_by outcome value)) ≡ value_without (weighed (answer_by outcome also))
unfolding where_weighty
weighed_told (Ok tt) value also same =
    ap (λ (weight : Float). value_without (cond (lt zero_literal weight && lt weight (inf false)) (Ok value) (Err NoWeight))) (same refl)
    ∙ by_weight (weighty also)
  where
    by_weight : (b : Bool) → value_without (cond b (Ok value) (Err NoWeight)) ≡ value_without (cond b (Ok also) (Err NoWeight))
    by_weight true = value_told_lem (Ok tt) value also same
    by_weight false = refl
weighed_told (Err refusal) value also same = refl

number_without : (answer : Result Evaluation Refusal) → evaluation_number (value_without answer) ≡ evaluation_number answer
number_without (Ok value) = refl
number_without (Err refusal) = refl

words_same : (outcome : Result ⊤ Refusal) (words also : Cell) → (outcome ≡ Ok tt → words ≡ also) → cell_answer_by outcome words ≡ cell_answer_by outcome also
words_same (Ok tt) words also same = ap (cell_answer_by (Ok tt)) (same refl)
words_same (Err refusal) words also same = refl

-- ---- two maps that are alike
module _ (one other : Tmesh) (sound : SoundMap one) (sound' : SoundMap other) (alike : Alike one other) where
  listed_room : (n : ℕ) → is_listed one n ≡ true → n < 128
  listed_room n listed = omega (arith, sound.mesh.listed_made n listed, sound.mesh.sound.fits)

  -- ---- a building
  -- rows of both, of which those of listed points below n agree
  record Agree (n : ℕ) (rows rows' : List PointKnots) : Type 0 where
    pub room : length rows ≡ 128
    pub room' : length rows' ≡ 128
    pub same : (m : ℕ) → is_listed one m ≡ true → m < n → knots_in rows m ≡ knots_in rows' m

  abbrev Both : ℕ → AllKnots → AllKnots → Type 0
  Both n (all rows) (all rows') = Agree n rows rows'
  Both n (all rows) (none refusal) = ⊥
  Both n (none refusal) (all rows') = ⊥
  Both n (none refusal) (none refusal') = refusal ≡ refusal'

  -- with the same knots in the row of n, or with none where n is not listed
  filled : (n : ℕ) (own : PointKnots) (rows rows' : List PointKnots) → n < 128 → Agree n rows rows' → Agree (n + 1) (set rows n own) (set rows' n own)
  filled n own rows rows' h agree =
      record {
        room = length-set rows n own ∙ agree.room;
        room' = length-set rows' n own ∙ agree.room';
        same = λ m listed below. by_test m listed below (eqb m n) refl;
      }
    where
      by_test : (m : ℕ) → is_listed one m ≡ true → m < n + 1 → (b : Bool) → eqb m n ≡ b → knots_in (set rows n own) m ≡ knots_in (set rows' n own) m
      by_test m listed below true is =
          rw (eqb-true m n is)
          (get_or-set_same rows n own no_knots (omega (arith, h, agree.room)) ∙ sym (get_or-set_same rows' n own no_knots (omega (arith, h, agree.room'))))
      by_test m listed below false is =
          get_or-set_other rows n m own no_knots (eqb-false m n is)
          ∙ agree.same m listed (omega (arith, below, eqb-false m n is))
          ∙ sym (get_or-set_other rows' n m own no_knots (eqb-false m n is))

  passed : (n : ℕ) (rows rows' : List PointKnots) → is_listed one n ≡ false → Agree n rows rows' → Agree (n + 1) rows rows'
  passed n rows rows' unlisted agree =
      record { room = agree.room; room' = agree.room'; same = λ m listed below. agree.same m listed (by_test m listed below (eqb m n) refl) }
    where
      by_test : (m : ℕ) → is_listed one m ≡ true → m < n + 1 → (b : Bool) → eqb m n ≡ b → m < n
      by_test m listed below true is = absurd (false≢true (sym unlisted ∙ subst (λ (k : ℕ). is_listed one k ≡ true) (eqb-true m n is) listed))
      by_test m listed below false is = omega (arith, below, eqb-false m n is)

  module _ (e : Float) where
    -- the row of n in both
    in_both : (n : ℕ) (b : Bool) (outcome : Result ⊤ Refusal) (own : PointKnots) (rows rows' : List PointKnots) → n < 128 → is_listed one n ≡ b → Agree n rows rows'
        → Both (n + 1) (cond b (in_row outcome own n rows) (all rows)) (cond b (in_row outcome own n rows') (all rows'))
    in_both n true (Ok tt) own rows rows' h is agree = filled n own rows rows' h agree
    in_both n true (Err refusal) own rows rows' h is agree = refl
    in_both n false outcome own rows rows' h is agree = passed n rows rows' is agree

    row_too : (n : ℕ) (rows : List PointKnots) → with_row e one n rows ≡ with_row e other n rows
    row_too n rows =
        ap₂
        (λ (store : Store) (listed : List Bool).
        cond (get_or listed n false) (in_row (point_knot_vectors e store n).outcome (point_knot_vectors e store n).knots n rows) (all rows))
        alike.store alike.listing

    row_both : (n : ℕ) (rows rows' : List PointKnots) → n < 128 → Agree n rows rows' → Both (n + 1) (with_row e one n rows) (with_row e other n rows')
    row_both n rows rows' h agree =
        subst (Both (n + 1) (with_row e one n rows)) (row_too n rows')
        (in_both n (is_listed one n) (point_knot_vectors e (store_of one) n).outcome (point_knot_vectors e (store_of one) n).knots rows rows' h refl agree)

    on_both : (n : ℕ) (so_far so-far' : AllKnots) (next next' : List PointKnots → AllKnots) → Both n so_far so-far'
        → ((rows rows' : List PointKnots) → Agree n rows rows' → Both 128 (next rows) (next' rows')) → Both 128 (on_all so_far next) (on_all so-far' next')
    on_both n (all rows) (all rows') next next' both then = then rows rows' both
    on_both n (all rows) (none refusal) next next' both then = absurd both
    on_both n (none refusal) (all rows') next next' both then = absurd both
    on_both n (none refusal) (none refusal') next next' both then = both

    rows_both : (left n : ℕ) (rows rows' : List PointKnots) → n + left ≡ 128 → Agree n rows rows'
        → Both 128 (rows_from e one left n rows) (rows_from e other left n rows')
    unfolding rows_from
    rows_both zero n rows rows' h agree = subst (λ (k : ℕ). Agree k rows rows') (omega (arith, h)) agree
    rows_both (suc left) n rows rows' h agree =
        on_both (n + 1) (with_row e one n rows) (with_row e other n rows') _ _ (row_both n rows rows' (omega (arith, h)) agree)
        (λ more more' then. rows_both left (n + 1) more more' (omega (arith, h)) then)

    -- ---- what is built, and what is ready
    abbrev AlikeBuilt : Generated → Generated → Type 0
    AlikeBuilt built built' = (built.outcome ≡ built'.outcome) × Alike built.map built'.map

    keeping_alike : (knots knots' : AllKnots) → Both 128 knots knots' → AlikeBuilt (keeping one knots) (keeping other knots')
    keeping_alike (all rows) (all rows') both = (
      refl,
      record {
        store = alike.store;
        listing = alike.listing;
        pulls = alike.pulls;
        kept = refl;
        knots = λ _ n listed. both.same n listed (listed_room n listed);
      },
    )
    keeping_alike (all rows) (none refusal) both = absurd both
    keeping_alike (none refusal) (all rows') both = absurd both
    keeping_alike (none refusal) (none refusal') both = (ap Err both, alike)

    generated_alike : AlikeBuilt (generate_knot_vectors e one) (generate_knot_vectors e other)
    unfolding generate_knot_vectors all_knots
    generated_alike =
        keeping_alike (rows_from e one 128 0 one.knots) (rows_from e other 128 0 other.knots)
        (rows_both 128 0 one.knots other.knots refl
        (record { room = sound.rows.room; room' = sound'.rows.room; same = λ m listed below. absurd (omega (arith, below)) }))

    ready_alike : AlikeBuilt (with_knots e one) (with_knots e other)
    unfolding with_knots
    ready_alike =
        subst
        (λ (kept : Bool). AlikeBuilt (with_knots e one) (cond kept (record { outcome = Ok tt; map = other }) (generate_knot_vectors e other)))
        alike.kept (by_kept one.kept)
      where
        by_kept : (kept : Bool)
            → AlikeBuilt (cond kept (record { outcome = Ok tt; map = one }) (generate_knot_vectors e one))
            (cond kept (record { outcome = Ok tt; map = other }) (generate_knot_vectors e other))
        by_kept true = (refl, alike)
        by_kept false = generated_alike

    -- ---- what is read of it, where it is not refused
    abbrev own : Tmesh
    own = (with_knots e one).map

    abbrev own' : Tmesh
    own' = (with_knots e other).map

    module _ (done : (with_knots e one).outcome ≡ Ok tt) where
      done' : (with_knots e other).outcome ≡ Ok tt
      done' = sym ready_alike.0 ∙ done

      knots_alike : (n : ℕ) → is_listed own n ≡ true → knots_of own n ≡ knots_of own' n
      knots_alike = ready_alike.1.knots ((ready one sound e).1 done)

      index_alike : own.index ≡ own'.index
      index_alike =
          (ready one sound e).0.index ((ready one sound e).1 done)
          ∙ index_same own.mesh.listed own'.mesh.listed own.knots own'.knots
          (λ n _. listed_too own own' ready_alike.1 n)
          (λ n _ listed. knots_alike n listed)
          ∙ sym ((ready other sound' e).0.index ((ready other sound' e).1 done'))

      module _ (s t : Float) where
        weight_alike : (n : ℕ) → is_listed own n ≡ true → weight_of own s t n ≡ weight_of own' s t n
        weight_alike n listed = ap₂ (λ (knots : PointKnots) (pull : Float). weight_by knots pull s t) (knots_alike n listed) (pulls_too own own' ready_alike.1 n)

        total_alike : total_weight own s t ≡ total_weight own' s t
        total_alike =
            totals-agree own own' (λ n _. listed_too own own' ready_alike.1 n) (weight_of own s t) (weight_of own' s t) (λ n _ listed. weight_alike n listed)

    -- ---- the answers of an evaluation, a set-point and a question
    weighs : (s t : Float) → (with_knots e one).outcome ≡ Ok tt → (value_of own s t).weight ≡ (value_of own' s t).weight
    unfolding value_of
    weighs s t done = total_alike done s t

    evaluated_alike : (s t : Float) → value_without (subs_of e one s t).answer ≡ value_without (subs_of e other s t).answer
    unfolding subs_of
    evaluated_alike s t =
        value_told_lem (with_knots e one).outcome (value_of own s t) (value_of own' s t) (weighs s t)
        ∙ ap (λ (outcome : Result ⊤ Refusal). value_without (answer_by outcome (value_of own' s t))) ready_alike.0

    set_point_alike : (s t : Float) → value_without (set_point e one s t).answer ≡ value_without (set_point e other s t).answer
    unfolding subs_of
    set_point_alike s t =
        both_set_points e e one other s t (λ given given'. value_without given.answer ≡ value_without given'.answer)
        (weighed_told (with_knots e one).outcome (value_of own s t) (value_of own' s t) (weighs s t)
        ∙ ap (λ (outcome : Result ⊤ Refusal). value_without (weighed (answer_by outcome (value_of own' s t)))) ready_alike.0)
        refl

    cell_alike : (cell : ℕ) → (cell_points e one cell).answer ≡ (cell_points e other cell).answer
    unfolding cell_points
    cell_alike cell =
        words_same (with_knots e one).outcome (cell_of own.index cell) (cell_of own'.index cell)
        (λ done. ap (λ (index : Index). cell_of index cell) (index_alike done))
        ∙ ap (λ (outcome : Result ⊤ Refusal). cell_answer_by outcome (cell_of own'.index cell)) ready_alike.0

    -- ---- an insertion
    module _ (con : ℕ) (d : TmeshDirection) (ratio : Float) where
      inserted_too : insert_point e (store_of one) (is_listed one con) con d ratio ≡ insert_point e (store_of other) (is_listed other con) con d ratio
      inserted_too =
          ap₂ (λ (store : Store) (listed : List Bool). insert_point e store (get_or listed con false) con d ratio) alike.store alike.listing

      placed_too : (lists : Bool) → set one.mesh.listed (store_of one).made lists ≡ set other.mesh.listed (store_of other).made lists
      placed_too lists = ap₂ (λ (store : Store) (listed : List Bool). set listed store.made lists) alike.store alike.listing

      -- the new point's pull is 1.0 in both
      unpulled_too : (position position' : Position)
          → map (λ (own : Place). own.pull) (set one.mesh.places (store_of one).made (unpulled position))
          ≡ map (λ (own : Place). own.pull) (set other.mesh.places (store_of other).made (unpulled position'))
      unpulled_too position position' =
          pulls_with one.mesh.places (store_of one).made (unpulled position)
          ∙ ap₂ (λ (store : Store) (pulls : List Float). set pulls store.made one_literal) alike.store alike.pulls
          ∙ sym (pulls_with other.mesh.places (store_of other).made (unpulled position'))

      by_answer : (position position' : Position) (answer : Result Insertion Refusal) (store : Store) → (is_refused answer ≡ false → Grown (store_of one) store)
          → Alike (after_insertion one position answer store) (after_insertion other position' answer store)
      by_answer position position' (Ok (Added opened inferred)) store grown =
          record { store = refl; listing = placed_too true; pulls = unpulled_too position position'; kept = refl; knots = λ kept n listed. absurd (false≢true kept) }
      by_answer position position' (Ok (Torn opened inferred)) store grown =
          record {
            store = refl;
            listing = placed_too false;
            pulls = unpulled_too position position';
            kept = alike.kept;
            knots = λ kept n listed.
                alike.knots kept n
                (ap (λ (all : List Bool). get_or all n false) (sym (listing_torn one sound.mesh position opened inferred store (grown refl))) ∙ listed);
          }
      by_answer position position' (Err refusal) store grown = alike

      -- withdrawn both or neither
      by_withdrawn : (withdrawn : Bool) (after after' : Tmesh) → Alike after after' → Alike (cond withdrawn one after) (cond withdrawn other after')
      by_withdrawn true after after' inserted = alike
      by_withdrawn false after after' inserted = inserted

      inserted_alike : (withdraws : Bool) (position position' : Position)
          → Alike (add_by_rule withdraws e one con d ratio position).map (add_by_rule withdraws e other con d ratio position').map
      unfolding add_control_point
      inserted_alike withdraws position position' =
          let result = insert_point e (store_of one) (is_listed one con) con d ratio in
          subst (λ (too : Inserted). Alike (added_by withdraws one (answered one position result)).map (added_by withdraws other (answered other position' too)).map)
          inserted_too
          (by_withdrawn (is_withdrawn withdraws result.answer) _ _
          (by_answer position position' result.answer result.store (insertion_grown one sound.mesh e con d ratio)))

    -- ---- a setting of a pull
    abbrev AlikeSet : Pulled → Pulled → Type 0
    AlikeSet set set' = (set.outcome ≡ set'.outcome) × Alike set.map set'.map

    pulled_alike : (n : ℕ) (pull : Float) → AlikeSet (set_pull one n pull) (set_pull other n pull)
    unfolding set_pull
    pulled_alike n pull =
        subst (λ (store : Store). AlikeSet (set_pull one n pull) (pulled_by (pull_outcome store.made n pull) other n pull)) alike.store
        (by_outcome (pull_outcome (store_of one).made n pull))
      where
        repulled_too : pulls_of (with_pull one n pull) ≡ pulls_of (with_pull other n pull)
        repulled_too =
            pulls_with one.mesh.places n (repulled (place_under one n) pull)
            ∙ ap (λ (pulls : List Float). set pulls n pull) alike.pulls
            ∙ sym (pulls_with other.mesh.places n (repulled (place_under other n) pull))

        by_outcome : (outcome : Result ⊤ Refusal) → AlikeSet (pulled_by outcome one n pull) (pulled_by outcome other n pull)
        by_outcome (Ok tt) = (refl, record { store = alike.store; listing = alike.listing; pulls = repulled_too; kept = alike.kept; knots = alike.knots })
        by_outcome (Err refusal) = (refl, alike)

    -- ---- any call, the second time without its position
    told_alike : (call : MapCall) → told_without e one call ≡ told_without e other (call_without call)
    unfolding add_control_point
    told_alike (entry (insertion withdraws con d ratio position)) = ap (λ (result : Inserted). insert_told result.answer) (inserted_too con d ratio)
    told_alike (entry (evaluation s t)) = ap evaluation_told (evaluated_alike s t)
    told_alike (entry (set_point_call s t)) = ap evaluation_told (set_point_alike s t)
    told_alike (entry (question cell)) = ap cell_told (cell_alike cell)
    told_alike (entry (pulling n pull)) = ap outcome_told (pulled_alike n pull).0
    told_alike generate_knot_vectors_call = ap outcome_told generated_alike.0
    told_alike (point_knot_vectors_call n) = ap (λ (store : Store). knots_told (point_knot_vectors e store n)) alike.store
    told_alike (cast_ray_call n d buffer) = ap (λ (store : Store). cast_told (cast_ray e store n d buffer)) alike.store
    told_alike (direct call) = ap (λ (store : Store). call_told store call) alike.store

    after_alike : (call : MapCall) → Alike (after_call e one call) (after_call e other (call_without call))
    unfolding subs_of cell_points
    after_alike (entry (insertion withdraws con d ratio position)) = inserted_alike con d ratio withdraws position _
    after_alike (entry (evaluation s t)) = ready_alike.1
    after_alike (entry (set_point_call s t)) = both_set_points e e one other s t (λ given given'. Alike given.map given'.map) ready_alike.1 alike
    after_alike (entry (question cell)) = ready_alike.1
    after_alike (entry (pulling n pull)) = (pulled_alike n pull).1
    after_alike generate_knot_vectors_call = generated_alike.1
    after_alike (point_knot_vectors_call n) = alike
    after_alike (cast_ray_call n d buffer) = alike
    after_alike (direct call) =
        record {
          store = ap (λ (store : Store). call_store store call) alike.store;
          listing = alike.listing;
          pulls = alike.pulls;
          kept = alike.kept;
          knots = alike.knots;
        }

-- ---- any list, the second time without positions
module _ (e : Float) where
  list_told : (calls : List MapCall) (one other : Tmesh) → SoundMap one → SoundMap other → Alike one other
      → all_told_without e one calls ≡ all_told_without e other (map call_without calls)
  unfolding all_told_without
  list_told [] one other sound sound' alike = refl
  list_told (call ∷ calls) one other sound sound' alike =
      ap₂ (λ (told : Told) (rest : List Told). told ∷ rest) (told_alike one other sound sound' alike e call)
      (list_told calls (after_call e one call) (after_call e other (call_without call)) (map_call one sound e call) (map_call other sound' e (call_without call))
      (after_alike one other sound sound' alike e call))

  list_alike : (calls : List MapCall) (one other : Tmesh) → SoundMap one → SoundMap other → Alike one other
      → Alike (map_after_all e one calls) (map_after_all e other (map call_without calls))
  unfolding map_after_all
  list_alike [] one other sound sound' alike = alike
  list_alike (call ∷ calls) one other sound sound' alike =
      list_alike calls (after_call e one call) (after_call e other (call_without call)) (map_call one sound e call) (map_call other sound' e (call_without call))
      (after_alike one other sound sound' alike e call)

-- ---- the theorems
same : (one other : Tmesh) → SoundMap one → SoundMap other → Alike one other → Same one other
same one other sound sound' alike =
    record {
      refusals = λ e. (ready_alike one other sound sound' alike e).0;
      indices = λ e done. index_alike one other sound sound' alike e done;
      weights = λ e done s t n listed.
          weight_alike one other sound sound' alike e done s t n
          (ap (λ (mesh : Mesh). get_or mesh.listed n false) (ready_mesh e one) ∙ listed);
      totals = λ e done s t. total_alike one other sound sound' alike e done s t;
      set_points = λ e s t.
          sym (number_without (set_point e one s t).answer)
          ∙ ap evaluation_number (set_point_alike one other sound sound' alike e s t)
          ∙ number_without (set_point e other s t).answer;
      cells = λ e cell. cell_alike one other sound sound' alike e cell;
      answers = λ e call also h.
          told_alike one other sound sound' alike e call
          ∙ ap (told_without e other) h
          ∙ sym (told_alike other other sound' sound' (itself other) e also);
      after = λ e call also h.
          both (after_call e one call) (after_call e other also) (λ (bare : MapCall). after_call e other bare) h
          (after_alike one other sound sound' alike e call)
          (after_alike other other sound' sound' (itself other) e also);
      list_answers = λ e calls also h.
          list_told e calls one other sound sound' alike
          ∙ ap (all_told_without e other) h
          ∙ sym (list_told e also other other sound' sound' (itself other));
      list_after = λ e calls also h.
          both (map_after_all e one calls) (map_after_all e other also) (λ (bare : List MapCall). map_after_all e other bare) h
          (list_alike e calls one other sound sound' alike)
          (list_alike e also other other sound' sound' (itself other));
    }
  where
    both : {A : Type 0} {x y : A} (left right : Tmesh) (after : A → Tmesh) → x ≡ y → Alike left (after x) → Alike right (after y) → Alike left right
    both {x = x} {y = y} left right after h alike also =
        joined left (after y) right (subst (λ (z : _). Alike left (after z)) h alike) (turned right (after y) also)

pub alike_maps : AlikeMaps
alike_maps e f weight border a b c d a' b' c' d' calls also =
    same _ _ (every_map_sound e weight a b c d calls) (every_map_sound f border a' b' c' d' also)

pub alike_lists : AlikeLists
alike_lists e weight a b c d a' b' c' d' calls also h =
    let shared = same (new_tmesh weight a b c d) (new_tmesh weight a' b' c' d') (map_fresh weight a b c d) (map_fresh weight a' b' c' d') fresh in
    (shared.list_answers e calls also h, shared.list_after e calls also h)
  where
    fresh : Alike (new_tmesh weight a b c d) (new_tmesh weight a' b' c' d')
    fresh = unfold new_tmesh in record { store = refl; listing = refl; pulls = refl; kept = refl; knots = λ kept n listed. absurd (false≢true kept) }
