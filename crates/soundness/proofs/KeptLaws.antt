-- What holds of a map through every call, of the knots that it keeps and of their index. The index kept is that of the listing and of the knots kept: an insertion that is done drops
-- both; one that is torn changes neither them nor the listing, since its point was not listed; and what builds the knots builds the index. There are 128 rows of knots. The first
-- knot of each is 0.0 or a difference, and past the end it is taken for a NaN, so it is an f64, whatever coordinates the points have.
use Rattle.std.specs.Prelude.{ℕ, ◌≡◌, refl, Bool, true, false, List, [], ◌∷◌, Float, length, set, Err, Ok, Result}
use Rattle.std.proofs.Common.{sym, ap, ◌∙◌, length-set}
use Rattle.std.proofs.lemmas.Bool.{false≢true}
use Rattle.std.specs.Float.{binary64}
use Rattle.std.specs.Float.Ieee.Bits.{of_bits-fits}
use Rattle.std.specs.Float.Ieee.Fits.{nan-fits, sub-fits}
use Rattle.control_point.specs.Point.{is_made}
use Rattle.control_point.specs.declared.t_mesh_direction.TmeshDirection.{TmeshDirection}
use Rattle.control_point.specs.declared.t_mesh_direction.TmeshDirection.TheVariants.{Up, Right, Down, Left}
use Rattle.grid.specs.Reach.{StartsF64}
use Rattle.grid_index.specs.Index.{no_knots, knots_in, index_of}
use Rattle.insertion.specs.Insert.{is_refused, insert_point}
use Rattle.insertion.specs.declared.insertion.Insertion.TheVariants.{Done as Added, Torn}
use Rattle.knot_vectors.specs.Knots.{AllKnots, all, none, all_knots, keeping, generate_knot_vectors}
use Rattle.knot_vectors.specs.declared.knots.Generated.{Generated}
use Rattle.counting.proofs.BoolLaws.{cond_case}
use Rattle.ray.specs.Knots.{after_ray, knots_at, point_knot_vectors}
use Rattle.ray.specs.Ray.{Ray, entries, refused, ray_of}
use Rattle.ray.specs.declared.knots.KnotsAnswer.{KnotsAnswer}
use Rattle.ray.specs.declared.knots.PointKnots.{PointKnots}
use Rattle.store.specs.Store.{store_sides}
use Rattle.store.proofs.TablesLaws.{refused_not}
use Rattle.store.specs.declared.store.Store.{Store}
use Rattle.surface.specs.Evaluation.{with_knots, subs_of}
use Rattle.surface.proofs.SetPointLaws.{set_point_leaves}
use Rattle.cells.specs.Cells.{cell_points}
use Rattle.t_mesh.specs.Insertion.{after_insertion, add_control_point}
use Rattle.t_mesh.specs.Tmesh.{store_of, is_listed, blank_knots, new_tmesh}
use Rattle.t_mesh.specs.declared.t_mesh.Position.{Position}
use Rattle.t_mesh.specs.declared.t_mesh.Tmesh.{Tmesh}
use Rattle.calls.specs.Calls.{insertion, evaluation, set_point_call, question, pulling}
use Rattle.calls.proofs.ListLaws.{set_case, replicate_case}
use Rattle.calls.proofs.PullingLaws.{pulled_case}
use Rattle.calls.proofs.RowsLaws.{OfRows, all_rows}
use Rattle.calls.proofs.WithdrawalLaws.{by_either_rule}
use Rattle.soundness.proofs.FreshLaws.{sound_fresh}
use Rattle.soundness.proofs.InsertionLaws.{Grown}
use Rattle.soundness.specs.MapCalls.{MapCall, entry, generate_knot_vectors_call, point_knot_vectors_call, cast_ray_call, direct, after_call, map_after_all}
use Rattle.soundness.proofs.MapLaws.{SoundMesh, listing_torn, insertion_grown, insertion_sound, repulled_sound, sound_call}
use Rattle.soundness.specs.Theorems.{EveryMap}
use Rattle.control_point.specs.declared.refusal.Refusal.{Refusal}
use Rattle.insertion.specs.declared.insertion.Insertion.{Insertion}

-- ---- rows of knots
pub record SoundRows (rows : List PointKnots) : Type 0 where
  pub room : length rows ≡ 128
  pub starts : (n : ℕ) → StartsF64 (knots_in rows n)

blank_starts : StartsF64 blank_knots
blank_starts = record { across = of_bits-fits binary64 0; upwards = of_bits-fits binary64 0 }

none_starts : StartsF64 no_knots
none_starts = record { across = nan-fits binary64; upwards = nan-fits binary64 }

abbrev AnswerStarts : KnotsAnswer → Type 0
AnswerStarts answer = StartsF64 answer.knots

after_ray_lem : (ray : Ray) (next : List Float → KnotsAnswer) → ((values : List Float) → AnswerStarts (next values)) → AnswerStarts (after_ray ray next)
after_ray_lem (entries values) next h = h values
after_ray_lem (refused refusal) next h = blank_starts

point_starts : (e : Float) (store : Store) (n : ℕ) → AnswerStarts (point_knot_vectors e store n)
unfolding point_knot_vectors knots_at
point_starts e store n =
    cond_case (is_made store.made n) AnswerStarts _ _
    (λ _.
    after_ray_lem (ray Up) _
    (λ up. after_ray_lem (ray Right) _
    (λ right. after_ray_lem (ray Down) _
    (λ down. after_ray_lem (ray Left) _
    (λ left. record { across = sub-fits binary64 _ _; upwards = sub-fits binary64 _ _ })))))
    (λ _. blank_starts)
  where
    ray : TmeshDirection → Ray
    ray d = ray_of e (store_sides store) store.made n d 2

-- those that a building leaves
built_rows : (e : Float) (map : Tmesh) → SoundRows map.knots → OfRows SoundRows (all_knots e map)
built_rows e map = all_rows SoundRows e map stored
  where
    stored : (rows : List PointKnots) (n : ℕ) → SoundRows rows → SoundRows (set rows n (point_knot_vectors e (store_of map) n).knots)
    stored rows n sound =
        record {
          room = length-set rows n _ ∙ sound.room;
          starts = λ m. set_case StartsF64 rows n m _ no_knots (point_starts e (store_of map) n) (sound.starts m);
        }

-- ---- maps
-- where knots are kept, the index is theirs
abbrev Indexed : Tmesh → Type 0
Indexed map = map.kept ≡ true → map.index ≡ index_of map.mesh.listed map.knots

pub record SoundMap (map : Tmesh) : Type 0 where
  pub mesh : SoundMesh map.mesh
  pub rows : SoundRows map.knots
  pub index : Indexed map

module _ (map : Tmesh) (sound : SoundMap map) where
  -- ---- an insertion
  after_insertion_lem : (position : Position) (answer : Result Insertion Refusal) (store : Store) → (is_refused answer ≡ false → Grown (store_of map) store)
      → Indexed (after_insertion map position answer store)
  after_insertion_lem position (Ok (Added opened inferred)) store grown kept = absurd (false≢true kept)
  after_insertion_lem position (Ok (Torn opened inferred)) store grown kept =
      sound.index kept
      ∙ ap (λ (listed : List Bool). index_of listed map.knots) (sym (listing_torn map sound.mesh position opened inferred store (grown refl)))
  after_insertion_lem position (Err refusal) store grown kept = sound.index kept

  inserted_map : (e : Float) (con : ℕ) (d : TmeshDirection) (ratio : Float) (position : Position) → SoundMap (add_control_point e map con d ratio position).map
  unfolding add_control_point
  inserted_map e con d ratio position =
      let result = insert_point e (store_of map) (is_listed map con) con d ratio in
      record {
        mesh = insertion_sound map sound.mesh e con d ratio position;
        rows = sound.rows;
        index = after_insertion_lem position result.answer result.store (insertion_grown map sound.mesh e con d ratio);
      }

  -- ---- knots kept or built
  -- the map, and where it is not refused, that its knots are kept
  abbrev Ready : Generated → Type 0
  Ready generated = SoundMap generated.map × (generated.outcome ≡ Ok tt → generated.map.kept ≡ true)

  keeping_ready : (rows : AllKnots) → OfRows SoundRows rows → Ready (keeping map rows)
  keeping_ready (all rows) h = (record { mesh = sound.mesh; rows = h; index = λ _. refl }, λ _. refl)
  keeping_ready (none refusal) h = (sound, λ done. refused_not refusal done)

  generated_ready : (e : Float) → Ready (generate_knot_vectors e map)
  unfolding generate_knot_vectors
  generated_ready e = keeping_ready (all_knots e map) (built_rows e map sound.rows)

  pub ready : (e : Float) → Ready (with_knots e map)
  unfolding with_knots
  ready e = cond_case map.kept Ready _ _ (λ kept. (sound, λ _. kept)) (λ _. generated_ready e)

  -- ---- any call
  pub map_call : (e : Float) (call : MapCall) → SoundMap (after_call e map call)
  unfolding subs_of cell_points
  map_call e (entry (insertion withdraws con d ratio position)) =
      by_either_rule SoundMap withdraws e map con d ratio position sound (inserted_map e con d ratio position)
  map_call e (entry (evaluation s t)) = (ready e).0
  map_call e (entry (set_point_call s t)) = set_point_leaves e map s t SoundMap sound (ready e).0
  map_call e (entry (question cell)) = (ready e).0
  map_call e (entry (pulling n pull)) =
      pulled_case map n pull SoundMap sound (λ _ _. record { mesh = repulled_sound map sound.mesh n pull; rows = sound.rows; index = sound.index })
  map_call e generate_knot_vectors_call = (generated_ready e).0
  map_call e (point_knot_vectors_call n) = sound
  map_call e (cast_ray_call n d buffer) = sound
  map_call e (direct call) = record { mesh = sound_call map sound.mesh e (direct call); rows = sound.rows; index = sound.index }

-- ---- every list
map_list : (e : Float) (calls : List MapCall) (map : Tmesh) → SoundMap map → SoundMap (map_after_all e map calls)
unfolding map_after_all
map_list e [] map sound = sound
map_list e (call ∷ calls) map sound = map_list e calls (after_call e map call) (map_call map sound e call)

module _ (weight : Float) (at_bottom_left at_bottom_right at_top_right at_top_left : Position) where
  pub map_fresh : SoundMap (new_tmesh weight at_bottom_left at_bottom_right at_top_right at_top_left)
  unfolding new_tmesh
  map_fresh =
      record {
        mesh = sound_fresh weight at_bottom_left at_bottom_right at_top_right at_top_left;
        rows = record { room = refl; starts = λ n. replicate_case StartsF64 128 n blank_knots no_knots blank_starts none_starts };
        index = λ kept. absurd (false≢true kept);
      }

pub every_map_sound : EveryMap SoundMap
every_map_sound e weight at_bottom_left at_bottom_right at_top_right at_top_left calls =
    map_list e calls (new_tmesh weight at_bottom_left at_bottom_right at_top_right at_top_left) (map_fresh weight at_bottom_left at_bottom_right at_top_right at_top_left)
