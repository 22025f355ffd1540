-- The knots of a point pass: on these maps every interval and every weight is a NaN or not negative, and so is every entry of a ray; a step up by
-- such an entry gives a NaN or a knot that is not below, a step down one that is not above.
use Rattle.std.specs.Prelude.{ℕ, Bool, true, not, ◌&&◌, List, [], ◌∷◌, T, Float, replicate, Err, Ok, Result}
use Rattle.std.specs.Float.{binary64}
use Rattle.std.specs.Float.Ieee.{of_bits, add, sub, le, fits, is_nan}
use Rattle.std.specs.Float.Ieee.Fits.{and_l, and_r, and_i, add-fits, sub-fits}
use Rattle.float64.specs.Literals.{zero_literal}
use Rattle.basis.proofs.NonNegativeLaws.{sum_at_least, difference_at_most}
use Rattle.float64.proofs.SignLaws.{le→nonneg, nonneg→nonneg_or_nan}
use Rattle.control_point.specs.Point.{is_made}
use Rattle.control_point.specs.declared.t_mesh_direction.TmeshDirection.{TmeshDirection}
use Rattle.control_point.specs.declared.t_mesh_direction.TmeshDirection.TheVariants.{Up, Right, Down, Left}
use Rattle.insertion.specs.Insert.{insert_point}
use Rattle.insertion.specs.declared.insertion.Insertion.TheVariants.{Done, Torn}
use Rattle.counting.proofs.BoolLaws.{cond_case}
use Rattle.store.specs.Store.{store_sides, store_point}
use Rattle.store.specs.declared.store.Store.{Store}
use Rattle.knot_sorting.specs.KnotVector.{never_falls, all_numbers}
use Rattle.ray.specs.Knots.{first, second, five_knots, after_ray, knots_at, point_knot_vectors}
use Rattle.knot_sorting.proofs.NeverFallingPassProof.{never_falling_pass}
use Rattle.ray.specs.Ray.{Ray, entries as values, refused, ray_of}
use Rattle.ray.specs.declared.knots.KnotsAnswer.{KnotsAnswer}
use Rattle.t_mesh.specs.Insertion.{add_control_point, after_insertion}
use Rattle.t_mesh.specs.Tmesh.{store_of, is_listed, new_tmesh}
use Rattle.t_mesh.specs.declared.t_mesh.Position.{Position}
use Rattle.t_mesh.specs.declared.t_mesh.Tmesh.{Tmesh}
use Rattle.knot_vectors.specs.Knots.{AllKnots, all, none, keeping, all_knots, generate_knot_vectors}
use Rattle.knot_vectors.specs.declared.knots.Generated.{Generated}
use Rattle.surface.specs.Evaluation.{with_knots, subs_of}
use Rattle.surface.proofs.SetPointLaws.{set_point_leaves}
use Rattle.cells.specs.Cells.{cell_points}
use Rattle.calls.specs.Calls.{Call, insertion, evaluation, set_point_call, question, pulling, map_after}
use Rattle.calls.specs.Good.{NotNegative, GoodStore, GoodEntries, GoodRay}
use Rattle.calls.proofs.GoodLaws.{store_sides_lem, point_inserted}
use Rattle.calls.proofs.GoodKnotsLaws.{ray_entries}
use Rattle.calls.proofs.PullingLaws.{pulled_case}
use Rattle.calls.proofs.SoundLaws.{corner_store_lem}
use Rattle.calls.proofs.WithdrawalLaws.{by_either_rule}
use Rattle.soundness.specs.KnotsPass.{Passes, BothPass, KnotsPass}
use Rattle.soundness.specs.MapCalls.{map_after_all, entries}
use Rattle.control_point.specs.declared.refusal.Refusal.{Refusal}
use Rattle.insertion.specs.declared.insertion.Insertion.{Insertion}

passes : (five : List Float) → (T (all_numbers five) → T (never_falls five)) → Passes five
passes five h = record { never_fall = h; unchanged = λ numbers. never_falling_pass five (h numbers) }

-- five knots counted outward
outward : (centre : Float) (below above : List Float) → T (fits binary64 centre) → GoodEntries below → GoodEntries above → Passes (five_knots centre below above)
unfolding never_falls all_numbers
outward centre below above fit h k = passes (five_knots centre below above) never_fall
  where
    b : Float
    b = sub binary64 centre (first below)

    a : Float
    a = sub binary64 b (second below)

    d : Float
    d = add binary64 centre (first above)

    f : Float
    f = add binary64 d (second above)

    never_fall : T (all_numbers (a ∷ (b ∷ (centre ∷ (d ∷ (f ∷ [])))))) → T (never_falls (a ∷ (b ∷ (centre ∷ (d ∷ (f ∷ []))))))
    never_fall n =
        and_i (le a b) (le b centre && (le centre d && (le d f && true)))
        (difference_at_most b (second below) (sub-fits binary64 centre (first below)) (h 1) (and_l (number a) (number b && from_centre) n))
        (and_i (le b centre) (le centre d && (le d f && true))
        (difference_at_most centre (first below) fit (h 0) (and_l (number b) from_centre (and_r (number a) (number b && from_centre) n)))
        (and_i (le centre d) (le d f && true) (sum_at_least centre (first above) fit (k 0) (and_l (number d) (number f && true) beyond))
        (and_i (le d f) true
        (sum_at_least d (second above) (add-fits binary64 centre (first above)) (k 1) (and_l (number f) true (and_r (number d) (number f && true) beyond)))
        tt)))
      where
        number : Float → Bool
        number x = not (is_nan x)

        from_centre : Bool
        from_centre = number centre && (number d && (number f && true))

        beyond : T (number d && (number f && true))
        beyond = and_r (number centre) (number d && (number f && true)) (and_r (number b) from_centre (and_r (number a) (number b && from_centre) n))

-- ---- the knots of a point
zeros_pass : Passes (replicate 5 zero_literal)
unfolding never_falls le of_bits
zeros_pass = passes (replicate 5 zero_literal) (λ numbers. tt)

abbrev AnswerPasses : KnotsAnswer → Type 0
AnswerPasses answer = BothPass answer.knots

after_ray_lem : (ray : Ray) (next : List Float → KnotsAnswer) → GoodRay ray → ((entered : List Float) → GoodEntries entered → AnswerPasses (next entered))
    → AnswerPasses (after_ray ray next)
after_ray_lem (values entered) next h k = k entered h
after_ray_lem (refused refusal) next h k = record { in_s = zeros_pass; in_t = zeros_pass }

point_passes : (e : Float) (store : Store) → GoodStore store → (n : ℕ) → AnswerPasses (point_knot_vectors e store n)
unfolding point_knot_vectors knots_at
point_passes e store good n =
    cond_case (is_made store.made n) AnswerPasses _ _
    (λ _.
    after_ray_lem (ray Up) _ (cast Up)
    (λ up good-up. after_ray_lem (ray Right) _ (cast Right)
    (λ right good_right. after_ray_lem (ray Down) _ (cast Down)
    (λ down good-down. after_ray_lem (ray Left) _ (cast Left)
    (λ left good_left.
    record {
      in_s = outward (store_point store n).s left right (good n).s_fits good_left good_right;
      in_t = outward (store_point store n).t down up (good n).t_fits good-down good-up;
    })))))
    (λ _. record { in_s = zeros_pass; in_t = zeros_pass })
  where
    ray : TmeshDirection → Ray
    ray d = ray_of e (store_sides store) store.made n d 2

    cast : (d : TmeshDirection) → GoodRay (ray d)
    cast d = ray_entries (store_sides store) (store_sides_lem store good) store.made d e n 2

-- ---- every map's mesh is good
good_ready : (e : Float) (map : Tmesh) → GoodStore (store_of map) → GoodStore (store_of (with_knots e map).map)
unfolding with_knots generate_knot_vectors
good_ready e map good = cond_case map.kept GoodMesh _ _ (λ _. good) (λ _. kept (all_knots e map))
  where
    GoodMesh : Generated → Type 0
    GoodMesh generated = GoodStore (store_of generated.map)

    kept : (rows : AllKnots) → GoodStore (store_of (keeping map rows).map)
    kept (all rows) = good
    kept (none refusal) = good

good_inserted : (e : Float) (map : Tmesh) → GoodStore (store_of map) → (con : ℕ) (d : TmeshDirection) (ratio : Float) (position : Position)
    → GoodStore (store_of (add_control_point e map con d ratio position).map)
unfolding add_control_point
good_inserted e map good con d ratio position =
    by_answer (insert_point e (store_of map) (is_listed map con) con d ratio).answer
    (insert_point e (store_of map) (is_listed map con) con d ratio).store
    (point_inserted (store_of map) good con d ratio e (is_listed map con))
  where
    by_answer : (answer : Result Insertion Refusal) (store : Store) → GoodStore store → GoodStore (store_of (after_insertion map position answer store))
    by_answer (Ok (Done opened links)) store h = h
    by_answer (Ok (Torn opened links)) store h = h
    by_answer (Err refusal) store h = good

good_call : (e : Float) (map : Tmesh) → GoodStore (store_of map) → (call : Call) → GoodStore (store_of (map_after e map call))
unfolding subs_of cell_points
good_call e map good (insertion withdraws con d ratio position) =
    by_either_rule (λ after. GoodStore (store_of after)) withdraws e map con d ratio position good (good_inserted e map good con d ratio position)
good_call e map good (evaluation s t) = good_ready e map good
good_call e map good (set_point_call s t) = set_point_leaves e map s t (λ after. GoodStore (store_of after)) good (good_ready e map good)
good_call e map good (question cell) = good_ready e map good
good_call e map good (pulling n pull) = pulled_case map n pull (λ after. GoodStore (store_of after)) good (λ _ _. good)

good_list : (e : Float) (calls : List Call) (map : Tmesh) → GoodStore (store_of map) → GoodStore (store_of (map_after_all e map (entries calls)))
unfolding map_after_all entries
good_list e [] map good = good
good_list e (call ∷ calls) map good = good_list e calls (map_after e map call) (good_call e map good call)

good_fresh : (w : Float) (at_bottom_left at_bottom_right at_top_right at_top_left : Position) → NotNegative w → GoodStore (store_of (new_tmesh w at_bottom_left at_bottom_right at_top_right at_top_left))
unfolding new_tmesh
good_fresh w at_bottom_left at_bottom_right at_top_right at_top_left h = corner_store_lem w h

pub knots_pass : KnotsPass
knots_pass e w at_bottom_left at_bottom_right at_top_right at_top_left calls border closeness n =
    point_passes closeness (store_of (map_after_all e (new_tmesh w at_bottom_left at_bottom_right at_top_right at_top_left) (entries calls)))
    (good_list e calls (new_tmesh w at_bottom_left at_bottom_right at_top_right at_top_left)
    (good_fresh w at_bottom_left at_bottom_right at_top_right at_top_left (nonneg→nonneg_or_nan w (le→nonneg w border))))
    n
