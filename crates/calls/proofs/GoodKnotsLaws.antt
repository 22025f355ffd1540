-- Each entry of a ray through a good mesh is a NaN or not negative, since it is an interval, a weight, a walk's sum or 0.0; so a point's
-- knots are counted outward from its coordinate by such steps, and the law of the basis says the rest.
use Prim.Native.Nat.{ℕ, zero, suc}
use Rattle.std.specs.Prelude.{Option, Some, None, Bool, List, [], ◌∷◌, T, Float, replicate, Err, Ok, Result}
use Rattle.std.specs.Float.{binary64}
use Rattle.std.specs.Float.Ieee.{of_bits, add, is_nan, le, fits}
use Rattle.float64.specs.Literals.{zero_literal}
use Rattle.float64.proofs.SignLaws.{nonneg_or_nan_add}
use Rattle.basis.specs.Binary64.{knots}
use Rattle.basis.proofs.NonNegativeLaws.{formula_nonneg_or_nan, non_negative}
use Rattle.control_point.specs.Point.{is_made, is_border, is_opening}
use Rattle.control_point.specs.Sides.{Sides}
use Rattle.control_point.specs.declared.t_mesh_direction.TmeshDirection.{TmeshDirection}
use Rattle.control_point.specs.declared.t_mesh_direction.TmeshDirection.TheVariants.{Up, Right, Down, Left}
use Rattle.control_point.specs.declared.t_mesh_control_point.Side.{Side}
use Rattle.control_point.specs.declared.t_mesh_control_point.Side.TheVariants.{Link, Border, Opening}
use Rattle.store.specs.Store.{store_sides, store_point}
use Rattle.store.specs.declared.store.Store.{Store}
use Rattle.ray_approach.specs.Approach.{approach_of}
use Rattle.ray_entry.specs.Entry.{after_walk, corner_walk, face_walk, side_entry, point_entry, over_face, around_face, after_approach, entry_from, entry_of}
use Rattle.ray.specs.Ray.{Ray, entries, refused, before, after_entry, ray_from, ray_of}
use Rattle.ray.specs.Knots.{first, second, five_knots, after_ray, knots_at, point_knot_vectors}
use Rattle.ray_approach.specs.declared.approach.Approach.TheVariants.{Aligned, Crossed}
use Rattle.ray_entry.specs.declared.entry.Front.{Front}
use Rattle.ray.specs.declared.knots.KnotsAnswer.{KnotsAnswer}
use Rattle.t_mesh.specs.Tmesh.{store_of, blank_knots}
use Rattle.t_mesh.specs.declared.t_mesh.Tmesh.{Tmesh}
use Rattle.knot_vectors.specs.Knots.{all_knots}
use Rattle.grid_index.specs.Index.{no_knots as no_row}
use Rattle.counting.proofs.BoolLaws.{cond_case}
use Rattle.calls.proofs.ListLaws.{set_case}
use Rattle.calls.proofs.RowsLaws.{OfRows, all_rows}
use Rattle.calls.specs.Good.{NotNegative, GoodSide, GoodSides, GoodStore, GoodWalk, GoodEntry, GoodEntries, GoodRay, GoodBasis, GoodKnots, GoodRows}
use Rattle.calls.proofs.GoodLaws.{zero_not_negative, store_sides_lem, walk_sum}
use Rattle.control_point.specs.declared.refusal.Refusal.{Refusal}
use Rattle.navigation.specs.declared.walk.Walk.{Walk}
use Rattle.ray_approach.specs.declared.approach.Approach.{Approach}
use Rattle.ray_entry.specs.declared.entry.Entry.{Entry}

-- ---- entries
after_walk_lem : (walk : Result Walk Refusal) (next : ℕ → Float → Result Entry Refusal) → GoodWalk walk → ((n : ℕ) (sum : Float) → NotNegative sum → GoodEntry (next n sum))
    → GoodEntry (after_walk walk next)
after_walk_lem (Ok walk) next h k = k walk.at walk.sum h
after_walk_lem (Err refusal) next h k = tt

-- a sum from 0.0
from_zero : (x : Float) → NotNegative x → NotNegative (add binary64 zero_literal x)
from_zero x h = nonneg_or_nan_add binary64 zero_literal x zero_not_negative h

module _ (sides : Sides) (good : GoodSides sides) (made : ℕ) (d : TmeshDirection) where
  corner_walk_lem : (at : ℕ) → GoodWalk (corner_walk sides made d at)
  corner_walk_lem at = walk_sum sides good made at _ d

  face_walk_lem : (at : ℕ) → GoodWalk (face_walk sides made d at)
  face_walk_lem at = walk_sum sides good made at d _

  at_point : (at : ℕ) (met : Bool) → GoodEntry (point_entry sides made d at met)
  at_point at met =
      cond_case (is_made made at) (λ answer. GoodEntry (side_entry sides made d answer at met)) _ _ (λ _. by_side (sides at d) (good at d)) (λ _. tt)
    where
      by_side : (side : Side) → GoodSide side → GoodEntry (side_entry sides made d (Ok side) at met)
      by_side (Link n interval) h = from_zero interval h
      by_side (Border weight) h = cond_case met NotNegative _ _ (λ _. zero_not_negative) (λ _. from_zero weight h)
      by_side Opening h =
          after_walk_lem (corner_walk sides made d at) _ (corner_walk_lem at)
          (λ corner r _. after_walk_lem (face_walk sides made d corner) _ (face_walk_lem corner) (λ n sum k. from_zero sum k))

  over_face_lem : (at : ℕ) (met : Bool) (r : Float) → GoodEntry (over_face sides made d at met r)
  over_face_lem at met r = after_walk_lem (face_walk sides made d at) _ (face_walk_lem at) (λ n sum h. h)

  around_face_lem : (at : ℕ) (met : Bool) (r : Float) → GoodEntry (around_face sides made d at met r)
  around_face_lem at met r =
      cond_case (is_opening (sides at d)) GoodEntry _ _
      (λ _. after_walk_lem (corner_walk sides made d at) _ (corner_walk_lem at) (λ corner sum _. over_face_lem corner met (add binary64 r sum)))
      (λ _. over_face_lem at met r)

  after_approach_lem : (approach : Result Approach Refusal) (met : Bool) → GoodEntry (after_approach sides made d approach met)
  after_approach_lem (Ok (Aligned at)) met = at_point at met
  after_approach_lem (Ok (Crossed at r)) met = around_face_lem at met r
  after_approach_lem (Err refusal) met = tt

  -- ---- rays
  module _ (e : Float) where
    next_entry : (front : Front) → GoodEntry (entry_of e sides made d front)
    next_entry front = by_march front.march
      where
        by_march : (march : Option Float) → GoodEntry (entry_from e sides made d front.at front.bordered march)
        by_march (Some r) =
            cond_case (is_border (sides front.at d)) GoodEntry _ _
            (λ _. at_point front.at front.bordered)
            (λ _. after_approach_lem (approach_of e sides made d front.at r) front.bordered)
        by_march None = at_point front.at front.bordered

    entries_from : (n : ℕ) (front : Front) → GoodRay (ray_from e sides made d n front)
    unfolding ray_from
    entries_from zero front = λ i. tt
    entries_from (suc n) front =
        after (entry_of e sides made d front) (next_entry front) (λ next. ray_from e sides made d n next) (λ next. entries_from n next)
      where
        in_front : (value : Float) (ray : Ray) → NotNegative value → GoodRay ray → GoodRay (before value ray)
        in_front value (entries values) h k = each
          where
            each : GoodEntries (value ∷ values)
            each zero = h
            each (suc i) = k i
        in_front value (refused refusal) h k = tt

        after : (entry : Result Entry Refusal) → GoodEntry entry → (rest : Front → Ray) → ((next : Front) → GoodRay (rest next)) → GoodRay (after_entry entry rest)
        after (Ok entry) h rest k = in_front entry.value (rest entry.front) h (k entry.front)
        after (Err refusal) h rest k = tt

    pub ray_entries : (start n : ℕ) → GoodRay (ray_of e sides made start d n)
    unfolding ray_of
    ray_entries start n = cond_case (is_made made start) GoodRay _ _ (λ _. entries_from n _) (λ _. tt)

-- ---- knots
-- five that are all 0.0, and five that are none
zero_basis : GoodBasis (replicate 5 zero_literal)
unfolding of_bits is_nan le
zero_basis u = formula_nonneg_or_nan u (knots (replicate 5 zero_literal)) tt tt

pub blank_knots_lem : GoodKnots blank_knots
blank_knots_lem = record { in_s = zero_basis; in_t = zero_basis }

pub no_knots_lem : GoodKnots no_row
unfolding is_nan
no_knots_lem = record { in_s = λ u. formula_nonneg_or_nan u (knots []) tt tt; in_t = λ u. formula_nonneg_or_nan u (knots []) tt tt }

abbrev GoodAnswer : KnotsAnswer → Type 0
GoodAnswer answer = GoodKnots answer.knots

after_ray_lem : (ray : Ray) (next : List Float → KnotsAnswer) → GoodRay ray → ((values : List Float) → GoodEntries values → GoodAnswer (next values))
    → GoodAnswer (after_ray ray next)
after_ray_lem (entries values) next h k = k values h
after_ray_lem (refused refusal) next h k = blank_knots_lem

point_knots : (e : Float) (store : Store) → GoodStore store → (n : ℕ) → GoodAnswer (point_knot_vectors e store n)
unfolding point_knot_vectors knots_at
point_knots e store good n =
    cond_case (is_made store.made n) GoodAnswer _ _
    (λ _.
    after_ray_lem (ray Up) _ (cast Up)
    (λ up good-up. after_ray_lem (ray Right) _ (cast Right)
    (λ right good_right. after_ray_lem (ray Down) _ (cast Down)
    (λ down good-down. after_ray_lem (ray Left) _ (cast Left)
    (λ left good_left.
    record {
      in_s = five (store_point store n).s left right (good n).s_fits good_left good_right;
      in_t = five (store_point store n).t down up (good n).t_fits good-down good-up;
    })))))
    (λ _. blank_knots_lem)
  where
    ray : TmeshDirection → Ray
    ray d = ray_of e (store_sides store) store.made n d 2

    cast : (d : TmeshDirection) → GoodRay (ray d)
    cast d = ray_entries (store_sides store) (store_sides_lem store good) store.made d e n 2

    five : (centre : Float) (below above : List Float) → T (fits binary64 centre) → GoodEntries below → GoodEntries above
        → GoodBasis (five_knots centre below above)
    five centre below above fit h k u = non_negative u centre (first below) (second below) (first above) (second above) fit (h 0) (k 0)

-- ---- the rows of all listed points
pub good_rows : (e : Float) (map : Tmesh) → GoodStore (store_of map) → GoodRows map.knots → OfRows GoodRows (all_knots e map)
good_rows e map good = all_rows GoodRows e map (λ rows n h m. set_case GoodKnots rows n m _ no_row (point_knots e (store_of map) good n) (h m))
