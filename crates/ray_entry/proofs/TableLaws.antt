-- An entry tells what its table says.
use Rattle.std.specs.Prelude.{Option, Some, None, ℕ, ◌≡◌, refl, Bool, true, false, cond, Float, Err, Ok, Result}
use Rattle.std.proofs.Common.{◌∙◌}
use Rattle.std.specs.Float.{binary64}
use Rattle.std.specs.Float.Ieee.{add}
use Rattle.float64.specs.Literals.{zero_literal}
use Rattle.control_point.specs.Point.{is_made, is_link, is_border, is_opening}
use Rattle.control_point.specs.Sides.{Sides, linked_of, interval_of}
use Rattle.control_point.specs.Told.{Told, unless, refusal_told}
use Rattle.control_point.specs.declared.refusal.Refusal.TheVariants.{NoPoint}
use Rattle.control_point.specs.declared.t_mesh_control_point.Side.{Side}
use Rattle.control_point.specs.declared.t_mesh_control_point.Side.TheVariants.{Link, Border, Opening}
use Rattle.control_point.specs.declared.t_mesh_direction.TmeshDirection.{TmeshDirection}
use Rattle.navigation.specs.Table.{walked_table}
use Rattle.ray_approach.specs.Approach.{approach_of}
use Rattle.ray_approach.specs.Table.{approach_table}
use Rattle.ray_approach.proofs.TableLaws.{approach_told, approach_told_lem}
use Rattle.ray_approach.specs.declared.approach.Approach.TheVariants.{Aligned, Crossed}
use Rattle.ray_entry.specs.Entry.{on_ray, after_walk, corner_walk, face_walk, side_entry, point_entry, over_face, around_face, after_approach, march_entry, entry_from, entry_of}
use Rattle.ray_entry.specs.Table.{from_table, opening_table, point_table, over_table, around_table, march_table, entry_table}
use Rattle.ray_entry.specs.declared.entry.Front.{Front}
use Rattle.control_point.specs.declared.refusal.Refusal.{Refusal}
use Rattle.navigation.specs.declared.walk.Walk.{Walk}
use Rattle.ray_approach.specs.declared.approach.Approach.{Approach}
use Rattle.ray_entry.specs.declared.entry.Entry.{Entry}

-- what is told after an entry: its refusal's number, or what is told of it and its front
abbrev pub entry_told : (Float → Front → Told) → Result Entry Refusal → Told
entry_told next (Ok entry) = next entry.value entry.front
entry_told next (Err refusal) = refusal_told refusal

module _ (told : Float → Front → Told) where
  after_told : (next : ℕ → Float → Result Entry Refusal) (table : ℕ → Float → Told) → ((n : ℕ) (sum : Float) → entry_told told (next n sum) ≡ table n sum)
      → (walk : Result Walk Refusal) → entry_told told (after_walk walk next) ≡ walked_table walk table
  after_told next table h (Ok walk) = h walk.at walk.sum
  after_told next table h (Err refusal) = refl

  module _ (sides : Sides) (made : ℕ) (d : TmeshDirection) where
    point_told_lem : (at : ℕ) (met : Bool) → entry_told told (point_entry sides made d at met) ≡ point_table sides made d told at met
    point_told_lem at met = by_side (is_made made at) (sides at d)
      where
        by_side : (b : Bool) (side : Side)
            → entry_told told (side_entry sides made d (cond b (Ok side) (Err NoPoint)) at met)
            ≡ unless 11 b
            (cond (is_link side)
            (told (add binary64 zero_literal (interval_of side)) (on_ray (linked_of side) met))
            (cond (is_border side)
            (told (cond met zero_literal (add binary64 zero_literal (interval_of side))) (on_ray at true))
            (opening_table sides made d told at met)))
        by_side true (Link n interval) = refl
        by_side true (Border weight) = refl
        by_side true Opening = after_told _ _ (λ corner r. after_told _ _ (λ n sum. refl) (face_walk sides made d corner)) (corner_walk sides made d at)
        by_side false side = refl

    over_told : (at : ℕ) (met : Bool) (r : Float) → entry_told told (over_face sides made d at met r) ≡ over_table sides made d told met r at
    over_told at met r = after_told _ _ (λ n sum. refl) (face_walk sides made d at)

    around_told : (at : ℕ) (met : Bool) (r : Float) → entry_told told (around_face sides made d at met r) ≡ around_table sides made d told met at r
    around_told at met r = by_test (is_opening (sides at d))
      where
        by_test : (b : Bool)
            → entry_told told (cond b (after_walk (corner_walk sides made d at) (λ corner sum. over_face sides made d corner met (add binary64 r sum))) (over_face sides made d at met r))
            ≡ cond b (walked_table (corner_walk sides made d at) (λ corner sum. over_table sides made d told met (add binary64 r sum) corner)) (over_table sides made d told met r at)
        by_test true = after_told _ _ (λ corner sum. over_told corner met (add binary64 r sum)) (corner_walk sides made d at)
        by_test false = over_told at met r

    approached_told : (met : Bool) (approach : Result Approach Refusal)
        → entry_told told (after_approach sides made d approach met) ≡ approach_told (λ last. point_table sides made d told last met) (around_table sides made d told met) approach
    approached_told met (Ok (Aligned at)) = point_told_lem at met
    approached_told met (Ok (Crossed at r)) = around_told at met r
    approached_told met (Err refusal) = refl

    module _ (e : Float) where
      march_told : (at : ℕ) (met : Bool) (r : Float) → entry_told told (march_entry e sides made d at met r) ≡ march_table e sides made d told at met r
      march_told at met r = by_test (is_border (sides at d))
        where
          by_test : (b : Bool)
              → entry_told told (cond b (point_entry sides made d at met) (after_approach sides made d (approach_of e sides made d at r) met))
              ≡ cond b (point_table sides made d told at met) (approach_table e sides made d (λ last. point_table sides made d told last met) (around_table sides made d told met) at r)
          by_test true = point_told_lem at met
          by_test false = approached_told met (approach_of e sides made d at r) ∙ approach_told_lem e sides made d _ _ at r

      pub entry_told_lem : (front : Front) → entry_told told (entry_of e sides made d front) ≡ entry_table e sides made d told front
      entry_told_lem front = by_march front.march
        where
          by_march : (march : Option Float)
              → entry_told told (entry_from e sides made d front.at front.bordered march) ≡ from_table e sides made d told front.at front.bordered march
          by_march (Some r) = march_told front.at front.bordered r
          by_march None = point_told_lem front.at front.bordered
