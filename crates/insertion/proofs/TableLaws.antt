-- An insertion tells what its table says.
use Rattle.std.specs.Prelude.{ℕ, ◌≡◌, Bool, not, cond, ◌||◌, ltb, Float, Err, Ok, Result}
use Rattle.std.proofs.Math.Path.{refl}
use Rattle.std.proofs.Math.Bool.{true, false}
use Rattle.std.specs.Float.Ieee.{binary64, sub}
use Rattle.float64.specs.Unit.{in_unit}
use Rattle.control_point.specs.Direction.{flip_of}
use Rattle.control_point.specs.Point.{is_made, is_opening, link_end}
use Rattle.control_point.specs.Sides.{side_at, linked_of, interval_of}
use Rattle.control_point.specs.Small.{small}
use Rattle.control_point.specs.Told.{Told, unless}
use Rattle.control_point.specs.declared.refusal.Refusal.TheVariants.{NoPoint, Ratio, Foreign, Interval, Full}
use Rattle.control_point.specs.declared.t_mesh_control_point.Side.{Side}
use Rattle.control_point.specs.declared.t_mesh_control_point.Side.TheVariants.{Link, Border, Opening}
use Rattle.control_point.specs.declared.t_mesh_direction.TmeshDirection.{TmeshDirection}
use Rattle.store.specs.Store.{store_sides}
use Rattle.store.specs.declared.store.Store.{Store}
use Rattle.insertion.specs.Insert.{counted, insert_told, checked_intervals, checked_facing, checked_side, checked, placed, tears, counted_answer, first_side, second_side, sided, passed, insert_point}
use Rattle.insertion.specs.Table.{placed_table, link_table, insertion_table}
use Rattle.control_point.specs.declared.refusal.Refusal.{Refusal}
use Rattle.control_point.specs.declared.t_mesh_control_point.LinkEnd.{LinkEnd}

counted_told : (torn : Bool) (opened inferred : ℕ) → insert_told (counted_answer torn opened inferred) ≡ counted (cond torn 8 0) opened inferred
counted_told true opened inferred = refl
counted_told false opened inferred = refl

sided_told : (e : Float) (store : Store) (con p : ℕ) (d : TmeshDirection) → insert_told (sided e store con p d).answer ≡ placed_table e store con p d
unfolding sided
sided_told e store con p d = counted_told (tears (first_side e store con p d) || tears (second_side e store con p d)) _ _

module _ (e : Float) (store : Store) (con : ℕ) (d : TmeshDirection) (ratio : Float) where
  abbrev told : Result LinkEnd Refusal → Told
  told checks = insert_told (passed store checks (λ other interval. sided e (placed store con other d interval ratio) con store.made d)).answer

  abbrev facing_at : ℕ → Result Side Refusal
  facing_at other = side_at (store_sides store) store.made other (flip_of d)

  module _ (other : ℕ) (interval : Float) where
    by_room : (close room : Bool)
        → told (cond close (cond room (Ok (link_end other interval)) (Err Full)) (Err Interval))
        ≡ unless 6 close (unless 10 room (placed_table e (placed store con other d interval ratio) con store.made d))
    by_room true true = sided_told e (placed store con other d interval ratio) con store.made d
    by_room true false = refl
    by_room false room = refl

    by_facing : (made : Bool) (facing : Side)
        → told (checked_facing e store.made other interval (cond made (Ok facing) (Err NoPoint)))
        ≡ unless 11 made
        (unless 3 (not (is_opening facing))
        (unless 6 (small e (sub binary64 interval (interval_of facing)))
        (unless 10 (ltb store.made 128) (placed_table e (placed store con other d interval ratio) con store.made d))))
    unfolding checked_intervals
    by_facing true (Link n k) = by_room (small e (sub binary64 interval k)) (ltb store.made 128)
    by_facing true (Border weight) = by_room (small e (sub binary64 interval weight)) (ltb store.made 128)
    by_facing true Opening = refl
    by_facing false facing = refl

  by_side : (made : Bool) (side : Side)
      → told (checked_side e store.made (cond made (Ok side) (Err NoPoint)) facing_at)
      ≡ unless 11 made (link_table e store con d ratio side (store_sides store (linked_of side) (flip_of d)))
  by_side true (Link other interval) = by_facing other interval (is_made store.made other) (store_sides store other (flip_of d))
  by_side true (Border weight) = refl
  by_side true Opening = refl
  by_side false side = refl

  pub insertion_told : (listed : Bool) → insert_told (insert_point e store listed con d ratio).answer ≡ insertion_table e store listed con d ratio
  unfolding insert_point checked insertion_table
  insertion_told listed = by_tests (in_unit ratio) listed
    where
      by_tests : (unit listed : Bool)
          → told (cond unit (cond listed (checked_side e store.made (side_at (store_sides store) store.made con d) facing_at) (Err Foreign)) (Err Ratio))
          ≡ unless 1 unit (unless 2 listed (unless 11 (is_made store.made con) (link_table e store con d ratio (store_sides store con d) (store_sides store (linked_of (store_sides store con d)) (flip_of d)))))
      by_tests true true = by_side (is_made store.made con) (store_sides store con d)
      by_tests true false = refl
      by_tests false listed = refl
