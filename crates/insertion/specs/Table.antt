-- The table of an insertion: the number that it tells, by the checks in their order: the ratio, whether con is listed and made, its side, whether the other
-- point is made, the side that faces, the two intervals, and room. In each store, also one that no call makes: a number never made is 11, and an opening
-- that faces the link 3. The checks passed, it is 8 where a search failed and 0 where none did, with the counts.
use Rattle.std.specs.Prelude.{ℕ, ◌+◌, Bool, not, cond, ◌||◌, ltb, Float}
use Rattle.std.specs.Float.{binary64}
use Rattle.std.specs.Float.Ieee.{sub}
use Rattle.float64.specs.Unit.{in_unit}
use Rattle.control_point.specs.Direction.{flip_of}
use Rattle.control_point.specs.Point.{is_made, is_border, is_opening}
use Rattle.control_point.specs.Sides.{linked_of, interval_of}
use Rattle.control_point.specs.Small.{small}
use Rattle.control_point.specs.Told.{Told, unless}
use Rattle.control_point.specs.declared.t_mesh_control_point.Side.{Side}
use Rattle.control_point.specs.declared.t_mesh_direction.TmeshDirection.{TmeshDirection}
use Rattle.store.specs.Store.{store_sides}
use Rattle.store.specs.declared.store.Store.{Store}
use Rattle.insertion.specs.Insert.{counted, placed, tears, opened_count, inferred_count, first_side, second_side}
use Rattle.insertion.specs.declared.insertion.NewSide.{NewSide}

-- by what both sides became
abbrev pub sides_table : NewSide → NewSide → Told
sides_table first second =
    counted (cond (tears first || tears second) 8 0) (opened_count first + opened_count second) (inferred_count first + inferred_count second)

-- p placed
abbrev pub placed_table : Float → Store → ℕ → ℕ → TmeshDirection → Told
placed_table e store con p d = sides_table (first_side e store con p d) (second_side e store con p d)

-- by con's side and the one that faces it
abbrev pub link_table : Float → Store → ℕ → TmeshDirection → Float → Side → Side → Told
link_table e store con d ratio side facing =
    unless 3 (not (is_opening side))
    (unless 4 (not (is_border side))
    (unless 11 (is_made store.made (linked_of side))
    (unless 3 (not (is_opening facing))
    (unless 6 (small e (sub binary64 (interval_of side) (interval_of facing)))
    (unless 10 (ltb store.made 128)
    (placed_table e (placed store con (linked_of side) d (interval_of side) ratio) con store.made d))))))

unfoldable pub insertion_table : Float → Store → Bool → ℕ → TmeshDirection → Float → Told
insertion_table e store listed con d ratio =
    unless 1 (in_unit ratio)
    (unless 2 listed
    (unless 11 (is_made store.made con)
    (link_table e store con d ratio (store_sides store con d) (store_sides store (linked_of (store_sides store con d)) (flip_of d)))))
