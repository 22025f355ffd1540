-- The plate readings, on a map with border 1.0 and any four corners, at its closeness of a millionth. No reading
-- looks at a position, so those of the corners and of the points inserted are any.
use Rattle.std.specs.Prelude.{ℕ, ◌≡◌, List, [], ◌∷◌, Float, Ok}
use Rattle.std.specs.Float.{binary64}
use Rattle.std.specs.Float.Ieee.{of_bits}
use Rattle.float64.specs.Literals.{zero_literal, one_literal}
use Rattle.basis.specs.Binary64.{binary64_arithmetic, knots}
use Rattle.basis.specs.Formula.{formula}
use Rattle.control_point.specs.Point.{minus_one}
use Rattle.control_point.specs.Small.{millionth}
use Rattle.navigation.specs.Walk.{walk_number}
use Rattle.control_point.specs.declared.t_mesh_control_point.Side.TheVariants.{Link}
use Rattle.control_point.specs.declared.t_mesh_direction.TmeshDirection.{TmeshDirection}
use Rattle.control_point.specs.declared.t_mesh_direction.TmeshDirection.TheVariants.{Up, Right, Down, Left}
use Rattle.store.specs.Store.{store_sides, empty_store, make_loose, connect_points, remove_edge_condition, navigate_until_con}
use Rattle.store.specs.declared.store.Store.{Store}
use Rattle.insertion.specs.Insert.{answer_number}
use Rattle.insertion.specs.declared.insertion.Insertion.TheVariants.{Done, Torn}
use Rattle.ray.specs.Ray.{cast_ray}
use Rattle.ray.specs.Knots.{point_knot_vectors}
use Rattle.ray.specs.declared.knots.KnotsAnswer.{KnotsAnswer}
use Rattle.t_mesh.specs.Tmesh.{store_of, new_tmesh}
use Rattle.t_mesh.specs.Insertion.{add_control_point}
use Rattle.t_mesh.specs.declared.t_mesh.Position.{Position}
use Rattle.t_mesh.specs.declared.t_mesh.Tmesh.{Tmesh}
use Rattle.t_mesh.specs.declared.add.Added.{Added}
use Rattle.census.specs.Census.{counts_of}
use Rattle.calls.specs.ExampleValues.{half, two}

-- 0.46875
abbrev pub fifteen_thirty_seconds : Float
fifteen_thirty_seconds = of_bits binary64 0x3fde_0000_0000_0000

-- knots that are the same in s and t
abbrev pub alike : List Float → KnotsAnswer
alike five = record { outcome = Ok tt; knots = record { s = five; t = five } }

-- ---- the two loose points of the last reading
-- a point's right and left sides opened
abbrev pub opened : Store → ℕ → Store
opened store n = (remove_edge_condition (remove_edge_condition store n Right).store n Left).store

-- two points made alone
abbrev pub two_loose : Store
two_loose = (make_loose (make_loose empty_store one_literal).store one_literal).store

-- each joined to the right of the other at 1.0
abbrev pub linked_both_ways : Store
linked_both_ways = (connect_points (connect_points (opened (opened two_loose 0) 1) 0 1 Right one_literal).store 1 0 Right one_literal).store

-- ---- the readings
module _ (at_bottom_left at_bottom_right at_top_right at_top_left position : Position) where
  -- the fresh map
  abbrev pub plate : Tmesh
  plate = new_tmesh one_literal at_bottom_left at_bottom_right at_top_right at_top_left

  -- an insertion of the position
  abbrev pub inserted : Tmesh → ℕ → TmeshDirection → Float → Added
  inserted map con d ratio = add_control_point millionth map con d ratio position

  -- the knots of a corner of the fresh map
  abbrev pub knots_on_plate : ℕ → KnotsAnswer
  knots_on_plate n = point_knot_vectors millionth (store_of plate) n

  -- after ratio 0.0 from 0 Right; after 0.5 from 0 Right; and then 0.5 from 3 Right
  abbrev pub torn : Added
  torn = inserted plate 0 Right zero_literal

  abbrev pub after_first : Added
  after_first = inserted plate 0 Right half

  abbrev pub after_both : Added
  after_both = inserted after_first.map 3 Right half

  -- each reading, in order
  pub record Readings : Type 0 where
    -- point 0: s and t knots −1, −1, 0, 1, 2
    pub knots_at_bottom_left : knots_on_plate 0 ≡ alike (minus_one ∷ (minus_one ∷ (zero_literal ∷ (one_literal ∷ (two ∷ [])))))
    -- point 2: −1, 0, 1, 2, 2
    pub knots_at_top_right : knots_on_plate 2 ≡ alike (minus_one ∷ (zero_literal ∷ (one_literal ∷ (two ∷ (two ∷ [])))))
    -- the basis of the first at 0.5: 0.46875
    pub basis_at_half : formula binary64_arithmetic half (knots (knots_on_plate 0).knots.s) ≡ fifteen_thirty_seconds
    -- ratio 1.0 from 0 Right: done, opened 1, inferred 0
    pub ratio_one : (inserted plate 0 Right one_literal).answer ≡ Ok (Done 1 0)
    -- ratio 0.0 from 0 Right: torn, opened 1, made 5, listed 4
    pub ratio_zero : torn.answer ≡ Ok (Torn 1 0)
    pub ratio_zero_made : (counts_of torn.map).made ≡ 5
    pub ratio_zero_listed : (counts_of torn.map).listed ≡ 4
    -- a next insertion from 4, in any direction: 2
    pub from_torn : (d : TmeshDirection) → answer_number (inserted torn.map 4 d half).answer ≡ 2
    -- 0.5 from 0 Right, then from 3 Right: the second infers 5 to 4 at 1.0; 7 links
    pub second_infers : after_both.answer ≡ Ok (Done 1 1)
    pub five_to_four : store_sides (store_of after_both.map) 5 Down ≡ Link 4 one_literal
    pub four_to_five : store_sides (store_of after_both.map) 4 Up ≡ Link 5 one_literal
    pub seven_links : (counts_of after_both.map).links ≡ 7
    -- after the first alone, point 4's ray Up, length 2: 1.0, 1.0, whatever stood in the buffer
    pub ray_up : (x y : Float)
        → cast_ray millionth (store_of after_first.map) 4 Up (x ∷ (y ∷ [])) ≡ ((Ok tt), one_literal ∷ (one_literal ∷ []))
    -- from 0 Left: 4
    pub from_border : answer_number (inserted plate 0 Left half).answer ≡ 4
    -- the ray from 0 Left, length 3: 1.0, 0.0, 0.0; length 0: empty
    pub ray_left : (x y z : Float)
        → cast_ray millionth (store_of plate) 0 Left (x ∷ (y ∷ (z ∷ []))) ≡ ((Ok tt), one_literal ∷ (zero_literal ∷ (zero_literal ∷ [])))
    pub ray_empty : cast_ray millionth (store_of plate) 0 Left [] ≡ ((Ok tt), [])
    -- two loose points linked Right both ways: a walk Right watching Up is 9
    pub ring : walk_number (navigate_until_con linked_both_ways 0 Right Up) ≡ 9

-- for every four corners and position
abbrev pub PlateReadings : Type 0
PlateReadings = (at_bottom_left at_bottom_right at_top_right at_top_left position : Position) → Readings at_bottom_left at_bottom_right at_top_right at_top_left position
