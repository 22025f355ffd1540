-- Theorems on lists of calls on a map: statements only, with what they speak of. The lists are every list of insertions, evaluations, set-points, questions
-- of cells, settings of pulls, buildings of knots, rays and direct calls on a fresh map of any border weight and corners, with any closeness and any arguments, calls
-- refused, torn or withdrawn among them. Of the maps that they leave is said that links are mirrored and how they are counted, what is listed, that no
-- connect of an insertion fails, and where 11 is answered; the call that is spoken of may have a closeness other than the list's.
use Rattle.std.specs.Prelude.{ℕ, ◌<◌, ◌*◌, ◌≡◌, true, false, cond, not, ◌&&◌, ◌||◌, List, [], ◌∷◌, ◌⊎◌, eqb, Float, Err, Ok}
use Rattle.std.specs.Float.{inf}
use Rattle.float64.specs.Literals.{one_literal}
use Rattle.control_point.specs.Point.{is_link}
use Rattle.control_point.specs.Small.{millionth}
use Rattle.control_point.specs.Told.{refused_by}
use Rattle.control_point.specs.declared.t_mesh_direction.TmeshDirection.TheVariants.{Right}
use Rattle.mirror.specs.Calls.{Call as Direct, connect, remove_connection_call, run_calls}
use Rattle.calls.specs.ExampleValues.{half}
use Rattle.control_point.specs.Direction.{clockwise_of, anti_clockwise_of}
use Rattle.control_point.specs.Refusal.{refusal_number}
use Rattle.control_point.specs.declared.refusal.Refusal.{Refusal}
use Rattle.control_point.specs.declared.refusal.Refusal.TheVariants.{NoPoint}
use Rattle.control_point.specs.declared.t_mesh_direction.TmeshDirection.{TmeshDirection}
use Rattle.control_point.specs.declared.t_mesh_control_point.Side.TheVariants.{Link, Opening}
use Rattle.store.specs.Store.{store_sides, with_side_at, connect_points}
use Rattle.store.specs.declared.store.Store.{Store}
use Rattle.mirror.specs.Mirror.{Sound}
use Rattle.insertion.specs.Insert.{insert_told, is_refused, near_joined, far_joined, placed, sought, first_side, with_first, second_side, sided, insert_point}
use Rattle.insertion.specs.declared.insertion.NewSide.{NewSide}
use Rattle.insertion.specs.declared.insertion.NewSide.TheVariants.{Takes, Joins, Opens, Tears, Stays}
use Rattle.insertion.specs.declared.insertion.Inserted.{Inserted}
use Rattle.t_mesh.specs.Insertion.{add_control_point}
use Rattle.t_mesh.specs.Tmesh.{store_of, with_store, is_listed, new_tmesh}
use Rattle.t_mesh.specs.declared.t_mesh.Position.{Position}
use Rattle.t_mesh.specs.declared.t_mesh.Tmesh.{Tmesh}
use Rattle.surface.specs.Evaluation.{evaluation_number, with_knots, subs_of}
use Rattle.surface.specs.SetPoint.{on_map, set_point}
use Rattle.cells.specs.Cells.{cell_points}
use Rattle.census.specs.Census.{sides_that, counts_of}
use Rattle.soundness.specs.MapCalls.{MapCall, generate_knot_vectors_call, direct, map_call_withdraws, after_call, map_after_all, directs, adds_point, number_to, asks_set_point, points_made}

-- ---- the maps
-- what holds of the map after every list of calls on every fresh one
abbrev pub EveryMap : (Tmesh → Type 0) → Type 0
EveryMap Holds =
    (e weight : Float) (at_bottom_left at_bottom_right at_top_right at_top_left : Position) (calls : List MapCall)
    → Holds (map_after_all e (new_tmesh weight at_bottom_left at_bottom_right at_top_right at_top_left) calls)

-- Each link of a made point leads to another made point, whose facing side links back with the same interval, bit for bit.
abbrev pub EveryMapMirrored : Type 0
EveryMapMirrored = EveryMap (λ map. Sound (store_of map))

-- ---- direct calls
-- On every map: a list of direct calls leaves the map with the store that the same list leaves of the map's store. The listing, the places,
-- the kept knots and their index are as they were.
abbrev pub DirectCallsOnStore : Type 0
DirectCallsOnStore =
    (e : Float) (map : Tmesh) (calls : List Direct) → map_after_all e map (directs calls) ≡ with_store map (run_calls (store_of map) calls)

-- ---- the links counted
-- Each link that is counted has two ends: the link sides of made points are twice the links.
abbrev pub LinkSidesAreTwice : Type 0
LinkSidesAreTwice = EveryMap (λ map. sides_that is_link (store_of map) ≡ 2 * (counts_of map).links)

-- ---- the listing
-- Each number that is listed is made.
abbrev pub ListedIsMade : Type 0
ListedIsMade = EveryMap (λ map. (n : ℕ) → is_listed map n ≡ true → n < (store_of map).made)

-- An insertion done adds to the listing the number that was the count of points made before, and no other; every other call leaves the
-- listing as it was. As what was listed is made, so of a lower number, the listing is in number order.
abbrev pub ListingGrows : Type 0
ListingGrows =
    EveryMap
    (λ map.
    (e : Float) (call : MapCall) (n : ℕ)
    → is_listed (after_call e map call) n ≡ ((adds_point e map call && eqb n (store_of map).made) || is_listed map n))

-- ---- refusals
-- On every map: a call that is refused leaves the map as it was, the kept knots and their index too; one that is torn, 8, does so where it withdraws torn insertions. A set-point that is refused 15 leaves it
-- as its evaluation has it, with the knots kept or built.
abbrev pub RefusedKeepsMap : Type 0
RefusedKeepsMap =
    (e : Float) (map : Tmesh) (call : MapCall)
    → (number_to e map call ≡ 0 → ⊥)
    → (number_to e map call ≡ 8 → map_call_withdraws call ≡ true)
    → after_call e map call ≡ cond (asks_set_point call && eqb (number_to e map call) 15) (with_knots e map).map map

-- ---- the kept knots and their index
-- On every map: only an insertion done drops the kept knots and their index. Every other call, refused or not, leaves both kept, and they are
-- those kept before unless it is the building of all knots.
abbrev pub OnlyDoneDrops : Type 0
OnlyDoneDrops =
    (e : Float) (map : Tmesh) (call : MapCall)
    → map.kept ≡ true
    → adds_point e map call ≡ false
    → ((after_call e map call).kept ≡ true)
    × ((call ≡ generate_knot_vectors_call → ⊥) → ((after_call e map call).knots ≡ map.knots) × ((after_call e map call).index ≡ map.index))

-- ---- the connects of an insertion
-- a side of p that joins another point does so by a connect that is done
abbrev pub Connects : Store → ℕ → TmeshDirection → NewSide → Type 0
Connects store p f (Takes weight) = Unit {0}
Connects store p f (Joins n interval) = (connect_points (with_side_at store p f Opening) p n f interval).outcome ≡ Ok tt
Connects store p f Opens = Unit {0}
Connects store p f Tears = Unit {0}
Connects store p f Stays = Unit {0}

-- what came of an insertion into the link from con in direction d, all of whose connects are done: con's with the new point, the new
-- point's with the other, and that of an inferred link on either side
pub record Placing (e : Float) (store : Store) (con : ℕ) (d : TmeshDirection) (ratio : Float) (result : Inserted) : Type 0 where
  pub other : ℕ
  pub interval : Float
  pub link : store_sides store con d ≡ Link other interval
  pub is : result ≡ sided e (placed store con other d interval ratio) con store.made d
  pub near : (near_joined store con other d interval ratio).outcome ≡ Ok tt
  pub far : (far_joined store con other d interval ratio).outcome ≡ Ok tt
  pub first : Connects (placed store con other d interval ratio)
      store.made
      (clockwise_of d)
      (first_side e (placed store con other d interval ratio) con store.made d)
  pub second : Connects (with_first e (placed store con other d interval ratio) con store.made d)
      store.made
      (anti_clockwise_of d)
      (second_side e (placed store con other d interval ratio) con store.made d)

-- An insertion that passes its checks, so that it is done or torn: the two connects that place the point are done, and so is the connect of
-- each inferred link.
abbrev pub PlacingConnects : Type 0
PlacingConnects =
    EveryMap
    (λ map.
    (e : Float) (con : ℕ) (d : TmeshDirection) (ratio : Float) (position : Position)
    → is_refused (add_control_point e map con d ratio position).answer ≡ false
    → Placing e (store_of map) con d ratio (insert_point e (store_of map) (is_listed map con) con d ratio))

-- ---- 11, no point
-- what came of an insertion that passed its checks, neither of whose searches fails by 11: that for p's clockwise side, and that for the
-- anticlockwise one in the store with the first
pub record Seeking (e : Float) (store : Store) (con : ℕ) (d : TmeshDirection) (ratio : Float) (result : Inserted) : Type 0 where
  pub other : ℕ
  pub interval : Float
  pub link : store_sides store con d ≡ Link other interval
  pub is : result ≡ sided e (placed store con other d interval ratio) con store.made d
  pub first : sought e
      (store_sides (placed store con other d interval ratio))
      (placed store con other d interval ratio).made
      store.made
      (clockwise_of d)
      ≡ Err NoPoint → ⊥
  pub second : sought e
      (store_sides (with_first e (placed store con other d interval ratio) con store.made d))
      (placed store con other d interval ratio).made
      store.made
      (anti_clockwise_of d)
      ≡ Err NoPoint → ⊥

-- where 11 is met on a map: a call answers it where a point that it is given was never made, and nowhere else, so that an insertion, an
-- evaluation, a set-point, a question and the building of all knots never do, nor a walk, a ray, the knots or the setting of the pull of a made point; and no search of an insertion fails by it
pub record MeetsPoints (map : Tmesh) : Type 0 where
  pub answers : (e : Float) (call : MapCall) → eqb (number_to e map call) 11 ≡ not (points_made map call)
  pub seeks : (e : Float) (con : ℕ) (d : TmeshDirection) (ratio : Float) (position : Position)
      → is_refused (add_control_point e map con d ratio position).answer ≡ false
      → Seeking e (store_of map) con d ratio (insert_point e (store_of map) (is_listed map con) con d ratio)

-- Links and listing lead to made points only, so 11 does not arise inside a call.
abbrev pub NoPointNever : Type 0
NoPointNever = EveryMap MeetsPoints

-- ---- what an evaluation, a set-point and a question are refused by
-- one of a list
abbrev pub OneOf : ℕ → List ℕ → Type 0
OneOf n [] = ⊥
OneOf n (m ∷ rest) = (n ≡ m) ⊎ OneOf n rest

-- An evaluation is refused 3, 4 or 9, and by no other number.
abbrev pub EvaluationRefusals : Type 0
EvaluationRefusals =
    EveryMap
    (λ map. (e s t : Float) (refusal : Refusal) → (subs_of e map s t).answer ≡ Err refusal → OneOf (refusal_number refusal) (3 ∷ (4 ∷ (9 ∷ []))))

-- A set-point answers 0, 3, 4, 9, 15 or 20, and 20 exactly where s or t does not lie from 0 to 1.
abbrev pub SetPointNumbers : Type 0
SetPointNumbers =
    EveryMap
    (λ map.
    (e s t : Float)
    → let number = evaluation_number (set_point e map s t).answer in OneOf number (0 ∷ (3 ∷ (4 ∷ (9 ∷ (15 ∷ (20 ∷ [])))))) × (eqb number 20 ≡ not (on_map s t)))

-- A question is refused 3, 4 or 9, and by no other number.
abbrev pub QuestionRefusals : Type 0
QuestionRefusals =
    EveryMap
    (λ map. (e : Float) (cell : ℕ) (refusal : Refusal) → (cell_points e map cell).answer ≡ Err refusal → OneOf (refusal_number refusal) (3 ∷ (4 ∷ (9 ∷ []))))

-- ---- a reading: 0 Right cut, rejoined at infinity, ratio 0.5: 6
abbrev pub rejoined : List MapCall
rejoined = direct (remove_connection_call 0 Right) ∷ (direct (connect 0 1 Right (inf false)) ∷ [])

-- On the plate of border 1.0 and any corners, after these two direct calls, an insertion from 0 Right at 0.5 of any position is refused 6.
abbrev pub RejoinedIsSix : Type 0
RejoinedIsSix =
    (at_bottom_left at_bottom_right at_top_right at_top_left position : Position)
    → insert_told (add_control_point millionth (map_after_all millionth (new_tmesh one_literal at_bottom_left at_bottom_right at_top_right at_top_left) rejoined) 0 Right half position).answer
    ≡ refused_by 6
