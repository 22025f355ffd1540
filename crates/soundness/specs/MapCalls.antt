-- A list of calls on one map: insertions by either rule on torn ones, evaluations, set-points, questions of cells and settings of pulls, buildings of the knots, the calls on its store that only look at
-- it (the knots of one point, a ray), and the direct calls on that store, a point made alone among them; in any order, with any arguments, whatever they answer. A
-- direct call leaves the listing, the places, the kept knots and their index as they are. Lending a map is none of them: it leaves the map that an
-- evaluation leaves (the theorem `LendingIsSubs` of lent_surface).
use Rattle.std.specs.Prelude.{ℕ, Bool, true, false, ◌&&◌, List, [], ◌∷◌, Float}
use Rattle.control_point.specs.Point.{is_made}
use Rattle.control_point.specs.Told.{Told, outcome_told}
use Rattle.control_point.specs.declared.t_mesh_direction.TmeshDirection.{TmeshDirection}
use Rattle.store.specs.declared.store.Store.{Store}
use Rattle.mirror.specs.Calls.{Call as Direct, make_loose_call, connect, remove_connection_call, remove_edge_condition_call, set_edge_con_weight_call, set_knot_coordinates_call, navigate_until_con_call, read_side_call, read_point_call, call_store, call_told}
use Rattle.insertion.specs.Insert.{insert_told, is_done}
use Rattle.ray.specs.Knots.{point_knot_vectors, knots_told}
use Rattle.ray.specs.Ray.{cast_ray, cast_told}
use Rattle.t_mesh.specs.Tmesh.{store_of, with_store}
use Rattle.t_mesh.specs.declared.t_mesh.Tmesh.{Tmesh}
use Rattle.knot_vectors.specs.Knots.{generate_knot_vectors}
use Rattle.cells.specs.Cells.{cell_told}
use Rattle.surface.specs.Evaluation.{evaluation_told}
use Rattle.calls.specs.Calls.{Call, insertion, evaluation, set_point_call, question, pulling, Answer, inserted, evaluated, questioned, pulled, call_withdraws, answer_to, map_after}

-- an insertion, an evaluation, a set-point, a question or the setting of a pull; the building of all knots; the knots of a point; a ray from a point into a buffer; a direct call
pub data MapCall : Type 0 where
  entry : Call → MapCall
  generate_knot_vectors_call : MapCall
  point_knot_vectors_call : ℕ → MapCall
  cast_ray_call : ℕ → TmeshDirection → List Float → MapCall
  direct : Direct → MapCall

-- whether a call withdraws a torn insertion; none but an insertion does
abbrev pub map_call_withdraws : MapCall → Bool
map_call_withdraws (entry call) = call_withdraws call
map_call_withdraws generate_knot_vectors_call = false
map_call_withdraws (point_knot_vectors_call n) = false
map_call_withdraws (cast_ray_call n d buffer) = false
map_call_withdraws (direct call) = false

-- the map after a call, with closeness e
abbrev pub after_call : Float → Tmesh → MapCall → Tmesh
after_call e map (entry call) = map_after e map call
after_call e map generate_knot_vectors_call = (generate_knot_vectors e map).map
after_call e map (point_knot_vectors_call n) = map
after_call e map (cast_ray_call n d buffer) = map
after_call e map (direct call) = with_store map (call_store (store_of map) call)

-- the map after a list of calls, each on the map that the one before it left
unfoldable pub map_after_all : Float → Tmesh → List MapCall → Tmesh
map_after_all e map [] = map
map_after_all e map (call ∷ rest) = map_after_all e (after_call e map call) rest

-- a list of insertions, evaluations, set-points, questions and settings of pulls alone, and one of direct calls alone
unfoldable pub entries : List Call → List MapCall
entries [] = []
entries (call ∷ rest) = entry call ∷ entries rest

unfoldable pub directs : List Direct → List MapCall
directs [] = []
directs (call ∷ rest) = direct call ∷ directs rest

-- ---- answers
-- what an answer tells
abbrev pub answer_told : Answer → Told
answer_told (inserted answer) = insert_told answer
answer_told (evaluated answer) = evaluation_told answer
answer_told (questioned answer) = cell_told answer
answer_told (pulled outcome) = outcome_told outcome

-- what a call tells
abbrev pub told_to : Float → Tmesh → MapCall → Told
told_to e map (entry call) = answer_told (answer_to e map call)
told_to e map generate_knot_vectors_call = outcome_told (generate_knot_vectors e map).outcome
told_to e map (point_knot_vectors_call n) = knots_told (point_knot_vectors e (store_of map) n)
told_to e map (cast_ray_call n d buffer) = cast_told (cast_ray e (store_of map) n d buffer)
told_to e map (direct call) = call_told (store_of map) call

-- the number that a call answers
abbrev pub number_to : Float → Tmesh → MapCall → ℕ
number_to e map call = (told_to e map call).number

-- whether an answer is that of an insertion done, and whether a call is such an insertion
abbrev pub lists_point : Answer → Bool
lists_point (inserted answer) = is_done answer
lists_point (evaluated answer) = false
lists_point (questioned answer) = false
lists_point (pulled outcome) = false

abbrev pub adds_point : Float → Tmesh → MapCall → Bool
adds_point e map (entry call) = lists_point (answer_to e map call)
adds_point e map generate_knot_vectors_call = false
adds_point e map (point_knot_vectors_call n) = false
adds_point e map (cast_ray_call n d buffer) = false
adds_point e map (direct call) = false

-- whether a call is a set-point
abbrev pub is_set_point : Call → Bool
is_set_point (insertion withdraws con d ratio position) = false
is_set_point (evaluation s t) = false
is_set_point (set_point_call s t) = true
is_set_point (question cell) = false
is_set_point (pulling n pull) = false

abbrev pub asks_set_point : MapCall → Bool
asks_set_point (entry call) = is_set_point call
asks_set_point generate_knot_vectors_call = false
asks_set_point (point_knot_vectors_call n) = false
asks_set_point (cast_ray_call n d buffer) = false
asks_set_point (direct call) = false

-- ---- the points that a call is given
-- whether every point that a direct call is given was made
abbrev pub given_made : Store → Direct → Bool
given_made store (make_loose_call weight) = true
given_made store (connect first other d interval) = is_made store.made first && is_made store.made other
given_made store (remove_connection_call n d) = is_made store.made n
given_made store (remove_edge_condition_call n d) = is_made store.made n
given_made store (set_edge_con_weight_call n d weight) = is_made store.made n
given_made store (set_knot_coordinates_call n s t) = is_made store.made n
given_made store (navigate_until_con_call start travel watch) = is_made store.made start
given_made store (read_side_call n d) = is_made store.made n
given_made store (read_point_call n) = is_made store.made n

-- one of the calls of a list; an insertion asks before whether its point is listed, so it counts as given none
abbrev pub entry_made : Store → Call → Bool
entry_made store (insertion withdraws con d ratio position) = true
entry_made store (evaluation s t) = true
entry_made store (set_point_call s t) = true
entry_made store (question cell) = true
entry_made store (pulling n pull) = is_made store.made n

-- and any call on a map
abbrev pub points_made : Tmesh → MapCall → Bool
points_made map (entry call) = entry_made (store_of map) call
points_made map generate_knot_vectors_call = true
points_made map (point_knot_vectors_call n) = is_made (store_of map).made n
points_made map (cast_ray_call n d buffer) = is_made (store_of map).made n
points_made map (direct call) = given_made (store_of map) call
