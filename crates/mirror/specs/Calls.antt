-- Lists of direct calls on one store. A call is one of the store's calls with any arguments; it answers a number, 0 where it is not
-- refused, and leaves a store, which the next call gets. The calls that only read leave the store as it is.
use Rattle.std.specs.Prelude.{ℕ, List, [], ◌∷◌, Float}
use Rattle.control_point.specs.Told.{Told, outcome_told, side_told}
use Rattle.navigation.specs.Walk.{walk_told}
use Rattle.control_point.specs.declared.t_mesh_direction.TmeshDirection.{TmeshDirection}
use Rattle.store.specs.Store.{make_loose, connect_points, remove_connection, remove_edge_condition, set_edge_con_weight, set_knot_coordinates, navigate_until_con, read_side, read_point, point_told}
use Rattle.store.specs.declared.store.Store.{Store}

-- a direct call with its arguments: numbers of points, directions, then floats (weight, interval, s and t); the walk's are its start,
-- travel and watch
pub data Call : Type 0 where
  make_loose_call : Float → Call
  connect : ℕ → ℕ → TmeshDirection → Float → Call
  remove_connection_call : ℕ → TmeshDirection → Call
  remove_edge_condition_call : ℕ → TmeshDirection → Call
  set_edge_con_weight_call : ℕ → TmeshDirection → Float → Call
  set_knot_coordinates_call : ℕ → Float → Float → Call
  navigate_until_con_call : ℕ → TmeshDirection → TmeshDirection → Call
  read_side_call : ℕ → TmeshDirection → Call
  read_point_call : ℕ → Call

-- the store after a call
abbrev pub call_store : Store → Call → Store
call_store store (make_loose_call weight) = (make_loose store weight).store
call_store store (connect first other d interval) = (connect_points store first other d interval).store
call_store store (remove_connection_call n d) = (remove_connection store n d).store
call_store store (remove_edge_condition_call n d) = (remove_edge_condition store n d).store
call_store store (set_edge_con_weight_call n d weight) = (set_edge_con_weight store n d weight).store
call_store store (set_knot_coordinates_call n s t) = (set_knot_coordinates store n s t).store
call_store store (navigate_until_con_call start travel watch) = store
call_store store (read_side_call n d) = store
call_store store (read_point_call n) = store

-- what it tells
abbrev pub call_told : Store → Call → Told
call_told store (make_loose_call weight) = outcome_told (make_loose store weight).outcome
call_told store (connect first other d interval) = outcome_told (connect_points store first other d interval).outcome
call_told store (remove_connection_call n d) = outcome_told (remove_connection store n d).outcome
call_told store (remove_edge_condition_call n d) = outcome_told (remove_edge_condition store n d).outcome
call_told store (set_edge_con_weight_call n d weight) = outcome_told (set_edge_con_weight store n d weight).outcome
call_told store (set_knot_coordinates_call n s t) = outcome_told (set_knot_coordinates store n s t).outcome
call_told store (navigate_until_con_call start travel watch) = walk_told (navigate_until_con store start travel watch)
call_told store (read_side_call n d) = side_told (read_side store n d)
call_told store (read_point_call n) = point_told (read_point store n)

-- its answer number
abbrev pub call_number : Store → Call → ℕ
call_number store call = (call_told store call).number

-- the store after a list of calls, each on the store that the one before it left
unfoldable pub run_calls : Store → List Call → Store
run_calls store [] = store
run_calls store (call ∷ calls) = run_calls (call_store store call) calls

-- the answer numbers of a list of calls, in order
unfoldable pub call_numbers : Store → List Call → List ℕ
call_numbers store [] = []
call_numbers store (call ∷ calls) = call_number store call ∷ call_numbers (call_store store call) calls
