-- A stored call on a store: a byte for its kind, its arguments, and the answer that it must give. oracle/README.md has the table of kinds.
-- A call's bytes are the list from its first byte on; whatever stands behind them is not read.
use Rattle.std.specs.Prelude.{ℕ, ◌+◌, Bool, cond, ◌&&◌, List, eqb, Err, Ok, Result}
use Rattle.control_point.specs.Direction.{direction_numbered}
use Rattle.control_point.specs.Refusal.{refusal_number}
use Rattle.control_point.specs.Told.{number_of}
use Rattle.control_point.specs.declared.t_mesh_direction.TmeshDirection.{TmeshDirection}
use Rattle.store.specs.Store.{make_loose, connect_points, remove_connection, remove_edge_condition, set_edge_con_weight, set_knot_coordinates, navigate_until_con}
use Rattle.store.specs.declared.store.Changed.{Changed}
use Rattle.store.specs.declared.store.Store.{Store}
use Rattle.big_endian.specs.BigEndian.{byte_at, number_at, float_at}
use Rattle.stored_calls.specs.Points.{has_bits}
use Rattle.stored_calls.specs.declared.call.Replayed.{Replayed}
use Rattle.control_point.specs.declared.refusal.Refusal.{Refusal}
use Rattle.navigation.specs.declared.walk.Walk.{Walk}

-- the direction whose number stands at a place
abbrev pub direction_at : List ℕ → ℕ → TmeshDirection
direction_at call at = direction_numbered (byte_at call at)

-- the call of a kind that changes the store, made
unfoldable pub change : ℕ → List ℕ → Store → Changed
change kind call store =
    cond (eqb kind 0) (make_loose store (float_at call 1))
    (cond (eqb kind 1) (connect_points store (byte_at call 1) (byte_at call 2) (direction_at call 3) (float_at call 4))
    (cond (eqb kind 5) (set_knot_coordinates store (byte_at call 1) (float_at call 2) (float_at call 10))
    (cond (eqb kind 2) (remove_connection store (byte_at call 1) (direction_at call 2))
    (cond (eqb kind 3) (remove_edge_condition store (byte_at call 1) (direction_at call 2))
    (set_edge_con_weight store (byte_at call 1) (direction_at call 2) (float_at call 3))))))

-- where the answer of such a call stands: behind its arguments
unfoldable pub answer_place : ℕ → ℕ
answer_place kind = cond (eqb kind 0) 9 (cond (eqb kind 1) 12 (cond (eqb kind 2) 3 (cond (eqb kind 3) 3 (cond (eqb kind 5) 18 11))))

-- a call made, held against its answer: the number of what came of it
unfoldable pub settled : Changed → List ℕ → ℕ → Replayed
settled changed call place = record {
  store = changed.store;
  right = eqb (number_of changed.outcome) (byte_at call place);
  bytes = place + 1;
}

-- whether a walk answered a number, and of one that was not refused the point, the moves and the bits of the sum
unfoldable pub walk_is_right : Result Walk Refusal → ℕ → ℕ → ℕ → ℕ → Bool
walk_is_right (Ok walk) number point moves bits =
    (eqb number 0 && eqb point walk.at) && (eqb moves walk.moves && has_bits walk.sum bits)
walk_is_right (Err refusal) number point moves bits = eqb number (refusal_number refusal)

-- how many bytes a stored walk takes: more, where a point was reached
abbrev pub walk_bytes : ℕ → ℕ
walk_bytes number = cond (eqb number 0) 15 5

-- a stored walk, made: it leaves the store as it is
unfoldable pub replay_walk : List ℕ → Store → Replayed
unfolding walk_is_right
replay_walk call store = record {
  store = store;
  right =
      walk_is_right (navigate_until_con store (byte_at call 1) (direction_at call 2) (direction_at call 3))
      (byte_at call 4) (byte_at call 5) (byte_at call 6) (number_at 8 call 7);
  bytes = walk_bytes (byte_at call 4);
}

-- a stored call of a kind, made
unfoldable pub replay_call : ℕ → List ℕ → Store → Replayed
unfolding replay_walk settled change answer_place
replay_call kind call store =
    cond (eqb kind 6) (replay_walk call store) (settled (change kind call store) call (answer_place kind))
