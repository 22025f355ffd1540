-- A stored list of direct calls: two bytes for how many there are, the calls with their answers, and the store that they leave. The calls are made
-- one after the other on a store that starts empty.
use Rattle.std.specs.Prelude.{ℕ, zero, suc, ◌+◌, ◌*◌, Bool, true, ◌&&◌, List, eqb, drop, length}
use Rattle.store.specs.Store.{empty_store}
use Rattle.store.specs.declared.store.Store.{Store}
use Rattle.stored_calls.specs.Call.{replay_call}
use Rattle.stored_calls.specs.Points.{store_is_right}
use Rattle.stored_calls.specs.declared.call.Replayed.{Replayed}
use Rattle.big_endian.specs.BigEndian.{byte_at, number_at}

-- what follows a call: the bytes behind it, the store after it, and whether all calls so far were right
abbrev pub onward : (List ℕ → Store → Bool → Bool) → List ℕ → Bool → Replayed → Bool
onward next bytes right replayed = next (drop replayed.bytes bytes) replayed.store (right && replayed.right)

-- whether bytes are a store: 56 for each point made and one, and nothing behind them
abbrev pub is_store : Store → List ℕ → Bool
is_store store bytes = eqb (length bytes) (store.made * 56 + 1) && store_is_right store bytes

-- whether so many calls, on a store, give the answers stored and leave the store stored behind them, and those before them were right
unfoldable pub calls_are_right : ℕ → List ℕ → Store → Bool → Bool
calls_are_right zero bytes store right = right && is_store store bytes
calls_are_right (suc left) bytes store right = onward (calls_are_right left) bytes right (replay_call (byte_at bytes 0) bytes store)

-- whether a list's calls do
abbrev pub is_right : List ℕ → Bool
is_right list = calls_are_right (number_at 2 list 0) (drop 2 list) empty_store true
