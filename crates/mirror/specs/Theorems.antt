-- Theorems on direct calls: statements only, with what they speak of.
use Rattle.std.specs.Prelude.{ℕ, ◌<◌, ◌≤◌, ◌+◌, ◌≡◌, true, false, List, [], ◌∷◌, Float, Ok}
use Rattle.std.specs.Float.{binary64}
use Rattle.std.specs.Float.Ieee.{add}
use Rattle.float64.specs.Literals.{one_literal}
use Rattle.control_point.specs.Point.{is_link}
use Rattle.control_point.specs.Sides.{Sides}
use Rattle.navigation.specs.Walk.{walk_of, walk_number, walk_to}
use Rattle.control_point.specs.declared.t_mesh_direction.TmeshDirection.{TmeshDirection}
use Rattle.control_point.specs.declared.t_mesh_direction.TmeshDirection.TheVariants.{Up, Right, Left}
use Rattle.control_point.specs.declared.t_mesh_control_point.Side.TheVariants.{Link}
use Rattle.store.specs.Store.{empty_store}
use Rattle.store.specs.declared.store.Store.{Store}
use Rattle.mirror.specs.Calls.{Call, make_loose_call, connect, remove_edge_condition_call, navigate_until_con_call, call_store, call_number, run_calls, call_numbers}
use Rattle.mirror.specs.Mirror.{Sound}

-- ---- lists of calls
-- After every list of calls on the empty store, with any arguments and refused calls among them, the store is sound: each link of a
-- made point leads to another made point, whose facing side links back with the same interval.
abbrev pub EveryListMirrored : Type 0
EveryListMirrored = (calls : List Call) → Sound (run_calls empty_store calls)

-- On every store, a call whose answer is not 0 leaves the store as it was.
abbrev pub RefusedUnchanged : Type 0
RefusedUnchanged = (store : Store) (call : Call) → (call_number store call ≡ 0 → ⊥) → call_store store call ≡ store

-- ---- the walk
-- so many moves along travel from a start lead to a point with a sum: each move is over a link; the sum is the first one's interval,
-- to which the next ones' are added in order; no point from which a move but the first is made has a link on its watch side
pub data Moved (sides : Sides) (travel watch : TmeshDirection) (start : ℕ) : ℕ → ℕ → Float → Type 0 where
  first : {n : ℕ} {interval : Float} → sides start travel ≡ Link n interval → Moved sides travel watch start 1 n interval
  next : {moves at n : ℕ} {sum interval : Float} → Moved sides travel watch start moves at sum → is_link (sides at watch) ≡ false
      → sides at travel ≡ Link n interval → Moved sides travel watch start (moves + 1) n (add binary64 sum interval)

-- what a walk that ends at a point has done, where so many are made
pub record Walked (sides : Sides) (made start : ℕ) (travel watch : TmeshDirection) (n : ℕ) (sum : Float) (moves : ℕ) : Type 0 where
  pub some : 1 ≤ moves
  pub few : moves ≤ made
  pub way : Moved sides travel watch start moves n sum
  pub leads : n < made
  pub watched : is_link (sides n watch) ≡ true

-- A walk that ends at a point has made at least one move and no more than there are points; its point and its sum are those to which
-- that many moves lead; the point is made and has a link on its watch side, and none that the walk passed has one.
abbrev pub MovesAreSteps : Type 0
MovesAreSteps =
    (sides : Sides) (made start : ℕ) (travel watch : TmeshDirection) (n : ℕ) (sum : Float) (moves : ℕ)
    → walk_of sides made start travel watch ≡ Ok (walk_to n sum moves) → Walked sides made start travel watch n sum moves

-- a walk that has made as many moves as points are made, and would go on: the point where it stands has no link on its watch side and
-- one along travel
pub record Ringed (sides : Sides) (made start : ℕ) (travel watch : TmeshDirection) : Type 0 where
  pub at : ℕ
  pub sum : Float
  pub way : Moved sides travel watch start made at sum
  pub unwatched : is_link (sides at watch) ≡ false
  pub onwards : is_link (sides at travel) ≡ true

-- A walk is 9 only where as many moves as points are made lead to no end, and one more would be needed.
abbrev pub RingIsNeeded : Type 0
RingIsNeeded =
    (sides : Sides) (made start : ℕ) (travel watch : TmeshDirection) → walk_number (walk_of sides made start travel watch) ≡ 9
    → Ringed sides made start travel watch

-- ---- a reading: two loose points linked Right both ways
-- two points made, their Right and Left sides opened, then both links made
abbrev pub ring_calls : List Call
ring_calls =
    make_loose_call one_literal
    ∷ make_loose_call one_literal
    ∷ remove_edge_condition_call 0 Right
    ∷ remove_edge_condition_call 0 Left
    ∷ remove_edge_condition_call 1 Right
    ∷ remove_edge_condition_call 1 Left
    ∷ connect 0 1 Right one_literal
    ∷ connect 1 0 Right one_literal
    ∷ []

-- These calls are all done, and then a walk Right watching Up is 9.
abbrev pub RingIsNine : Type 0
RingIsNine =
    (call_numbers empty_store ring_calls ≡ 0 ∷ 0 ∷ 0 ∷ 0 ∷ 0 ∷ 0 ∷ 0 ∷ 0 ∷ [])
    × (call_number (run_calls empty_store ring_calls) (navigate_until_con_call 0 Right Up) ≡ 9)
