-- What an answer tells its caller: its number, and the values beside it. A call that is not refused has the number 0. A refusal
-- has its number only; 8, torn, also its counts. Each answer enum has one definition of what it tells, `..Told`, beside the enum or here; and
-- each call has a table, `..Table`: the tests in their order, each with the number that is told unless it holds, and then what is told.
use Rattle.std.specs.Prelude.{ℕ, Bool, cond, List, [], ◌∷◌, Float, Err, Ok, Result, ⊤}
use Rattle.control_point.specs.Refusal.{refusal_number}
use Rattle.control_point.specs.declared.refusal.Refusal.{Refusal}
use Rattle.control_point.specs.declared.t_mesh_control_point.Side.{Side}

-- a count, a word, or a number of a point or of a map; a float; a side
pub data Value : Type 0 where
  natural : ℕ → Value
  float : Float → Value
  side : Side → Value

pub record Told : Type 0 where
  pub number : ℕ
  pub values : List Value

-- not refused
abbrev pub tells : List Value → Told
tells values = record { number = 0; values = values }

-- refused by a number
abbrev pub refused_by : ℕ → Told
refused_by number = record { number = number; values = [] }

-- a line of a table: this number, unless the test holds
abbrev pub unless : ℕ → Bool → Told → Told
unless number test next = cond test next (refused_by number)

-- ---- the answers
abbrev pub refusal_told : Refusal → Told
refusal_told refusal = refused_by (refusal_number refusal)

abbrev pub outcome_told : Result ⊤ Refusal → Told
outcome_told (Ok tt) = tells []
outcome_told (Err refusal) = refusal_told refusal

-- the answer number of any call, 0 where it is not refused
abbrev pub number_of : {A : Type 0} → Result A Refusal → ℕ
number_of (Ok value) = 0
number_of (Err refusal) = refusal_number refusal

abbrev pub outcome_number : Result ⊤ Refusal → ℕ
outcome_number outcome = (outcome_told outcome).number

abbrev pub side_told : Result Side Refusal → Told
side_told (Ok found) = tells (side found ∷ [])
side_told (Err refusal) = refusal_told refusal

-- what a first call's refusal tells, or else what the next tells
abbrev pub refused_or : Result ⊤ Refusal → Told → Told
refused_or (Ok tt) next = next
refused_or (Err refusal) next = refusal_told refusal
