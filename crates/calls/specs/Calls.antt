-- A list of calls on one map. Its entries are insertions, those that stay where they are torn (`add_control_point`) and those that are then withdrawn (`add_or_withdraw`), evaluations
-- (`subs`), set-points (`set_point`), questions which points reach a cell (`cell_points`) and settings of a point's pull (`set_pull`), in any order, with any arguments, whatever they answer. Each gets
-- the map as the one before left it, after a refusal too. The calls are the definitions that the contracts of the code cite; that of `add_control_point` is by the rule that lets torn insertions stay
-- (`added_staying`, crates/t_mesh/proofs/InsertionLaws.antt).
use Rattle.std.specs.Prelude.{ℕ, Bool, false, List, [], ◌∷◌, Float, Result, ⊤}
use Rattle.control_point.specs.declared.t_mesh_direction.TmeshDirection.{TmeshDirection}
use Rattle.t_mesh.specs.Insertion.{add_by_rule}
use Rattle.t_mesh.specs.declared.t_mesh.Position.{Position}
use Rattle.t_mesh.specs.declared.t_mesh.Tmesh.{Tmesh}
use Rattle.pull.specs.Pull.{set_pull}
use Rattle.cells.specs.Cells.{cell_points}
use Rattle.surface.specs.Evaluation.{subs_of}
use Rattle.surface.specs.SetPoint.{set_point}
use Rattle.control_point.specs.declared.refusal.Refusal.{Refusal}
use Rattle.insertion.specs.declared.insertion.Insertion.{Insertion}
use Rattle.grid_index.specs.declared.Cell.{Cell}
use Rattle.surface.specs.declared.evaluation.Evaluation.{Evaluation}

-- a call: an insertion, withdrawn where it is torn or not, towards a direction of a point, at a ratio, of a position; an evaluation at (s, t); the set-point at
-- (s, t); a question of a cell's byte; or the setting of a point's pull
pub data Call : Type 0 where
  insertion : Bool → ℕ → TmeshDirection → Float → Position → Call
  evaluation : Float → Float → Call
  set_point_call : Float → Float → Call
  question : ℕ → Call
  pulling : ℕ → Float → Call

-- a set-point answers as an evaluation does: a value, or a refusal
pub data Answer : Type 0 where
  inserted : Result Insertion Refusal → Answer
  evaluated : Result Evaluation Refusal → Answer
  questioned : Result Cell Refusal → Answer
  pulled : Result ⊤ Refusal → Answer

-- whether a call withdraws a torn insertion
abbrev pub call_withdraws : Call → Bool
call_withdraws (insertion withdraws con d ratio position) = withdraws
call_withdraws (evaluation s t) = false
call_withdraws (set_point_call s t) = false
call_withdraws (question cell) = false
call_withdraws (pulling n pull) = false

-- what a call on a map answers, with closeness e
abbrev pub answer_to : Float → Tmesh → Call → Answer
answer_to e map (insertion withdraws con d ratio position) = inserted (add_by_rule withdraws e map con d ratio position).answer
answer_to e map (evaluation s t) = evaluated (subs_of e map s t).answer
answer_to e map (set_point_call s t) = evaluated (set_point e map s t).answer
answer_to e map (question cell) = questioned (cell_points e map cell).answer
answer_to e map (pulling n pull) = pulled (set_pull map n pull).outcome

-- the map after it
abbrev pub map_after : Float → Tmesh → Call → Tmesh
map_after e map (insertion withdraws con d ratio position) = (add_by_rule withdraws e map con d ratio position).map
map_after e map (evaluation s t) = (subs_of e map s t).map
map_after e map (set_point_call s t) = (set_point e map s t).map
map_after e map (question cell) = (cell_points e map cell).map
map_after e map (pulling n pull) = (set_pull map n pull).map

-- a call with its answer
pub record Event : Type 0 where
  pub call : Call
  pub answer : Answer

-- the calls of a list with their answers, one after the other
unfoldable pub run_of : Float → Tmesh → List Call → List Event
run_of e map [] = []
run_of e map (call ∷ rest) = record { call = call; answer = answer_to e map call } ∷ run_of e (map_after e map call) rest
