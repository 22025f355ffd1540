-- ALIKE BUT FOR POSITIONS. Two maps are alike but for positions where they have the same store, the same listing and the same pulls, keep knots both or neither, and where they keep
-- them keep the same for each listed point. Nothing is asked of the index, nor of rows of knots that are not kept. Take any two such maps that lists of calls leave of fresh maps. Then they have the
-- same index, the same weights at every (s, t) and the same refusals; each call on both, also with different positions, answers the same but for positions and leaves the two alike
-- again, and so does every list of calls. Two fresh maps of one border weight are alike whatever their corners are, so that for lists on them nothing is asked of a map.
use Rattle.std.specs.Prelude.{ℕ, ◌≡◌, true, List, [], ◌∷◌, map, Float, Err, Ok, Result}
use Rattle.float64.specs.Literals.{zero_literal}
use Rattle.control_point.specs.Told.{Told}
use Rattle.calls.specs.Calls.{Call, insertion, evaluation, set_point_call, question, pulling, Answer, inserted, evaluated, questioned, pulled, answer_to}
use Rattle.cells.specs.Cells.{cell_points}
use Rattle.surface.specs.Evaluation.{evaluation_number, knots_of, weight_of, total_weight, with_knots}
use Rattle.surface.specs.SetPoint.{set_point}
use Rattle.t_mesh.specs.Tmesh.{store_of, is_listed, origin, new_tmesh}
use Rattle.t_mesh.specs.declared.t_mesh.Position.{Position}
use Rattle.t_mesh.specs.declared.t_mesh.Tmesh.{Tmesh}
use Rattle.soundness.specs.MapCalls.{MapCall, entry, generate_knot_vectors_call, point_knot_vectors_call, cast_ray_call, direct, after_call, map_after_all, told_to, answer_told}
use Rattle.control_point.specs.declared.refusal.Refusal.{Refusal}
use Rattle.surface.specs.declared.evaluation.Evaluation.{Evaluation}

-- ---- maps
-- the pulls of a map, number by number
abbrev pub pulls_of : Tmesh → List Float
pulls_of own = map (λ place. place.pull) own.mesh.places

pub record Alike (one other : Tmesh) : Type 0 where
  pub store : store_of one ≡ store_of other
  pub listing : one.mesh.listed ≡ other.mesh.listed
  pub pulls : pulls_of one ≡ pulls_of other
  pub kept : one.kept ≡ other.kept
  pub knots : one.kept ≡ true → (n : ℕ) → is_listed one n ≡ true → knots_of one n ≡ knots_of other n

-- ---- calls and answers without positions
-- a call with the origin for an insertion's position; a setting keeps its pull
abbrev pub without_position : Call → Call
without_position (insertion withdraws con d ratio position) = insertion withdraws con d ratio origin
without_position (evaluation s t) = evaluation s t
without_position (set_point_call s t) = set_point_call s t
without_position (question cell) = question cell
without_position (pulling n pull) = pulling n pull

abbrev pub call_without : MapCall → MapCall
call_without (entry call) = entry (without_position call)
call_without generate_knot_vectors_call = generate_knot_vectors_call
call_without (point_knot_vectors_call n) = point_knot_vectors_call n
call_without (cast_ray_call n d buffer) = cast_ray_call n d buffer
call_without (direct call) = direct call

-- an answer with the weight alone of an evaluation's or a set-point's value
abbrev pub value_without : Result Evaluation Refusal → Result Evaluation Refusal
value_without (Ok value) = Ok (record { x = zero_literal; y = zero_literal; z = zero_literal; weight = value.weight })
value_without (Err refusal) = Err refusal

abbrev pub answer_without : Answer → Answer
answer_without (inserted answer) = inserted answer
answer_without (evaluated answer) = evaluated (value_without answer)
answer_without (questioned answer) = questioned answer
answer_without (pulled outcome) = pulled outcome

-- what a call tells but for positions
abbrev pub told_without : Float → Tmesh → MapCall → Told
told_without e map (entry call) = answer_told (answer_without (answer_to e map call))
told_without e map generate_knot_vectors_call = told_to e map generate_knot_vectors_call
told_without e map (point_knot_vectors_call n) = told_to e map (point_knot_vectors_call n)
told_without e map (cast_ray_call n d buffer) = told_to e map (cast_ray_call n d buffer)
told_without e map (direct call) = told_to e map (direct call)

-- and what the calls of a list tell, one after the other
unfoldable pub all_told_without : Float → Tmesh → List MapCall → List Told
all_told_without e map [] = []
all_told_without e map (call ∷ rest) = told_without e map call ∷ all_told_without e (after_call e map call) rest

-- ---- what alike maps share, with any closeness
pub record Same (one other : Tmesh) : Type 0 where
  -- the building of knots, and so every evaluation and every question, is refused alike
  pub refusals : (e : Float) → (with_knots e one).outcome ≡ (with_knots e other).outcome
  -- not refused: the index, each listed point's weight, and the total weight
  pub indices : (e : Float) → (with_knots e one).outcome ≡ Ok tt → (with_knots e one).map.index ≡ (with_knots e other).map.index
  pub weights : (e : Float) → (with_knots e one).outcome ≡ Ok tt → (s t : Float) (n : ℕ) → is_listed one n ≡ true
      → weight_of (with_knots e one).map s t n ≡ weight_of (with_knots e other).map s t n
  pub totals : (e : Float) → (with_knots e one).outcome ≡ Ok tt → (s t : Float) → total_weight (with_knots e one).map s t ≡ total_weight (with_knots e other).map s t
  -- a set-point is refused alike, and a cell answered alike
  pub set_points : (e s t : Float) → evaluation_number (set_point e one s t).answer ≡ evaluation_number (set_point e other s t).answer
  pub cells : (e : Float) (cell : ℕ) → (cell_points e one cell).answer ≡ (cell_points e other cell).answer
  -- any call on both, its positions apart
  pub answers : (e : Float) (call also : MapCall) → call_without call ≡ call_without also → told_without e one call ≡ told_without e other also
  pub after : (e : Float) (call also : MapCall) → call_without call ≡ call_without also → Alike (after_call e one call) (after_call e other also)
  -- any list of calls on both, its positions apart
  pub list_answers : (e : Float) (calls also : List MapCall) → map call_without calls ≡ map call_without also → all_told_without e one calls ≡ all_told_without e other also
  pub list_after : (e : Float) (calls also : List MapCall) → map call_without calls ≡ map call_without also → Alike (map_after_all e one calls) (map_after_all e other also)

-- ---- the theorems
-- what holds of any two maps that lists of calls leave of fresh ones, the two with closenesses, border weights, corners and calls of their own
abbrev pub EveryTwoMaps : (Tmesh → Tmesh → Type 0) → Type 0
EveryTwoMaps Holds =
    (e f weight border : Float) (a b c d a' b' c' d' : Position) (calls also : List MapCall)
    → Holds (map_after_all e (new_tmesh weight a b c d) calls) (map_after_all f (new_tmesh border a' b' c' d') also)

abbrev pub AlikeMaps : Type 0
AlikeMaps = EveryTwoMaps (λ one other. Alike one other → Same one other)

-- fresh maps of one border weight and any corners, and lists alike but for positions
abbrev pub AlikeLists : Type 0
AlikeLists =
    (e weight : Float) (a b c d a' b' c' d' : Position) (calls also : List MapCall)
    → map call_without calls ≡ map call_without also
    → (all_told_without e (new_tmesh weight a b c d) calls ≡ all_told_without e (new_tmesh weight a' b' c' d') also)
    × Alike (map_after_all e (new_tmesh weight a b c d) calls) (map_after_all e (new_tmesh weight a' b' c' d') also)
