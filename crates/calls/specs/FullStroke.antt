-- NEVER PAST FULL STROKE. Take any closeness e, any border weight w ≥ 0.0 (−0.0 and infinity are, a NaN is not), any four corners, any
-- list of calls on the map made from them, and any axis. If the four corners lie in 0 to 1 on the axis, and so does the position of
-- every insertion of the list that is answered done, then every evaluation of the list whose answer has a positive and finite total
-- weight lies in 0 to 1 on the axis, both ends included, as the float that it is; and so does every set-point of the list that is a
-- value, of whose weight nothing is asked. Its place lies on the map: s and t in 0 to 1.
-- Nothing is asked of the insertions that are refused, torn or withdrawn, of the questions, of the other axes, of what the evaluations and the set-points
-- are given, or of the list's length; and nothing of the pulls: it holds with any pulls, set anywhere in the list, accepted or refused.
-- `le` and `lt` are f64's comparisons, false where either side is a NaN; `T b` says that the test b is true.
use Rattle.std.specs.Prelude.{ℕ, ◌≡◌, Bool, false, List, [], ◌∷◌, T, Float, Ok}
use Rattle.std.specs.Float.{inf}
use Rattle.std.specs.Float.Ieee.{lt, le}
use Rattle.float64.specs.Sign.{0f, 1f}
use Rattle.control_point.specs.declared.t_mesh_direction.TmeshDirection.{TmeshDirection}
use Rattle.insertion.specs.declared.insertion.Insertion.TheVariants.{Done}
use Rattle.t_mesh.specs.Tmesh.{Axis, coordinate, new_tmesh}
use Rattle.t_mesh.specs.declared.t_mesh.Position.{Position}
use Rattle.surface.specs.Evaluation.{on_axis}
use Rattle.surface.specs.declared.evaluation.Evaluation.{Evaluation}
use Rattle.calls.specs.Calls.{Call, insertion, set_point_call, inserted, evaluated, Event, run_of}

-- from 0 to 1, both ends included
abbrev pub InUnit : Float → Type 0
InUnit x = T (le 0f x) × T (le x 1f)

-- a place and what is answered there, each in 0 to 1
abbrev pub InUnitAt : Float → Float → Float → Type 0
InUnitAt s t x = InUnit s × (InUnit t × InUnit x)

-- of every element of a list
abbrev pub Each : {A : Type 0} → (A → Type 0) → List A → Type 0
Each P [] = Unit {0}
Each P (x ∷ rest) = P x × Each P rest

-- if the event is an insertion answered done, its position lies in 0 to 1 on the axis
abbrev pub DoneInUnit : Axis → Event → Type 0
DoneInUnit axis event =
    (withdraws : Bool) (con : ℕ) (d : TmeshDirection) (ratio : Float) (position : Position) (opened links : ℕ)
    → event.call ≡ insertion withdraws con d ratio position
    → event.answer ≡ inserted (Ok (Done opened links))
    → InUnit (coordinate axis position)

-- if the event is an evaluation, or a set-point, whose answer has a positive and finite total weight, it lies in 0 to 1 on the axis
abbrev pub EvaluationInUnit : Axis → Event → Type 0
EvaluationInUnit axis event =
    (value : Evaluation)
    → event.answer ≡ evaluated (Ok value)
    → T (lt 0f value.weight)
    → T (lt value.weight (inf false))
    → InUnit (on_axis axis value)

-- if the event is a set-point whose answer is a value, its place and the value on the axis lie in 0 to 1
abbrev pub SetPointInUnit : Axis → Event → Type 0
SetPointInUnit axis event =
    (s t : Float) (value : Evaluation) → event.call ≡ set_point_call s t → event.answer ≡ evaluated (Ok value) → InUnitAt s t (on_axis axis value)

-- the premises, of a closeness, a border weight, four corners, an axis and a list of calls on the map made from them
pub record Premises (e w : Float) (at_bottom_left at_bottom_right at_top_right at_top_left : Position) (axis : Axis) (calls : List Call) : Type 0 where
  pub border : T (le 0f w)
  pub bottom_left : InUnit (coordinate axis at_bottom_left)
  pub bottom_right : InUnit (coordinate axis at_bottom_right)
  pub top_right : InUnit (coordinate axis at_top_right)
  pub top_left : InUnit (coordinate axis at_top_left)
  pub done : Each (DoneInUnit axis) (run_of e (new_tmesh w at_bottom_left at_bottom_right at_top_right at_top_left) calls)

abbrev pub NeverPastFullStroke : Type 0
NeverPastFullStroke =
    (e w : Float) (at_bottom_left at_bottom_right at_top_right at_top_left : Position) (axis : Axis) (calls : List Call)
    → Premises e w at_bottom_left at_bottom_right at_top_right at_top_left axis calls
    → let run = run_of e (new_tmesh w at_bottom_left at_bottom_right at_top_right at_top_left) calls in
    Each (EvaluationInUnit axis) run × Each (SetPointInUnit axis) run
