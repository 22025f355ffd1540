-- What holds of a map through every call, for one axis: its mesh and its rows of knots are good, each listed point lies in 0 to 1, and no pull is negative.
-- Nothing is said of which knots are kept: the bound holds for any good rows, also for those of an older mesh.
use Rattle.std.specs.Prelude.{ℕ, ◌≡◌, Bool, true, false, List, [], ◌∷◌, T, Float, Err, Ok, Result}
use Rattle.std.specs.Float.{inf}
use Rattle.std.specs.Float.Ieee.{lt}
use Rattle.float64.specs.Sign.{0f}
use Rattle.t_mesh.specs.Tmesh.{Axis, coordinate, pull_of, store_of}
use Rattle.t_mesh.specs.declared.t_mesh.Place.{Place}
use Rattle.t_mesh.specs.declared.t_mesh.Tmesh.{Tmesh}
use Rattle.surface.specs.Evaluation.{on_axis}
use Rattle.calls.specs.Calls.{Answer, inserted, evaluated, questioned, pulled}
use Rattle.calls.specs.FullStroke.{InUnit, InUnitAt}
use Rattle.calls.specs.Good.{NotNegative, GoodStore, GoodRows}
use Rattle.control_point.specs.declared.refusal.Refusal.{Refusal}
use Rattle.surface.specs.declared.evaluation.Evaluation.{Evaluation}

-- a position for each listed number, in 0 to 1 on the axis
abbrev pub ListedInUnit : Axis → List Bool → List Place → Type 0
ListedInUnit axis [] places = Unit {0}
ListedInUnit axis (listed ∷ more) [] = ⊥
ListedInUnit axis (listed ∷ more) (place ∷ places) = (listed ≡ true → InUnit (coordinate axis place.position)) × ListedInUnit axis more places

-- the mesh, the rows of knots, the listed points, and the pulls
pub record Sound (axis : Axis) (map : Tmesh) : Type 0 where
  pub mesh : GoodStore (store_of map)
  pub rows : GoodRows map.knots
  pub points : ListedInUnit axis map.mesh.listed map.mesh.places
  pub pulls : (n : ℕ) → NotNegative (pull_of map n)

-- an answer that is a value lies in 0 to 1 on the axis
abbrev pub ValueInUnit : Axis → Result Evaluation Refusal → Type 0
ValueInUnit axis (Ok value) = InUnit (on_axis axis value)
ValueInUnit axis (Err refusal) = Unit {0}

-- and so does the place (s, t) at which it is answered
abbrev pub ValueInUnitAt : Axis → Float → Float → Result Evaluation Refusal → Type 0
ValueInUnitAt axis s t (Ok value) = InUnitAt s t (on_axis axis value)
ValueInUnitAt axis s t (Err refusal) = Unit {0}

-- an answer that is a value with a positive and finite total weight lies in 0 to 1 on the axis
abbrev pub AnswerInUnit : Axis → Answer → Type 0
AnswerInUnit axis (inserted answer) = Unit {0}
AnswerInUnit axis (evaluated (Ok value)) = T (lt 0f value.weight) → T (lt value.weight (inf false)) → InUnit (on_axis axis value)
AnswerInUnit axis (evaluated (Err refusal)) = Unit {0}
AnswerInUnit axis (questioned answer) = Unit {0}
AnswerInUnit axis (pulled outcome) = Unit {0}
