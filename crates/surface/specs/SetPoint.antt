-- The set-point of a map at (s, t) (`set_point`). Refusals in order: off the map 20, where s or t does not lie from 0 to 1, both ends included (−0.0 is 0, and a NaN lies nowhere); the evaluation's 3, 4, 9;
-- no weight 15, unless the total weight is positive and finite. Off the map nothing is evaluated: the map is the one given, with the knots and the index that it keeps, or none. On it the map is as the
-- evaluation leaves it, whether the set-point is then refused or not. e is the closeness.
use Rattle.std.specs.Prelude.{Bool, false, cond, ◌&&◌, Float, Err, Ok, Result}
use Rattle.std.specs.Float.{inf}
use Rattle.std.specs.Float.Ieee.{lt}
use Rattle.float64.specs.Literals.{zero_literal}
use Rattle.float64.specs.Unit.{in_unit}
use Rattle.control_point.specs.Told.{Told, unless}
use Rattle.control_point.specs.declared.refusal.Refusal.TheVariants.{NoWeight, OffMap}
use Rattle.t_mesh.specs.declared.t_mesh.Tmesh.{Tmesh}
use Rattle.surface.specs.Evaluation.{value_told, value_of, with_knots_table, subs_of}
use Rattle.surface.specs.declared.evaluation.Evaluation.{Evaluation}
use Rattle.surface.specs.declared.evaluation.Evaluated.{Evaluated}
use Rattle.control_point.specs.declared.refusal.Refusal.{Refusal}

-- ---- the place
abbrev pub on_map : Float → Float → Bool
on_map s t = in_unit s && in_unit t

-- ---- the weight
abbrev pub weighty : Evaluation → Bool
weighty value = lt zero_literal value.weight && lt value.weight (inf false)

-- the value, or 15; and its table
unfoldable pub where_weighty : Evaluation → Result Evaluation Refusal
where_weighty value = cond (weighty value) (Ok value) (Err NoWeight)

abbrev pub where_weighty_table : Evaluation → Told
where_weighty_table value = unless 15 (weighty value) (value_told value)

-- the same of an evaluation's answer, and of what an evaluation gives
abbrev pub weighed : Result Evaluation Refusal → Result Evaluation Refusal
weighed (Ok value) = where_weighty value
weighed (Err refusal) = Err refusal

abbrev pub weighed_by : Evaluated → Evaluated
weighed_by evaluated = record { answer = weighed evaluated.answer; map = evaluated.map }

-- ---- the set-point
-- off the map
abbrev pub unevaluated : Tmesh → Evaluated
unevaluated map = record { answer = Err OffMap; map = map }

unfoldable pub set_point : Float → Tmesh → Float → Float → Evaluated
set_point e map s t = cond (on_map s t) (weighed_by (subs_of e map s t)) (unevaluated map)

-- its table
abbrev pub set_point_table : Float → Tmesh → Float → Float → Told
set_point_table e map s t = unless 20 (on_map s t) (with_knots_table e map (λ own. where_weighty_table (value_of own s t)))
