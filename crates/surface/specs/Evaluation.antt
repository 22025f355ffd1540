-- Evaluation of a map at (s, t) (`subs`). Knots are built only if none are kept. A point's weight is basis product × pull: the
-- product of its two basis functions, rounded, times its pull; the answer is the sum of position × weight over the sum of the weights,
-- axis by axis, each sum from +0.0 over the listed points in the order of their numbers, every product, quotient and sum rounding once;
-- and beside it the sum of the weights. The source has no pulls; without them it is as in Plain.antt.
use Rattle.std.specs.Prelude.{ℕ, zero, suc, ◌+◌, cond, [], ◌∷◌, Float, Err, Ok, Result, ⊤}
use Rattle.std.specs.Float.{binary64}
use Rattle.std.specs.Float.Ieee.{add, mul, div}
use Rattle.float64.specs.Literals.{zero_literal}
use Rattle.basis.specs.Binary64.{binary64_arithmetic, knots}
use Rattle.basis.specs.Formula.{formula}
use Rattle.control_point.specs.Told.{Told, float, tells, refusal_told, refused_or}
use Rattle.grid_index.specs.Index.{knots_in}
use Rattle.ray.specs.declared.knots.PointKnots.{PointKnots}
use Rattle.t_mesh.specs.Tmesh.{Axis, X, Y, Z, coordinate, position_of, pull_of, is_listed}
use Rattle.t_mesh.specs.declared.t_mesh.Place.{Place}
use Rattle.t_mesh.specs.declared.t_mesh.Tmesh.{Tmesh}
use Rattle.knot_vectors.specs.Knots.{generate_knot_vectors}
use Rattle.knot_vectors.specs.declared.knots.Generated.{Generated}
use Rattle.surface.specs.declared.evaluation.Evaluation.{Evaluation}
use Rattle.surface.specs.declared.evaluation.Evaluated.{Evaluated}
use Rattle.surface.specs.declared.evaluation.Share.{Share}
use Rattle.control_point.specs.declared.refusal.Refusal.{Refusal}

-- ---- the answer
-- what it tells: the position and its weight, or the refusal's number
abbrev pub value_told : Evaluation → Told
value_told value = tells (float value.x ∷ (float value.y ∷ (float value.z ∷ (float value.weight ∷ []))))

abbrev pub evaluation_told : Result Evaluation Refusal → Told
evaluation_told (Ok value) = value_told value
evaluation_told (Err refusal) = refusal_told refusal

abbrev pub evaluation_number : Result Evaluation Refusal → ℕ
evaluation_number answer = (evaluation_told answer).number

-- an evaluation's position on an axis
abbrev pub on_axis : Axis → Evaluation → Float
on_axis X value = value.x
on_axis Y value = value.y
on_axis Z value = value.z

-- ---- a point's part
abbrev pub knots_of : Tmesh → ℕ → PointKnots
knots_of map n = knots_in map.knots n

-- the product at (s, t) of the two basis functions of a point's knots, and of the point
abbrev pub basis_by : PointKnots → Float → Float → Float
basis_by own s t = mul binary64 (formula binary64_arithmetic s (knots own.s)) (formula binary64_arithmetic t (knots own.t))

abbrev pub basis_of : Tmesh → Float → Float → ℕ → Float
basis_of map s t n = basis_by (knots_of map n) s t

-- its weight: that product times its pull
abbrev pub weight_by : PointKnots → Float → Float → Float → Float
weight_by own pull s t = mul binary64 (basis_by own s t) pull

abbrev pub weight_of : Tmesh → Float → Float → ℕ → Float
weight_of map s t n = weight_by (knots_of map n) (pull_of map n) s t

-- all of a point's part, as code holds it: its position times its weight, and its weight
abbrev pub share_by : PointKnots → Place → Float → Float → Share
share_by own place s t =
    record {
      x = mul binary64 place.position.x (weight_by own place.pull s t);
      y = mul binary64 place.position.y (weight_by own place.pull s t);
      z = mul binary64 place.position.z (weight_by own place.pull s t);
      weight = weight_by own place.pull s t;
    }

-- ---- the sums
-- a sum with the parts of the listed points among so many, from n on, added in order
unfoldable pub sum_from : Tmesh → (ℕ → Float) → ℕ → ℕ → Float → Float
sum_from map part zero n sum = sum
sum_from map part (suc left) n sum = sum_from map part left (n + 1) (cond (is_listed map n) (add binary64 sum (part n)) sum)

abbrev pub sum_of : Tmesh → (ℕ → Float) → Float
sum_of map part = sum_from map part 128 0 zero_literal

-- with a weight for each number: a point's coordinate on an axis times its weight, the mean on the axis, and the value
abbrev pub share_with : (ℕ → Float) → Axis → Tmesh → ℕ → Float
share_with weight axis map n = mul binary64 (coordinate axis (position_of map n)) (weight n)

abbrev pub mean_with : (ℕ → Float) → Axis → Tmesh → Float
mean_with weight axis map = div binary64 (sum_of map (share_with weight axis map)) (sum_of map weight)

abbrev pub value_with : (ℕ → Float) → Tmesh → Evaluation
value_with weight map = record { x = mean_with weight X map; y = mean_with weight Y map; z = mean_with weight Z map; weight = sum_of map weight }

-- the weights by the knots kept, summed; and the value by them
abbrev pub total_weight : Tmesh → Float → Float → Float
total_weight map s t = sum_of map (weight_of map s t)

unfoldable pub value_of : Tmesh → Float → Float → Evaluation
value_of map s t = value_with (weight_of map s t) map

-- ---- `subs`
-- the value, or why there are no knots
abbrev pub answer_by : Result ⊤ Refusal → Evaluation → Result Evaluation Refusal
answer_by (Ok tt) value = Ok value
answer_by (Err refusal) value = Err refusal

abbrev pub evaluated_by : Result ⊤ Refusal → Tmesh → Float → Float → Evaluated
evaluated_by outcome map s t = record { answer = answer_by outcome (value_of map s t); map = map }

-- with knots kept: those kept, or those built
unfoldable pub with_knots : Float → Tmesh → Generated
with_knots e map = cond map.kept (record { outcome = Ok tt; map = map }) (generate_knot_vectors e map)

unfoldable pub subs_of : Float → Tmesh → Float → Float → Evaluated
subs_of e map s t = evaluated_by (with_knots e map).outcome (with_knots e map).map s t

-- the table of what wants knots: those kept; only if none are, they are built, and a ray's refusal is told
abbrev pub with_knots_table : Float → Tmesh → (Tmesh → Told) → Told
with_knots_table e map next =
    cond map.kept (next map) (refused_or (generate_knot_vectors e map).outcome (next (generate_knot_vectors e map).map))

-- its table: the value, by the knots
abbrev pub subs_table : Float → Tmesh → Float → Float → Told
subs_table e map s t = with_knots_table e map (λ own. value_told (value_of own s t))
