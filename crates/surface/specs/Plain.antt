-- WITHOUT PULLS. So the source evaluates: a point's weight is the product of its two basis functions, and nothing else. Take any closeness, any map each of whose
-- listed points has the pull 1.0, and any (s, t). Then `subs` answers what the evaluation without pulls answers, bit for bit, and leaves the same map.
use Rattle.std.specs.Prelude.{ℕ, ◌≡◌, true, Float}
use Rattle.float64.specs.Literals.{one_literal}
use Rattle.t_mesh.specs.Tmesh.{pull_of, is_listed}
use Rattle.t_mesh.specs.declared.t_mesh.Tmesh.{Tmesh}
use Rattle.surface.specs.Evaluation.{basis_of, value_with, answer_by, with_knots, subs_of}
use Rattle.surface.specs.declared.evaluation.Evaluated.{Evaluated}
use Rattle.surface.specs.declared.evaluation.Evaluation.{Evaluation}

-- the value by the knots kept
unfoldable pub plain_value : Tmesh → Float → Float → Evaluation
plain_value map s t = value_with (basis_of map s t) map

-- knots are built only if none are kept
abbrev pub plain_subs : Float → Tmesh → Float → Float → Evaluated
plain_subs e map s t = record { answer = answer_by (with_knots e map).outcome (plain_value (with_knots e map).map s t); map = (with_knots e map).map }

-- ---- the theorem
-- each listed point has the pull 1.0
abbrev pub Unpulled : Tmesh → Type 0
Unpulled map = (n : ℕ) → is_listed map n ≡ true → pull_of map n ≡ one_literal

abbrev pub UnpulledIsPlain : Type 0
UnpulledIsPlain = (e : Float) (map : Tmesh) (s t : Float) → Unpulled map → subs_of e map s t ≡ plain_subs e map s t
