-- `with_knots` meets its contract: its test is the definition's.
use mathlib.Core.Path.{refl}
use Rattle.control_point.specs.Small.{millionth}
use Rattle.surface.proofs.EvaluationLaws.{ready_kept, ready_built}
use Rattle.kept_knots.proofs.with_knots.Goals as goal

pub returns-then-map : goal.returns-then-map
returns-then-map c = ready_kept millionth c.args.map _ _ c.if-map.true refl refl

pub returns : goal.returns
returns c = ready_built millionth c.args.map _ _ c.generate_knot_vectors.result c.generate_knot_vectors.ensures.is c.if-map.false refl refl
