-- `two_entries` meets its contract: it is what the cast gives.
use mathlib.Core.Path.{ap}
use Rattle.ray.specs.Knots.{held, two_entries}
use Rattle.ray.proofs.knots.two_entries.Goals as goal

pub returns : goal.returns
unfolding two_entries
returns c = ap held c.cast-outcome.ensures
