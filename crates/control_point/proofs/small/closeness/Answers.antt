-- `closeness` meets its contract: it is that quotient.
use mathlib.Core.Path.{refl}
use Rattle.control_point.specs.Small.{millionth}
use Rattle.control_point.proofs.small.closeness.Goals as goal

pub returns : goal.returns
unfolding millionth
returns c = refl
