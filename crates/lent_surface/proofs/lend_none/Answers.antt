-- `lend_none` meets its contract: what it stores is the definition's.
use lib.Ieee.{of_bits}
use mathlib.Core.Path.{refl}
use Rattle.lent_surface.specs.Lent.{none_lent}
use Rattle.lent_surface.proofs.lend_none.Goals as goal

pub returns : goal.returns
unfolding of_bits none_lent
returns c = refl
