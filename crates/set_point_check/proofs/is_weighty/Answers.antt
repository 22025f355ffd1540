-- `is_weighty` meets its contract: each return picks its case by the first test, and 1.0 / 0.0 is the infinity.
use Rattle.float64.proofs.BitsLaws.{infinity}
use Rattle.set_point_check.proofs.is_weighty.Goals as goal

pub returns-then-value : goal.returns-then-value
returns-then-value c = simp (c.if-value.true, infinity)
