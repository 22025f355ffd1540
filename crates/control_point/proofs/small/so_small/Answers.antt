-- `so_small` meets its contract: each return picks its case by the first test.
use Rattle.control_point.specs.Small.{small}
use Rattle.control_point.proofs.small.so_small.Goals as goal

pub returns-then-closeness-value : goal.returns-then-closeness-value
unfolding small
returns-then-closeness-value c = simp c.if-closeness-value.true

pub returns-else-closeness-value : goal.returns-else-closeness-value
unfolding small
returns-else-closeness-value c = simp c.if-closeness-value.false
