use borrow.Author.Tests.{le-ltb, lt-ltb}
use Rattle.control_point.specs.Point.{is_made}
use Rattle.control_point.proofs.t_mesh_control_point.is_made.Goals as goal

pub returns-then-n-made : goal.returns-then-n-made
unfolding is_made
returns-then-n-made c = simp (lt-ltb _ _ c.if-n-made.true)

pub returns-else-n-made : goal.returns-else-n-made
unfolding is_made
returns-else-n-made c = simp (le-ltb _ _ c.if-n-made.false)
