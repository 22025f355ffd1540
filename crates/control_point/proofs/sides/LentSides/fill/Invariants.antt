-- `fill` meets its contract: at each turn the sides of the first n points are right.
use Rattle.control_point.specs.Sides.{lent_sides, Full}
use Rattle.control_point.proofs.SidesLaws.{RightTo}
use Rattle.control_point.proofs.sides.LentSides.fill.Given as goal

abbrev pub invariant-loop-n : goal.invariant-loop-n
invariant-loop-n l = Full l.self × RightTo l.n (lent_sides l.self) l.points
