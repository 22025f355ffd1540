-- `packed_points` meets its contract: the points of the arrays below k stand in the list.
use Rattle.lent_points.specs.Lent.{lent_points}
use Rattle.lent_points.proofs.LentLaws.{PackedTo}
use Rattle.packed_map.proofs.packed_points.Given as goal

abbrev pub invariant-loop-k : goal.invariant-loop-k
invariant-loop-k l = PackedTo l.k (lent_points l.lent) l.initial.points l.points
