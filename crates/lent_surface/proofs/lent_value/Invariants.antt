-- `lent_value` meets its contract: at each turn the four sums of the map that the arrays hold stand at n.
use Prim.Native.Nat.{◌-◌}
use Rattle.surface.proofs.EvaluationLaws.{Sums}
use Rattle.lent_surface.specs.Lent.{held_map}
use Rattle.lent_surface.proofs.lent_value.Given as goal

abbrev pub invariant-loop-n : goal.invariant-loop-n
invariant-loop-n l = Sums (held_map l.across l.upwards l.places l.listed) l.s l.t l.n l.x l.y l.z l.weight
