-- `subs` meets its contract: the map by whose knots it evaluates is the definition's, and at each turn the four sums stand at n.
use Prim.Native.Nat.{◌-◌}
use Rattle.surface.proofs.EvaluationLaws.{Sums}
use Rattle.evaluation.proofs.evaluation.subs.Given as goal

abbrev pub invariant-loop-n : goal.invariant-loop-n
invariant-loop-n l = Sums l.map l.s l.t l.n l.x l.y l.z l.weight
