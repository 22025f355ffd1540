-- `lent_answer` meets its contract: at each turn the rows of the points below n are filled and the sums by them stand at n, in the map that the arrays hold.
use Rattle.lent_evaluation.proofs.Turn.{LentTurn}
use Rattle.lent_evaluation.proofs.lent_answer.Given as goal

abbrev pub invariant-loop-n : goal.invariant-loop-n
invariant-loop-n l = LentTurn l.closeness l.mesh l.s l.t l.n l.x l.y l.z l.weight
