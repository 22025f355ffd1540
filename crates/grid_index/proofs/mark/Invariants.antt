-- `mark` meets its contract: at each turn the words of the lines below i are marked, and the others are as they were.
use Rattle.grid_index.proofs.IndexLaws.{MarkedTo}
use Rattle.grid_index.proofs.mark.Given as goal

abbrev pub invariant-loop-i : goal.invariant-loop-i
invariant-loop-i l = MarkedTo l.initial.words l.bit l.first l.last l.i l.words
