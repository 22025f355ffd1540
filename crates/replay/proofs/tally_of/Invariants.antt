-- `tally_of` meets its contract: the loop has counted the outcomes of the calls made so far.
use Rattle.replay.proofs.OutcomesLaws.{CountsSoFar}
use Rattle.replay.proofs.tally_of.Given as goal

abbrev pub invariant-loop : goal.invariant-loop
invariant-loop g l = goal.N-IsAlwaysCallable g l.next × CountsSoFar (goal.N-step g) l.fn.next l.counter l.next l.tally
