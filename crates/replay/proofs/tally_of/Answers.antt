-- `tally_of` meets its contract: the loop has counted the outcomes of the calls made so far.
use Rattle.std.proofs.Common.{rules, of_calls, arith}
use Rattle.replay.proofs.OutcomesLaws.{counts_none, counts_more, counts_all}
use Rattle.replay.proofs.tally_of.Goals as goal

pub loop-init : goal.loop-init
loop-init g c = (search rules, counts_none _ _)

pub loop-preserved : goal.loop-preserved
loop-preserved g c =
    let gave = rw c.in-Some.is at c.in_ok-is_right.ensures in
    (search of_calls, rw c.counted-tally.ensures (counts_more _ _ _ _ _ _ c.in-Some.is_right c.loop-test.true c.loop.invariant.1 gave))

pub returns-in_default : goal.returns-in_default
returns-in_default g c = counts_all _ _ _ _ _ c.loop.invariant.1 (λ few. (c.next.new.self, rw c.in_default.is at c.in_ok-is_right.ensures))

pub returns : goal.returns
returns g c = counts_all _ _ _ _ _ c.loop.invariant.1 (λ few. absurd (omega (arith, few, c.loop-test.false)))
