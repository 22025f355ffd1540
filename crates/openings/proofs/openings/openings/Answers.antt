-- `openings` meets its contract: at each turn the openings among the sides passed are listed.
use native.Mathlib.Omega.{arith}
use Rattle.openings.proofs.OpeningsLaws.{answer_after}
use Rattle.openings.proofs.openings.openings.Goals as goal
use Rattle.openings.proofs.openings.openings.Goals.{then-is_open, else-is_open}

pub loop-place-preserved : goal.loop-place-preserved
loop-place-preserved c =
    answer_after c.args.store c.loop-place.place c.loop-place.list c.if-is_open.list c.is_open.result (omega arith) c.loop-place.invariant c.is_open.ensures
    (elim c.if-is_open.branch [ then-is_open w ↦ rw (w.if-is_open.true, w.list-is) | else-is_open w ↦ rw (w.if-is_open.false, w.list-is) ])
