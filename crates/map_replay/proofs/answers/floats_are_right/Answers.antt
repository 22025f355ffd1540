-- `floats_are_right` meets its contract: the loop has compared the first n floats.
use mathlib.Core.Path.{sym}
use Rattle.map_replay.proofs.AnswersLaws.{floats_none, floats_more}
use Rattle.map_replay.proofs.answers.floats_are_right.Goals as goal

pub loop-n-init : goal.loop-n-init
loop-n-init c = sym (floats_none _ _)

pub loop-n-preserved : goal.loop-n-preserved
loop-n-preserved c = let l = c.loop-n in rw (c.both-right.ensures, l.invariant, c.float_is_at.ensures) (sym (floats_more l.n _ _))
