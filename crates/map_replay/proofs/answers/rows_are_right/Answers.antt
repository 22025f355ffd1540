-- `rows_are_right` meets its contract: the loop has compared the rows of the listed points among the first n.
use mathlib.Core.Path.{sym}
use Rattle.map_replay.proofs.AnswersLaws.{rows_none, rows_more}
use Rattle.map_replay.proofs.answers.rows_are_right.Goals as goal

pub loop-n-init : goal.loop-n-init
loop-n-init c = sym (rows_none _ _ _)

pub loop-n-preserved : goal.loop-n-preserved
loop-n-preserved c = let l = c.loop-n in rw (c.both-right.ensures, l.invariant, c.listed_row_is_right-own.ensures, c.after.ensures, c.is_listed.ensures, c.listed_below-place.ensures.value) (sym (rows_more l.n _ _ _))
