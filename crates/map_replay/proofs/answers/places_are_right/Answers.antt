-- `places_are_right` meets its contract: the loop has compared the first n places.
use mathlib.Core.Path.{sym}
use Rattle.map_replay.proofs.AnswersLaws.{places_none, places_more}
use Rattle.map_replay.proofs.answers.places_are_right.Goals as goal

pub loop-n-init : goal.loop-n-init
loop-n-init c = sym (places_none _ _)

pub loop-n-preserved : goal.loop-n-preserved
loop-n-preserved c = let l = c.loop-n in rw (c.both-right.ensures, l.invariant, c.place_is_right.ensures, c.after.ensures) (sym (places_more l.n _ _))
