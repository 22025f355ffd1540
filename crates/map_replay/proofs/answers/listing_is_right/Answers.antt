-- `listing_is_right` meets its contract: the loop has compared the first n flags.
use mathlib.Core.Path.{sym}
use Rattle.map_replay.proofs.AnswersLaws.{listing_none, listing_more}
use Rattle.map_replay.proofs.answers.listing_is_right.Goals as goal

pub loop-n-init : goal.loop-n-init
loop-n-init c = sym (listing_none _ _)

pub loop-n-preserved : goal.loop-n-preserved
loop-n-preserved c = let l = c.loop-n in rw (c.both-right.ensures, l.invariant, c.flag_is_at.ensures, c.wide.ensures, c.is_listed.ensures) (sym (listing_more l.n _ _))
