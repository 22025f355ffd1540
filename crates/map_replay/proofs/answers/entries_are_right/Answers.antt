-- `entries_are_right` meets its contract: the loop has compared the first i entries.
use mathlib.Core.Path.{sym}
use Rattle.map_replay.proofs.AnswersLaws.{entries_none, entries_more}
use Rattle.map_replay.proofs.answers.entries_are_right.Goals as goal

pub loop-i-init : goal.loop-i-init
loop-i-init c = sym (entries_none _ _)

pub loop-i-preserved : goal.loop-i-preserved
loop-i-preserved c =
    let l = c.loop-i in
    rw (c.both-right.ensures, l.invariant, c.both-own.ensures, c.entry_byte-in-loop-i.ensures, c.entry_byte.ensures) (sym (entries_more l.i _ _))
