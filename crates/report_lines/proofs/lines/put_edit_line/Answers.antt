-- `put_edit_line` meets its contract: the parts of the line are put one behind the other, or nothing is.
use borrow.Author.Tests.{ne_eqb}
use Rattle.report_text.proofs.PutLaws.{put_none, put_then}
use Rattle.report_lines.proofs.lines.put_edit_line.Goals as goal

pub returns-then-number-eq0 : goal.returns-then-number-eq0
returns-then-number-eq0 c = rw c.if-number-eq0.true (put_none _ _)

pub returns : goal.returns
returns c =
    rw (ne_eqb _ _ c.if-number-eq0.false) (put_then c.put_labelled-named.ensures (put_then c.put_refused-end.ensures c.put_text.ensures))
