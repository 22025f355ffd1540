-- `page_holds` meets its contract: the loop has compared the first n bytes.
use mathlib.Core.Path.{sym}
use Rattle.stored_page.proofs.PageLaws.{holds_none, holds_more}
use Rattle.stored_page.proofs.page_holds.Goals as goal

pub loop-n-init : goal.loop-n-init
loop-n-init c = sym (holds_none _ _)

pub loop-n-preserved : goal.loop-n-preserved
loop-n-preserved c =
    let l = c.loop-n in
    rw (c.both-right.ensures, l.invariant, c.expected_byte.ensures) (sym (holds_more l.n _ _))
