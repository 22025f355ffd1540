-- `expected_byte` meets its contract: in front of the buffer and behind what it holds the filler is due.
use Rattle.stored_page.proofs.PageLaws.{expected_before, expected_within, expected_behind}
use Rattle.stored_page.proofs.expected_byte.Goals as goal

pub returns-then-place-lt-GUARD : goal.returns-then-place-lt-GUARD
returns-then-place-lt-GUARD c = expected_before _ _ c.if-place-lt-GUARD.true

pub returns-then-at-held : goal.returns-then-at-held
returns-then-at-held c = expected_within _ _ c.if-place-lt-GUARD.false c.if-at-held.true

pub returns : goal.returns
returns c = expected_behind _ _ c.if-place-lt-GUARD.false c.if-at-held.false
