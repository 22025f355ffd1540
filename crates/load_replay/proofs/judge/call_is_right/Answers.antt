-- `call_is_right` meets its contract: the page after the call is the page with what the call leaves in the buffer's place.
use Rattle.load_replay.proofs.JudgedLaws.{load_judged}
use Rattle.stored_page.proofs.CallLaws.{call_short, call_no_room}
use Rattle.load_replay.proofs.judge.call_is_right.Goals as goal

pub returns-then-call-lt-HELD_AT : goal.returns-then-call-lt-HELD_AT
returns-then-call-lt-HELD_AT c = call_short _ _ _ _ _ c.if-call-lt-HELD_AT.true

pub returns-then-page-end : goal.returns-then-page-end
returns-then-page-end c = call_no_room _ _ _ _ _ c.if-call-lt-HELD_AT.false (rw c.pair_at-end.ensures.value at c.if-page-end.true)

pub returns : goal.returns
returns c =
    let a = c.args in
    rw (c.both.ensures, c.page_holds.ensures, c.after.ensures, c.number_at-3.ensures)
    (load_judged a.call.now a.page.now _ _ _ _ _ c.if-call-lt-HELD_AT.false c.if-page-end.false c.number_at.ensures c.number_at-2.ensures c.pair_at-end.ensures.value
    c.gatemap_load-number.ensures.number
    c.gatemap_load-number.ensures.buffer)
